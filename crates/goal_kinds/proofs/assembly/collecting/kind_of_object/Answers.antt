use Rattle.std.proofs.Common.{◌∙◌, ◌∷◌, [], map, ap, ap₂, sym}
use Rattle.goal_terms.specs.Erased.{erased}
use Rattle.goal_terms.specs.PredicateTrees.{holds, equals}
use Rattle.goal_terms.specs.Tree.{Tree}
use Rattle.goal_terms.specs.TreeOf.{tree_of_ty, trees_of}
use Rattle.goal_lists.specs.Candidates.{assumption}
use Rattle.goal_kinds.proofs.CollectedObjectLemmas.{trait-says, item-says, object-alias}
use Rattle.goal_kinds.proofs.assembly.collecting.kind_of_object.Goals as goal

pub returns-in_ok-args-in-Trait : goal.returns-in_ok-args-in-Trait
returns-in_ok-args-in-Trait c =
    let self : Tree = erased (tree_of_ty c.args.self_ty.now) in
    trait-says self c.args.clause.now c.in-Trait.def_id c.in-Trait.args c.in-Trait.is
    ∙ ap (λ ts. assumption (holds c.in-Trait.def_id ts) ∷ []) (ap (λ xs. self ∷ map erased (trees_of xs)) (sym c.deref.ensures.value) ∙ sym c.in_ok-args-in-Trait.ensures)

pub returns-in_ok-term-in-Projection : goal.returns-in_ok-term-in-Projection
returns-in_ok-term-in-Projection c =
    let self : Tree = erased (tree_of_ty c.args.self_ty.now) in
    item-says self c.args.clause.now c.in-Projection.item c.in-Projection.args c.in-Projection.term c.in-Projection.is
    ∙ ap₂ (λ a t. assumption (equals a t) ∷ [])
    (sym (object-alias self _ (map erased (trees_of c.in-Projection.args.items))
    (c.in_ok-args-in-Projection.ensures ∙ ap (λ xs. self ∷ map erased (trees_of xs)) c.deref-in-Projection.ensures.value)))
    (sym (ap erased c.in_ok-term-in-Projection.ensures.cases))
