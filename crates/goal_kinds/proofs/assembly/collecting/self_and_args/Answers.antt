use Rattle.std.proofs.Common.{◌∙◌, ◌++◌, ◌∷◌, drop, map, ap}
use Rattle.goal_terms.specs.Erased.{erased}
use Rattle.goal_terms.specs.TreeOf.{trees_of}
use Rattle.goal_terms.proofs.TreeLemmas.{tree_of_arg-Ty}
use Rattle.goal_kinds.proofs.assembly.collecting.self_and_args.Goals as goal

pub returns : goal.returns
returns c =
    ap (map erased)
    (c.in_ok-rebase_onto.ensures
    ∙ ap (λ xs. trees_of xs ++ drop 0 (trees_of c.args.args.now)) (c.deref.ensures.value ∙ c.in_ok-first.ensures.items)
    ∙ ap (λ t. t ∷ trees_of c.args.args.now) (tree_of_arg-Ty c.in_ok-clone.field-0 ∙ c.in_ok-clone.ensures.cases))
