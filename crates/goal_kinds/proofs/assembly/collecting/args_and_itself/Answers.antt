use Rattle.std.proofs.Common.{◌∙◌, ◌++◌, ◌∷◌, [], drop, map, ap, ap₂}
use Rattle.goal_terms.specs.Erased.{erased}
use Rattle.goal_terms.specs.TreeOf.{trees_of}
use Rattle.goal_kinds.proofs.CollectedTermLemmas.{itself-copied}
use Rattle.goal_kinds.proofs.assembly.collecting.args_and_itself.Goals as goal

pub returns : goal.returns
returns c =
    ap (map erased)
    (c.in_ok-rebase_onto.ensures
    ∙ ap₂ (λ xs ys. trees_of xs ++ drop 0 (trees_of ys)) c.deref-2.ensures.value (c.deref.ensures.value ∙ c.in_ok-rigid_alias.ensures.items)
    ∙ ap (λ t. trees_of c.args.alias.now.args.items ++ t ∷ []) (itself-copied c.args.alias.now c.in_ok-clone.field-0 c.in_ok-clone.ensures.cases))
