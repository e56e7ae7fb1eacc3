use Rattle.std.proofs.Common.{◌∙◌, ◌++◌, ◌∷◌, drop, refl, ap, ap₂}
use Rattle.goal_terms.specs.TreeOf.{trees_of}
use Rattle.goal_terms.proofs.TreeLemmas.{tree_of_arg-Ty}
use Rattle.goal_kinds.proofs.rules.trait_goal_kind.with_self.Goals as goal

pub returns : goal.returns
returns c = (
  refl,
  c.in_ok-args.ensures
      ∙ ap₂ (λ xs ys. trees_of xs ++ drop 1 (trees_of ys)) (c.deref-2.ensures.value ∙ c.in_ok-first.ensures.items) c.deref.ensures.value
      ∙ ap (λ t. t ∷ drop 1 (trees_of c.args.asked.now.args.items)) (tree_of_arg-Ty c.args.self_ty),
)
