use Rattle.std.proofs.Common.{◌∙◌, ◌++◌, ◌∷◌, [], ap}
use Rattle.goal_terms.specs.TreeOf.{trees_of}
use Rattle.goal_terms.specs.declared.terms.GenericArg.TheVariants as arg
use Rattle.goal_terms.proofs.TreeLemmas.{tree_of_arg-Ty}
use Rattle.goal_solver.proofs.eval.run_rule.open_arguments.only_type.Goals as goal

pub returns : goal.returns
returns c =
    ap trees_of (c.in_ok-push.ensures.items ∙ ap (λ xs. xs ++ arg.Ty c.in_ok-copy.copy ∷ []) c.in_ok-made.ensures.items)
    ∙ ap (λ t. t ∷ []) (tree_of_arg-Ty c.in_ok-copy.copy ∙ c.in_ok-copy.ensures.cases)
