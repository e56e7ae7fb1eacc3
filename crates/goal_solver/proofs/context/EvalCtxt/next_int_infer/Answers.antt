use Rattle.std.proofs.Common.{◌∙◌, ap}
use Rattle.goal_terms.specs.Tree.{variable}
use Rattle.goal_terms.specs.declared.heads.Variable.TheVariants as variables
use Rattle.goal_terms.specs.declared.terms.InferTy.TheVariants as infer
use Rattle.goal_terms.proofs.TreeLemmas.{tree_of_ty-Infer}
use Rattle.goal_solver.proofs.context.EvalCtxt.next_int_infer.Goals as goal

pub returns-clause-fresh : goal.returns-clause-fresh
returns-clause-fresh c =
    tree_of_ty-Infer (infer.IntVar c.in_ok-next_variable.field-0)
    ∙ ap (λ n. variable (variables.Ty (infer.IntVar n))) c.in_ok-next_variable.ensures.number
