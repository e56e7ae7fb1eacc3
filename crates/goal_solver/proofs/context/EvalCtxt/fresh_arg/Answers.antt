use Rattle.std.proofs.Common.{◌∙◌, ap, sym, length}
use Rattle.goal_terms.specs.TreeOf.{leaf}
use Rattle.goal_terms.specs.declared.heads.Head.TheVariants as head
use Rattle.goal_terms.proofs.TreeLemmas.{tree_of_arg-Ty, tree_of_arg-Const, tree_of_arg-Lifetime}
use Rattle.goal_solver.specs.State.{kinds_of}
use Rattle.goal_solver.specs.Variables.{fresh_arg}
use Rattle.goal_solver.proofs.context.EvalCtxt.fresh_arg.Goals as goal

pub returns-in_ok-next_ty_infer-in-Ty-clause-fresh : goal.returns-in_ok-next_ty_infer-in-Ty-clause-fresh
returns-in_ok-next_ty_infer-in-Ty-clause-fresh c =
    tree_of_arg-Ty c.in_ok-next_ty_infer-in-Ty.field-0 ∙ c.in_ok-next_ty_infer-in-Ty.ensures.fresh
    ∙ ap (λ p. fresh_arg p (length (kinds_of c.args.self.now))) (sym c.in-Ty.is)

pub returns-in_ok-next_const_infer-in-Const-clause-fresh : goal.returns-in_ok-next_const_infer-in-Const-clause-fresh
returns-in_ok-next_const_infer-in-Const-clause-fresh c =
    tree_of_arg-Const c.in_ok-next_const_infer-in-Const.field-0 ∙ c.in_ok-next_const_infer-in-Const.ensures.fresh
    ∙ ap (λ p. fresh_arg p (length (kinds_of c.args.self.now))) (sym c.in-Const.is)

pub returns-in_ok-next_region_var-in-Lifetime-clause-fresh : goal.returns-in_ok-next_region_var-in-Lifetime-clause-fresh
returns-in_ok-next_region_var-in-Lifetime-clause-fresh c =
    tree_of_arg-Lifetime c.in_ok-next_region_var-in-Lifetime.field-0
    ∙ ap (λ r. leaf (head.Lifetime r)) c.in_ok-next_region_var-in-Lifetime.ensures.fresh
    ∙ ap (λ p. fresh_arg p (length (kinds_of c.args.self.now))) (sym c.in-Lifetime.is)
