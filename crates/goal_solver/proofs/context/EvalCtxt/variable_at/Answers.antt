use Rattle.std.proofs.Common.{refl, sym, ◌∙◌}
use Rattle.goal_solver.proofs.ResponseLemmas.{made-below, made-kind, made-variable, no_lifetime}
use Rattle.goal_solver.proofs.context.EvalCtxt.variable_at.Goals as goal

pub variable-requires : goal.variable-requires
variable-requires c = made-below _ c.args.self.now c.requires.made.0 c.args.number c.self.view_is c.requires.made.1 c.requires.made.2

pub unreachable-requires : goal.unreachable-requires
unreachable-requires c =
    no_lifetime c.requires.made.0
    (sym c.in-Region.is ∙ made-kind _ c.args.self.now c.requires.made.0 c.args.number c.variable.result c.self.view_is c.variable.ensures c.requires.made.1 c.requires.made.2)

pub returns-in-Ty : goal.returns-in-Ty
returns-in-Ty c = λ v e m. made-variable _ c.args.self.now _ v c.args.number c.variable.result c.self.view_is c.variable.ensures refl c.in-Ty.is e m

pub returns-in-Int : goal.returns-in-Int
returns-in-Int c = λ v e m. made-variable _ c.args.self.now _ v c.args.number c.variable.result c.self.view_is c.variable.ensures refl c.in-Int.is e m

pub returns-in-Float : goal.returns-in-Float
returns-in-Float c = λ v e m. made-variable _ c.args.self.now _ v c.args.number c.variable.result c.self.view_is c.variable.ensures refl c.in-Float.is e m

pub returns-in-Const : goal.returns-in-Const
returns-in-Const c = λ v e m. made-variable _ c.args.self.now _ v c.args.number c.variable.result c.self.view_is c.variable.ensures refl c.in-Const.is e m
