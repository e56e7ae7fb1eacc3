use Rattle.std.proofs.Common.{sym, subst}
use Rattle.goal_solver.specs.GoingBack.{GoesBack}
use Rattle.goal_solver.proofs.GoingBackLemmas.{goes_back-when_same}
use Rattle.goal_solver.proofs.context.EvalCtxt.open_equation.Goals.{in-Projection, in_default-2, in_default}
use Rattle.goal_solver.proofs.context.EvalCtxt.open_equation.Goals as goal

pub returns-clause-goes_back : goal.returns-clause-goes_back
returns-clause-goes_back c = elim c.match-predicate.branch [
  | in-Projection w ↦ subst (GoesBack c.args.self.now) (sym w.self-is) w.relate_all.ensures.goes_back
  | in_default-2 w ↦ goes_back-when_same c.args.self.now _ w.self-is
  | in_default w ↦ goes_back-when_same c.args.self.now _ w.self-is
]
