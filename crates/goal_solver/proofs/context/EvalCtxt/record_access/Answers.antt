use Rattle.std.proofs.Common.{rules}
use Rattle.goal_solver.proofs.GoingBackLemmas.{goes_back-when_same, goes_back-accesses}
use Rattle.goal_solver.proofs.RecordedLemmas.{set-entered, begins-entered}
use Rattle.goal_solver.proofs.context.EvalCtxt.record_access.Goals as goal

pub returns-then-is_err-clause-goes_back : goal.returns-then-is_err-clause-goes_back
returns-then-is_err-clause-goes_back c = goes_back-when_same c.args.self.now _ (search rules)

pub invariant_of-self-2 : goal.invariant_of-self-2
invariant_of-self-2 c = (
  c.self.invariant.0,
  c.self.invariant.1,
  c.self.invariant.2,
  set-entered c.args.access c.self.inside.accesses.items c.enter_access.new.accesses.items (search rules) c.self.invariant.3,
  c.self.invariant.4,
  c.self.invariant.5,
  c.self.invariant.6,
)

pub returns-clause-goes_back : goal.returns-clause-goes_back
returns-clause-goes_back c = goes_back-accesses c.args.self.now _ (search rules) (begins-entered c.args.access c.args.self.now.accesses c.enter_access.new.accesses.items (search rules))
