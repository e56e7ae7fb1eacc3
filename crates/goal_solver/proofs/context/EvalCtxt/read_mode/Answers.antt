use Rattle.goal_solver.proofs.GoingBackLemmas.{goes_back-same}
use Rattle.goal_solver.proofs.RecordedLemmas.{entered-contains}
use Rattle.goal_solver.proofs.context.EvalCtxt.read_mode.Goals as goal

pub returns-then-is_erased-clause-goes_back : goal.returns-then-is_erased-clause-goes_back
returns-then-is_erased-clause-goes_back c = goes_back-same c.args.self.now

pub returns-clause-recorded : goal.returns-clause-recorded
returns-clause-recorded c = entered-contains c.args.access c.args.self.now.accesses c.record_access.new.self.accesses c.in-Ok.ensures.recorded.0
