use Rattle.goal_solver.proofs.GoingBackLemmas.{goes_back-same}
use Rattle.goal_solver.proofs.context.EvalCtxt.take_first.Goals as goal

pub returns-in_default-clause-goes_back : goal.returns-in_default-clause-goes_back
returns-in_default-clause-goes_back c = goes_back-same c.args.self.now

pub returns-in-Expected-clause-goes_back : goal.returns-in-Expected-clause-goes_back
returns-in-Expected-clause-goes_back c = goes_back-same c.args.self.now

pub returns-in-None-clause-goes_back : goal.returns-in-None-clause-goes_back
returns-in-None-clause-goes_back c = goes_back-same c.args.self.now
