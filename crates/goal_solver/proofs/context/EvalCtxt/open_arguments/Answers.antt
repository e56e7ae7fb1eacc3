use Rattle.goal_solver.proofs.GoingBackLemmas.{goes_back-same}
use Rattle.goal_solver.proofs.context.EvalCtxt.open_arguments.Goals as goal

pub returns-in-Given-clause-goes_back : goal.returns-in-Given-clause-goes_back
returns-in-Given-clause-goes_back c = goes_back-same c.args.self.now

pub returns-in-Followed-clause-goes_back : goal.returns-in-Followed-clause-goes_back
returns-in-Followed-clause-goes_back c = goes_back-same c.args.self.now
