use Rattle.goal_solver.proofs.GoingBackLemmas.{goes_back-same}
use Rattle.goal_solver.proofs.context.EvalCtxt.repeat.Goals as goal

pub returns-in-Undecided-clause-goes_back : goal.returns-in-Undecided-clause-goes_back
returns-in-Undecided-clause-goes_back c = goes_back-same c.args.self.now

pub returns-in-Refuted-clause-goes_back : goal.returns-in-Refuted-clause-goes_back
returns-in-Refuted-clause-goes_back c = goes_back-same c.args.self.now
