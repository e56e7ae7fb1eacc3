use Rattle.goal_solver.proofs.GoingBackLemmas.{goes_back-same}
use Rattle.goal_solver.proofs.context.EvalCtxt.verdict.Goals as goal

pub returns-in-Ok-Holds-clause-goes_back : goal.returns-in-Ok-Holds-clause-goes_back
returns-in-Ok-Holds-clause-goes_back c = goes_back-same c.args.self.now

pub returns-in-Ok-Undecided-clause-goes_back : goal.returns-in-Ok-Undecided-clause-goes_back
returns-in-Ok-Undecided-clause-goes_back c = goes_back-same c.args.self.now

pub returns-in-Ok-Refuted-clause-goes_back : goal.returns-in-Ok-Refuted-clause-goes_back
returns-in-Ok-Refuted-clause-goes_back c = goes_back-same c.args.self.now
