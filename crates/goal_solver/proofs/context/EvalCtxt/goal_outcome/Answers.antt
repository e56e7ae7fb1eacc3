use Rattle.goal_solver.proofs.GoingBackLemmas.{goes_back-same}
use Rattle.goal_solver.proofs.context.EvalCtxt.goal_outcome.Goals as goal

pub returns-in-Ambiguous-clause-goes_back : goal.returns-in-Ambiguous-clause-goes_back
returns-in-Ambiguous-clause-goes_back c = goes_back-same c.args.self.now
