use Rattle.goal_solver.proofs.GoingBackLemmas.{goes_back-same}
use Rattle.goal_solver.proofs.context.EvalCtxt.instantiate_var.Goals as goal

pub returns-in_default-clause-goes_back : goal.returns-in_default-clause-goes_back
returns-in_default-clause-goes_back c = goes_back-same c.args.self.now

pub returns-then-canonical-clause-goes_back : goal.returns-then-canonical-clause-goes_back
returns-then-canonical-clause-goes_back c = goes_back-same c.args.self.now
