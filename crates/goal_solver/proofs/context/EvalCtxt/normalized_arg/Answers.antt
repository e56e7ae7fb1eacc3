use Rattle.goal_solver.proofs.GoingBackLemmas.{goes_back-same}
use Rattle.goal_solver.proofs.context.EvalCtxt.normalized_arg.Goals as goal

pub returns-in_err-term-clause-goes_back : goal.returns-in_err-term-clause-goes_back
returns-in_err-term-clause-goes_back c = goes_back-same c.args.self.now

pub returns-in_default-clone-clause-goes_back : goal.returns-in_default-clone-clause-goes_back
returns-in_default-clone-clause-goes_back c = goes_back-same c.args.self.now

pub returns-in_default-clause-goes_back : goal.returns-in_default-clause-goes_back
returns-in_default-clause-goes_back c = goes_back-same c.args.self.now
