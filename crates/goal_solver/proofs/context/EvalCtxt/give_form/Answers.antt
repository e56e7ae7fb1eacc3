use Rattle.goal_solver.proofs.GoingBackLemmas.{goes_back-same}
use Rattle.goal_solver.proofs.context.EvalCtxt.give_form.Goals as goal

pub returns-in_err-alias-clause-goes_back : goal.returns-in_err-alias-clause-goes_back
returns-in_err-alias-clause-goes_back c = goes_back-same c.args.self.now
