use Rattle.goal_solver.proofs.GoingBackLemmas.{goes_back-grown}
use Rattle.goal_solver.proofs.context.EvalCtxt.response_since_mark.Goals as goal

pub returns-in-Ok-clause-goes_back : goal.returns-in-Ok-clause-goes_back
returns-in-Ok-clause-goes_back c = goes_back-grown c.args.self.now c.list_since_mark.new.self c.list_since_mark.ensures.unchanged c.list_since_mark.ensures.kept

pub returns-in-Err-clause-goes_back : goal.returns-in-Err-clause-goes_back
returns-in-Err-clause-goes_back c = goes_back-grown c.args.self.now c.list_since_mark.new.self c.list_since_mark.ensures.unchanged c.list_since_mark.ensures.kept
