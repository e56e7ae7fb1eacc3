use Rattle.std.proofs.Common.{refl}
use Rattle.goal_solver.proofs.AccessLemmas.{none-recorded}
use Rattle.goal_solver.proofs.GoingBackLemmas.{goes_back-same}
use Rattle.goal_solver.proofs.context.EvalCtxt.first_answer.Goals as goal

pub returns-in-Ok-clause-goes_back : goal.returns-in-Ok-clause-goes_back
returns-in-Ok-clause-goes_back g c = goes_back-same c.args.self.now

pub returns-in-Ok-clause-caused : goal.returns-in-Ok-clause-caused
returns-in-Ok-clause-caused g c = λ h. none-recorded c.args.self.now _ refl
