use Rattle.goal_solver.proofs.GoingBackLemmas.{goes_back-same}
use Rattle.goal_solver.proofs.PromiseLemmas.{nothing-named}
use Rattle.std.proofs.Common.{refl, subst}
use Rattle.std.specs.Prelude.{IfErr}
use Rattle.goal_solver.specs.Accesses.{EndsFor}
use Rattle.goal_solver.proofs.AccessLemmas.{none-recorded}
use Rattle.goal_solver.proofs.context.EvalCtxt.conclude.Goals as goal

pub returns-in-Ok-Holds-clause-goes_back : goal.returns-in-Ok-Holds-clause-goes_back
returns-in-Ok-Holds-clause-goes_back c = goes_back-same c.args.self.now

pub returns-in-Ok-Refuted-clause-goes_back : goal.returns-in-Ok-Refuted-clause-goes_back
returns-in-Ok-Refuted-clause-goes_back c = goes_back-same c.args.self.now

pub returns-in-Ok-Undecided-clause-goes_back : goal.returns-in-Ok-Undecided-clause-goes_back
returns-in-Ok-Undecided-clause-goes_back c = goes_back-same c.args.self.now

pub returns-in-Err-clause-no_class : goal.returns-in-Err-clause-no_class
returns-in-Err-clause-no_class c = nothing-named c.stopped.result c.stopped.ensures.nothing

pub returns-in-Ok-Holds-clause-caused : goal.returns-in-Ok-Holds-clause-caused
returns-in-Ok-Holds-clause-caused c = λ h. none-recorded c.args.self.now _ refl

pub returns-in-Ok-Refuted-clause-caused : goal.returns-in-Ok-Refuted-clause-caused
returns-in-Ok-Refuted-clause-caused c = λ h. none-recorded c.args.self.now _ refl

pub returns-in-Ok-Undecided-clause-caused : goal.returns-in-Ok-Undecided-clause-caused
returns-in-Ok-Undecided-clause-caused c = λ h. none-recorded c.args.self.now _ refl

pub returns-in-Err-clause-caused : goal.returns-in-Err-clause-caused
returns-in-Err-clause-caused c = λ h. c.stopped.ensures.caused (subst (λ o. IfErr o (EndsFor c.args.self.now)) c.in-Err.is h)
