use Rattle.goal_solver.proofs.GoingBackLemmas.{goes_back-same}
use Rattle.std.proofs.Common.{refl, ap}
use Rattle.goal_solver.specs.State.{State}
use Rattle.goal_solver.proofs.AccessLemmas.{none-recorded, entry-recorded}
use Rattle.goal_solver.proofs.context.EvalCtxt.undecided_by.Goals as goal

pub returns-in_default-clause-goes_back : goal.returns-in_default-clause-goes_back
returns-in_default-clause-goes_back c = goes_back-same c.args.self.now

pub returns-then-not-is_erased-clause-goes_back : goal.returns-then-not-is_erased-clause-goes_back
returns-then-not-is_erased-clause-goes_back c = goes_back-same c.args.self.now

pub returns-in_default-clause-caused : goal.returns-in_default-clause-caused
returns-in_default-clause-caused c = λ h. none-recorded c.args.self.now _ refl

pub returns-then-not-is_erased-clause-caused : goal.returns-then-not-is_erased-clause-caused
returns-then-not-is_erased-clause-caused c = λ h. none-recorded c.args.self.now _ refl

pub returns-in_err-record_access-clause-caused : goal.returns-in_err-record_access-clause-caused
returns-in_err-record_access-clause-caused c = λ h. none-recorded c.args.self.now _ (ap (λ (s : State). s.accesses) c.in_err-record_access.ensures.unchanged)

pub returns-clause-caused : goal.returns-clause-caused
returns-clause-caused c = λ h.
    entry-recorded c.args.self.now c.record_access.new.self c.in-ReadsMode.access c.args.stop c.in-ReadsMode.is (c.is_erased.ensures.yes c.if-not-is_erased.false) h
    c.in_ok-record_access.ensures.recorded
