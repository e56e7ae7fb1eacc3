use Rattle.std.proofs.Common.{refl}
use Rattle.goal_solver.proofs.GoingBackLemmas.{goes_back-same}
use Rattle.goal_solver.proofs.RerunLemmas.{recorded-own_on}
use Rattle.goal_solver.proofs.AccessLemmas.{none-recorded, end-recorded}
use Rattle.goal_solver.proofs.context.EvalCtxt.go_on.Goals as goal

pub returns-in_default-clause-goes_back : goal.returns-in_default-clause-goes_back
returns-in_default-clause-goes_back c = goes_back-same c.args.self.now

pub returns-then-is_stopped_by-clause-goes_back : goal.returns-then-is_stopped_by-clause-goes_back
returns-then-is_stopped_by-clause-goes_back c = goes_back-same c.args.self.now

pub returns-clause-recorded : goal.returns-clause-recorded
returns-clause-recorded c = recorded-own_on c.meet_access.result c.args.self.now c.meet_access.new.self _ c.meet_access.ensures.recorded

pub returns-in_default-clause-caused : goal.returns-in_default-clause-caused
returns-in_default-clause-caused c = λ h. none-recorded c.args.self.now _ refl

pub returns-then-is_stopped_by-clause-caused : goal.returns-then-is_stopped_by-clause-caused
returns-then-is_stopped_by-clause-caused c = λ h. none-recorded c.args.self.now _ refl

pub returns-clause-caused : goal.returns-clause-caused
returns-clause-caused c = λ h.
    end-recorded c.args.self.now c.meet_access.new.self c.in-ReadsMode.access c.args.stop c.in-ReadsMode.is (c.is_stopped_by.ensures c.if-is_stopped_by.false) h c.meet_access.ensures.listed
