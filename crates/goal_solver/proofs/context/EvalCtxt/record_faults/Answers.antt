use Rattle.std.proofs.Common.{refl, arith}
use Rattle.std.specs.List.{Contains}
use Rattle.std.proofs.lemmas.List.Elements.{All-nil}
use Rattle.goal_solver.proofs.FaultLemmas.{next-caused}
use Rattle.goal_solver.proofs.GoingBackLemmas.{goes_back-same, goes_back-through}
use Rattle.goal_solver.proofs.RecordedLemmas.{faults-alone, contained-next, contained-end}
use Rattle.goal_solver.proofs.context.EvalCtxt.record_faults.Goals as goal

pub loop-fault-init : goal.loop-fault-init
loop-fault-init c = record {
  recorded = All-nil (Contains c.args.self.now.delayed_faults);
  unchanged = refl;
  faults = λ all. refl;
  back = goes_back-same c.args.self.now;
}

pub loop-fault-preserved : goal.loop-fault-preserved
loop-fault-preserved c = record {
  recorded = contained-next c.loop-fault.self c.meet_fault.new.self c.args.delayed_faults.now c.loop-fault.fault-index _ c.meet_fault.ensures.goes_back (omega arith) c.loop-fault.invariant.recorded c.in_ok-meet_fault.ensures.recorded;
  unchanged = faults-alone c.args.self.now c.loop-fault.self c.meet_fault.new.self c.loop-fault.invariant.unchanged c.meet_fault.ensures.unchanged;
  faults = next-caused c.args.self.now c.loop-fault.self c.meet_fault.new.self c.args.delayed_faults.now c.loop-fault.fault-index _ (omega arith) c.loop-fault.invariant.back c.meet_fault.ensures.unchanged c.meet_fault.ensures.entered c.loop-fault.invariant.faults;
  back = goes_back-through c.args.self.now c.loop-fault.self c.meet_fault.new.self c.loop-fault.invariant.back c.meet_fault.ensures.goes_back;
}

pub returns-in_err-meet_fault-clause-unchanged : goal.returns-in_err-meet_fault-clause-unchanged
returns-in_err-meet_fault-clause-unchanged c = faults-alone c.args.self.now c.loop-fault.self c.meet_fault.new.self c.loop-fault.invariant.unchanged c.meet_fault.ensures.unchanged

pub returns-in_err-meet_fault-clause-goes_back : goal.returns-in_err-meet_fault-clause-goes_back
returns-in_err-meet_fault-clause-goes_back c = goes_back-through c.args.self.now c.loop-fault.self c.meet_fault.new.self c.loop-fault.invariant.back c.meet_fault.ensures.goes_back

pub returns-clause-recorded : goal.returns-clause-recorded
returns-clause-recorded c = contained-end c.loop-fault.self c.args.delayed_faults.now c.loop-fault.fault-index (omega arith) c.loop-fault.invariant.recorded

pub returns-in_err-meet_fault-clause-faults : goal.returns-in_err-meet_fault-clause-faults
returns-in_err-meet_fault-clause-faults c = next-caused c.args.self.now c.loop-fault.self c.meet_fault.new.self c.args.delayed_faults.now c.loop-fault.fault-index _ (omega arith) c.loop-fault.invariant.back c.meet_fault.ensures.unchanged c.meet_fault.ensures.entered c.loop-fault.invariant.faults

pub returns-clause-faults : goal.returns-clause-faults
returns-clause-faults c = c.loop-fault.invariant.faults
