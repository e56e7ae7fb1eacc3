use Rattle.std.proofs.Common.{◌≡◌, take}
use Rattle.std.specs.List.{All, Contains}
use Rattle.goal_lists.specs.Causes.{IsFaultCaused}
use Rattle.goal_solver.specs.Accesses.{RecordsCausedFaults}
use Rattle.goal_solver.specs.GoingBack.{GoesBack}
use Rattle.goal_solver.proofs.context.EvalCtxt.record_faults.Given as goal

abbrev pub invariant-loop-fault : goal.invariant-loop-fault
invariant-loop-fault l = record {
  recorded : All (Contains l.self.delayed_faults) (take l.fault-index l.delayed_faults);
  unchanged : l.self ≡ record l.fn.self { delayed_faults = l.self.delayed_faults };
  faults : All (IsFaultCaused l.fn.self.tables) l.delayed_faults → RecordsCausedFaults l.fn.self l.self;
  back : GoesBack l.fn.self l.self;
}
