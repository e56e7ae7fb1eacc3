use Rattle.std.proofs.Common.{take}
use Rattle.std.specs.List.{All}
use Rattle.goal_lists.specs.Causes.{IsFaultCaused}
use Rattle.goal_solver.proofs.context.records.are_caused.Given as goal

abbrev pub invariant-loop-fault : goal.invariant-loop-fault
invariant-loop-fault l = All (IsFaultCaused l.tables) (take l.fault-index l.faults)
