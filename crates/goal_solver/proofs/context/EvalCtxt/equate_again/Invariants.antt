use Rattle.goal_solver.specs.Accesses.{RecordsCausedFaults}
use Rattle.goal_solver.specs.GoingBack.{GoesBack}
use Rattle.goal_solver.specs.Relating.{ChangesRecords}
use Rattle.goal_solver.proofs.context.EvalCtxt.equate_again.Given as goal

abbrev pub invariant-loop-place : goal.invariant-loop-place
invariant-loop-place l = record {
  alone : ChangesRecords l.fn.self l.self;
  faults : RecordsCausedFaults l.fn.self l.self;
  goes_back : GoesBack l.fn.self l.self;
}
