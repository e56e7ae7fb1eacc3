use Rattle.std.proofs.Common.{take}
use Rattle.goal_solver.specs.Binding.{EntersAll}
use Rattle.goal_solver.specs.GoingBack.{GoesBack}
use Rattle.goal_solver.proofs.context.EvalCtxt.enter_types.Given as goal

abbrev pub invariant-loop-entry : goal.invariant-loop-entry
invariant-loop-entry l = record {
  entered : EntersAll l.fn.self l.self (take l.entry-index l.entries);
  back : GoesBack l.fn.self l.self;
}
