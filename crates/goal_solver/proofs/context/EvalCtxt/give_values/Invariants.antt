use Rattle.std.proofs.Common.{drop}
use Rattle.goal_solver.specs.Binding.{CanBeListed, GetValues}
use Rattle.goal_solver.specs.GoingBack.{GoesBack}
use Rattle.goal_solver.specs.State.{State}
use Rattle.goal_solver.proofs.context.EvalCtxt.give_values.Given as goal

abbrev pub invariant-loop-value : goal.invariant-loop-value
invariant-loop-value l = record {
  listed : CanBeListed l.self (drop l.value-index l.values);
  given : (z : State) → GetValues l.self z (drop l.value-index l.values) → GetValues l.fn.self z l.values;
  back : GoesBack l.fn.self l.self;
}
