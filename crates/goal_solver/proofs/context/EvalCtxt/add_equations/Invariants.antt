use Rattle.std.proofs.Common.{◌≡◌, take}
use Rattle.goal_solver.specs.Binding.{with_equations}
use Rattle.goal_solver.specs.GoingBack.{GoesBack}
use Rattle.goal_solver.proofs.context.EvalCtxt.add_equations.Given as goal

abbrev pub invariant-loop-equation : goal.invariant-loop-equation
invariant-loop-equation l = record {
  added : l.self ≡ with_equations (take l.equation-index l.equations) l.fn.self;
  back : GoesBack l.fn.self l.self;
}
