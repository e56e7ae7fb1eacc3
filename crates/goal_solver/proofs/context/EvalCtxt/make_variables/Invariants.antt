use Rattle.std.proofs.Common.{◌≡◌, take}
use Rattle.goal_solver.specs.Variables.{with_variables}
use Rattle.goal_solver.proofs.context.EvalCtxt.make_variables.Given as goal

abbrev pub invariant-loop-kind : goal.invariant-loop-kind
invariant-loop-kind l = l.self ≡ with_variables (take l.kind-index l.kinds) l.fn.self
