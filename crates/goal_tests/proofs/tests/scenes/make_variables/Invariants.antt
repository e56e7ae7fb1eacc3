use Rattle.std.proofs.Common.{◌≡◌}
use Rattle.goal_tests.proofs.tests.scenes.make_variables.Given as goal

abbrev pub invariant-loop-kind : goal.invariant-loop-kind
invariant-loop-kind l = l.context.tables ≡ l.initial.context.tables
