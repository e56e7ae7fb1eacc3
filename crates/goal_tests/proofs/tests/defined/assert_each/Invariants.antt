use Rattle.std.proofs.Common.{◌≡◌}
use Rattle.goal_tests.proofs.tests.defined.assert_each.Given as goal

abbrev pub invariant-loop-asked : goal.invariant-loop-asked
invariant-loop-asked g l = l.context.tables ≡ l.tables
