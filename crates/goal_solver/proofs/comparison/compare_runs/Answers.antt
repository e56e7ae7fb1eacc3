use Rattle.std.specs.Prelude.{Ok}
use Rattle.std.proofs.Common.{refl}
use Rattle.goal_solver.proofs.ComparisonLemmas.{order-never}
use Rattle.goal_solver.proofs.comparison.compare_runs.Goals as goal

pub returns-clause-order : goal.returns-clause-order
returns-clause-order c = λ comparable order different.
    order-never c.args.a.now c.args.b.now c.args.mode.now c.args.goal.now c.args.limit_a c.args.limit_b c.in_ok-one.one c.in_ok-other.other c.compared_with.result (Ok c.compared_with.result)
    c.run.ensures.checked comparable order c.in_ok-one.ensures.right c.in_ok-other.ensures.right c.compared_with.ensures refl different
