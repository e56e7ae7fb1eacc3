use Rattle.std.proofs.Common.{◌≡◌, ap, arith, ◌∙◌}
use Rattle.goal_solver.specs.State.{State}
use Rattle.goal_solver.proofs.ComparisonLemmas.{run-right}
use Rattle.goal_solver.proofs.comparison.run.Goals as goal

pub returns-clause-right : goal.returns-clause-right
returns-clause-right c = λ may.
    let depth : c.min.result ≡ c.args.limit = omega (arith, c.min.ensures, may.depth) in
    run-right c.args.tables.now c.args.mode.now c.in-Ok.copy c.args.goal.now c.args.limit c.in-Ok-new.context c.run.result c.in-Ok.ensures.cases
    (ap (λ (s : State). s.tables) c.in-Ok-new.ensures.made) (ap (λ (s : State). s.typing_mode) c.in-Ok-new.ensures.made) (ap (λ (s : State). s.remaining_depth) c.in-Ok-new.ensures.made ∙ depth)
    may c.run.ensures.right
