use Rattle.std.proofs.Common.{ap, ◌∙◌}
use Rattle.goal_infer.proofs.RegionStateLemmas.{adds-same}
use Rattle.goal_solver.specs.State.{State}
use Rattle.goal_solver.proofs.context.EvalCtxt.equate_identical.Goals as goal

pub returns-then-is_err-clause-adds : goal.returns-then-is_err-clause-adds
returns-then-is_err-clause-adds c =
    adds-same c.args.self.now.inference c.rollback.new.self
    (c.rollback.ensures.restored c.self.inside.inference c.snapshot-before.ensures c.equate_in_step-added.ensures.goes_back ∙ ap (λ (s : State). s.inference) c.self.view_is)
