use Rattle.std.proofs.Common.{sym, ◌∙◌}
use Rattle.goal_solver.proofs.context.EvalCtxt.unify_found.Goals as goal

pub invariant_of-self : goal.invariant_of-self
invariant_of-self c = (
  c.self.invariant.0,
  c.self.invariant.1 ∙ sym c.unify.ensures.advances.kinds,
  c.self.invariant.2,
  c.self.invariant.3,
  c.self.invariant.4,
  c.unify.ensures.advances.solved,
  c.self.invariant.6,
)
