use Rattle.goal_solver.proofs.GoingBackLemmas.{solved-grown}
use Rattle.goal_solver.proofs.context.EvalCtxt.canonicalized.Goals as goal

pub invariant_of-self : goal.invariant_of-self
invariant_of-self c = (
  c.self.invariant.0,
  c.self.invariant.1,
  c.self.invariant.2,
  c.self.invariant.3,
  c.self.invariant.4,
  solved-grown c.self.inside.terms c.canonicalize.new.terms c.self.inside.inference c.canonicalize.ensures.kept c.self.invariant.5,
  c.self.invariant.6,
)
