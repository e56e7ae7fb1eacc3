use Rattle.goal_infer.proofs.SolvedLemmas.{solved-kept}
use Rattle.goal_solver.proofs.context.EvalCtxt.entries_since_mark.Goals as goal

pub invariant_of-self : goal.invariant_of-self
invariant_of-self c = (
  c.self.invariant.0,
  c.self.invariant.1,
  c.self.invariant.2,
  c.self.invariant.3,
  c.self.invariant.4,
  solved-kept c.self.inside.terms c.entries_of.new.terms c.self.inside.inference c.entries_of.ensures.kept c.self.invariant.5,
  c.self.invariant.6,
)
