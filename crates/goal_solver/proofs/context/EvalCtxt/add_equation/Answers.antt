use Rattle.std.proofs.Common.{ap, ◌∙◌, sym, subst}
use Rattle.goal_infer.specs.Inference.{Inference}
use Rattle.goal_infer.specs.Resolution.{IsSolved}
use Rattle.goal_infer.proofs.SolvedLemmas.{solved-equation}
use Rattle.goal_solver.specs.State.{kinds_in}
use Rattle.goal_solver.proofs.context.EvalCtxt.add_equation.Goals as goal

pub invariant_of-self-2 : goal.invariant_of-self-2
invariant_of-self-2 c = (
  c.self.invariant.0,
  c.self.invariant.1 ∙ sym (ap (λ (i : Inference). kinds_in i.variables) c.in-Ok.ensures.added),
  c.self.invariant.2,
  c.self.invariant.3,
  c.self.invariant.4,
  subst (IsSolved c.self.inside.terms) (sym c.in-Ok.ensures.added) (solved-equation c.self.inside.terms c.self.inside.inference c.args.equation c.self.invariant.5),
  c.self.invariant.6,
)
