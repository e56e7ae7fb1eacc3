use Rattle.std.proofs.Common.{sym, ◌∙◌, subst}
use Rattle.goal_lists.specs.Interned.{AreIn}
use Rattle.goal_lists.proofs.UnderLemmas.{are_in-below}
use Rattle.goal_solver.specs.State.{State}
use Rattle.goal_solver.proofs.context.EvalCtxt.unify_lists.Goals as goal

pub invariant_of-self : goal.invariant_of-self
invariant_of-self c = (
  c.self.invariant.0,
  c.self.invariant.1 ∙ sym c.unify_all.ensures.advances.kinds,
  c.self.invariant.2,
  c.self.invariant.3,
  c.self.invariant.4,
  c.unify_all.ensures.advances.solved,
  c.self.invariant.6,
)

pub unify_all-requires-clause-first : goal.unify_all-requires-clause-first
unify_all-requires-clause-first c = are_in-below c.self.inside.terms c.args.left.now (subst (λ (s : State). AreIn s.terms c.args.left.now) (sym c.self.view_is) c.requires.first)

pub unify_all-requires-clause-second : goal.unify_all-requires-clause-second
unify_all-requires-clause-second c = are_in-below c.self.inside.terms c.args.right.now (subst (λ (s : State). AreIn s.terms c.args.right.now) (sym c.self.view_is) c.requires.second)
