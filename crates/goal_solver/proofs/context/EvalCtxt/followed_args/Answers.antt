use Rattle.std.proofs.Common.{sym, ap, subst}
use Rattle.goal_lists.specs.Interned.{AreIn}
use Rattle.goal_solver.specs.State.{State}
use Rattle.goal_solver.proofs.GoalOutcomeLemmas.{followed-all_in}
use Rattle.goal_solver.proofs.GoingBackLemmas.{solved-grown}
use Rattle.goal_solver.proofs.context.EvalCtxt.followed_args.Goals as goal

pub invariant_of-self : goal.invariant_of-self
invariant_of-self c = (
  c.self.invariant.0,
  c.self.invariant.1,
  c.self.invariant.2,
  c.self.invariant.3,
  c.self.invariant.4,
  solved-grown c.self.inside.terms c.follow_all.new.table c.self.inside.inference c.follow_all.ensures.kept c.self.invariant.5,
  c.self.invariant.6,
)

pub invariant_of-self-2 : goal.invariant_of-self-2
invariant_of-self-2 c = (
  c.self.invariant.0,
  c.self.invariant.1,
  c.self.invariant.2,
  c.self.invariant.3,
  c.self.invariant.4,
  solved-grown c.self.inside.terms c.follow_all.new.table c.self.inside.inference c.follow_all.ensures.kept c.self.invariant.5,
  c.self.invariant.6,
)

pub returns-clause-within : goal.returns-clause-within
returns-clause-within c =
    followed-all_in c.self.inside.terms c.follow_all.new.table c.args.ids.now c.in_ok-follow_all.field-0.items (subst (λ T. AreIn T c.args.ids.now) (sym (ap (λ (s : State). s.terms) c.self.view_is)) c.requires) c.in_ok-follow_all.ensures.within c.in_ok-follow_all.ensures.sorts
