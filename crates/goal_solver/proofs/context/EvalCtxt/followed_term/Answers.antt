use Rattle.std.proofs.Common.{sym, ap, subst}
use Rattle.goal_lists.specs.Interned.{IsIn}
use Rattle.goal_solver.specs.State.{State}
use Rattle.goal_solver.proofs.GoalOutcomeLemmas.{followed-in}
use Rattle.goal_solver.proofs.GoingBackLemmas.{solved-grown}
use Rattle.goal_solver.proofs.context.EvalCtxt.followed_term.Goals as goal

pub invariant_of-self : goal.invariant_of-self
invariant_of-self c = (
  c.self.invariant.0,
  c.self.invariant.1,
  c.self.invariant.2,
  c.self.invariant.3,
  c.self.invariant.4,
  solved-grown c.self.inside.terms c.follow.new.table c.self.inside.inference c.follow.ensures.kept c.self.invariant.5,
  c.self.invariant.6,
)

pub invariant_of-self-2 : goal.invariant_of-self-2
invariant_of-self-2 c = (
  c.self.invariant.0,
  c.self.invariant.1,
  c.self.invariant.2,
  c.self.invariant.3,
  c.self.invariant.4,
  solved-grown c.self.inside.terms c.follow.new.table c.self.inside.inference c.follow.ensures.kept c.self.invariant.5,
  c.self.invariant.6,
)

pub returns-clause-within : goal.returns-clause-within
returns-clause-within c =
    followed-in c.self.inside.terms c.follow.new.table c.args.id c.in_ok-follow.field-0 (subst (λ T. IsIn T c.args.id) (sym (ap (λ (s : State). s.terms) c.self.view_is)) c.requires) c.in_ok-follow.ensures.within c.in_ok-follow.ensures.sort
