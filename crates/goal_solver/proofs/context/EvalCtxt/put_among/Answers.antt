use Rattle.std.proofs.Common.{sym, subst}
use Rattle.goal_lists.specs.Interned.{AreIn}
use Rattle.goal_solver.specs.State.{State}
use Rattle.goal_solver.proofs.GoingBackLemmas.{solved-grown}
use Rattle.goal_solver.proofs.OpenHeaderLemmas.{sorts-in}
use Rattle.goal_solver.proofs.context.EvalCtxt.put_among.Goals as goal

pub invariant_of-self : goal.invariant_of-self
invariant_of-self c = (
  c.self.invariant.0,
  c.self.invariant.1,
  c.self.invariant.2,
  c.self.invariant.3,
  c.self.invariant.4,
  solved-grown c.self.inside.terms c.put_form.new.terms c.self.inside.inference c.put_form.ensures.kept c.self.invariant.5,
  c.self.invariant.6,
)

pub invariant_of-self-2 : goal.invariant_of-self-2
invariant_of-self-2 c = (
  c.self.invariant.0,
  c.self.invariant.1,
  c.self.invariant.2,
  c.self.invariant.3,
  c.self.invariant.4,
  solved-grown c.self.inside.terms c.put_form.new.terms c.self.inside.inference c.put_form.ensures.kept c.self.invariant.5,
  c.self.invariant.6,
)

pub returns-clause-within : goal.returns-clause-within
returns-clause-within c =
    sorts-in c.self.inside.terms c.put_form.new.terms c.args.ids.now c.in-Ok.made.items (subst (λ (s : State). AreIn s.terms c.args.ids.now) (sym c.self.view_is) c.requires.ids) c.in-Ok.ensures.within
    c.in-Ok.ensures.sorts
