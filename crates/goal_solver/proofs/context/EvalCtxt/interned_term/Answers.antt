use Rattle.goal_solver.proofs.GoalOutcomeLemmas.{term-in}
use Rattle.goal_solver.proofs.GoingBackLemmas.{solved-grown}
use Rattle.goal_solver.proofs.context.EvalCtxt.interned_term.Goals as goal

pub invariant_of-self : goal.invariant_of-self
invariant_of-self c = (
  c.self.invariant.0,
  c.self.invariant.1,
  c.self.invariant.2,
  c.self.invariant.3,
  c.self.invariant.4,
  solved-grown c.self.inside.terms c.intern.new.self c.self.inside.inference c.intern.ensures.kept c.self.invariant.5,
  c.self.invariant.6,
)

pub invariant_of-self-2 : goal.invariant_of-self-2
invariant_of-self-2 c = (
  c.self.invariant.0,
  c.self.invariant.1,
  c.self.invariant.2,
  c.self.invariant.3,
  c.self.invariant.4,
  solved-grown c.self.inside.terms c.intern.new.self c.self.inside.inference c.intern.ensures.kept c.self.invariant.5,
  c.self.invariant.6,
)

pub returns-clause-within : goal.returns-clause-within
returns-clause-within c = term-in c.intern.new.self c.args.term.now c.in_ok-intern.field-0 c.in_ok-intern.ensures.within c.in_ok-intern.ensures.tree
