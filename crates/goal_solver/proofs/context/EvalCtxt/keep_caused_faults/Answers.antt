use Rattle.std.proofs.Common.{◌≡◌, ap, ◌∙◌}
use Rattle.goal_solver.specs.State.{State}
use Rattle.goal_solver.proofs.KeptFaultLemmas.{kept-caused}
use Rattle.goal_solver.proofs.StoredLemmas.{apart-taken}
use Rattle.goal_solver.proofs.context.EvalCtxt.keep_caused_faults.Goals as goal

pub invariant_of-self : goal.invariant_of-self
invariant_of-self c = (
  c.self.invariant.0,
  c.self.invariant.1,
  c.self.invariant.2,
  c.self.invariant.3,
  apart-taken (λ x y. x ≡ y) c.args.count c.self.inside.delayed_faults.items c.truncate.new.self.items c.truncate.ensures.items c.self.invariant.4,
  c.self.invariant.5,
  c.self.invariant.6,
)

pub returns-else-not-are_caused-clause-caused : goal.returns-else-not-are_caused-clause-caused
returns-else-not-are_caused-clause-caused c =
    kept-caused c.args.self.now.tables _ c.args.count c.args.self.now.delayed_faults c.as_slice.result.now c.since.result.now c.are_caused.result (ap (λ (s : State). s.tables) c.self.view_is)
    (c.as_slice.ensures.value ∙ ap (λ (s : State). s.delayed_faults) c.self.view_is) c.since.ensures c.are_caused.ensures c.if-not-are_caused.false
