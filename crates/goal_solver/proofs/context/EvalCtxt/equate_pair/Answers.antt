use Rattle.std.proofs.Common.{ap}
use Rattle.goal_infer.proofs.RegionStateLemmas.{adds-same}
use Rattle.goal_solver.specs.State.{State}
use Rattle.goal_solver.proofs.GoingBackLemmas.{solved-grown, solved-grown_twice}
use Rattle.goal_solver.proofs.context.EvalCtxt.equate_pair.Goals as goal

pub invariant_of-self : goal.invariant_of-self
invariant_of-self c = (
  c.self.invariant.0,
  c.self.invariant.1,
  c.self.invariant.2,
  c.self.invariant.3,
  c.self.invariant.4,
  solved-grown c.self.inside.terms c.follow.new.table c.self.inside.inference c.in_err-first.ensures.kept c.self.invariant.5,
  c.self.invariant.6,
)

pub follow-requires-2-clause-solved : goal.follow-requires-2-clause-solved
follow-requires-2-clause-solved c = solved-grown c.self.inside.terms c.follow.new.table c.self.inside.inference c.in_ok-first.ensures.kept c.self.invariant.5

pub invariant_of-self-in_err-second : goal.invariant_of-self-in_err-second
invariant_of-self-in_err-second c = (
  c.self.invariant.0,
  c.self.invariant.1,
  c.self.invariant.2,
  c.self.invariant.3,
  c.self.invariant.4,
  solved-grown_twice c.self.inside.terms c.follow.new.table c.follow-2.new.table c.self.inside.inference c.in_ok-first.ensures.kept c.in_err-second.ensures.kept c.self.invariant.5,
  c.self.invariant.6,
)

pub invariant_of-self-then-same_erased-2 : goal.invariant_of-self-then-same_erased-2
invariant_of-self-then-same_erased-2 c = (
  c.self.invariant.0,
  c.self.invariant.1,
  c.self.invariant.2,
  c.self.invariant.3,
  c.self.invariant.4,
  solved-grown_twice c.self.inside.terms c.follow.new.table c.follow-2.new.table c.self.inside.inference c.in_ok-first.ensures.kept c.in_ok-second.ensures.kept c.self.invariant.5,
  c.self.invariant.6,
)

pub invariant_of-self-else-same_erased-2 : goal.invariant_of-self-else-same_erased-2
invariant_of-self-else-same_erased-2 c = (
  c.self.invariant.0,
  c.self.invariant.1,
  c.self.invariant.2,
  c.self.invariant.3,
  c.self.invariant.4,
  solved-grown_twice c.self.inside.terms c.follow.new.table c.follow-2.new.table c.self.inside.inference c.in_ok-first.ensures.kept c.in_ok-second.ensures.kept c.self.invariant.5,
  c.self.invariant.6,
)

pub returns-clause-adds : goal.returns-clause-adds
returns-clause-adds c = adds-same c.args.self.now.inference c.self.inside.inference (ap (λ (s : State). s.inference) c.self.view_is)

pub returns-in_err-first-clause-adds : goal.returns-in_err-first-clause-adds
returns-in_err-first-clause-adds c = adds-same c.args.self.now.inference c.self.inside.inference (ap (λ (s : State). s.inference) c.self.view_is)

pub returns-in_err-second-clause-adds : goal.returns-in_err-second-clause-adds
returns-in_err-second-clause-adds c = adds-same c.args.self.now.inference c.self.inside.inference (ap (λ (s : State). s.inference) c.self.view_is)
