use Rattle.std.proofs.Common.{◌≡◌, ℕ, List, length, sym, ap, ◌∙◌, subst, arith}
use Rattle.goal_solver.specs.AddedGoals.{JoinsUnless}
use Rattle.goal_solver.specs.State.{State, AreTaken}
use Rattle.goal_solver.specs.Stored.{IsSet}
use Rattle.goal_solver.proofs.PlaceLemmas.{AreListed, listed-none, listed-next, listed-all}
use Rattle.goal_solver.proofs.context.EvalCtxt.pending_places.Goals as goal

pub loop-place-init : goal.loop-place-init
loop-place-init c = subst (λ (xs : List ℕ). AreListed c.args.self.now.taken xs 0) (sym c.new-places.ensures.items) (listed-none c.args.self.now.taken)

pub loop-place-preserved : goal.loop-place-preserved
loop-place-preserved c =
    listed-next c.args.self.now.taken c.loop-place.places.items c.add_pending.new.places.items c.loop-place.place
    (subst (λ (xs : List ℕ). IsSet xs) (ap (λ (s : State). s.taken) c.self.view_is) c.self.invariant.6.once)
    (subst (λ (xs : List ℕ). JoinsUnless xs c.loop-place.place c.loop-place.places.items c.add_pending.new.places.items) (c.as_slice.ensures.value ∙ (ap (λ (s : State). s.taken) c.self.view_is)) c.in_ok-add_pending.ensures.added)
    c.loop-place.invariant

pub returns-clause-split : goal.returns-clause-split
returns-clause-split c =
    let all : AreTaken c.args.self.now.goals c.args.self.now.taken = subst (λ (s : State). AreTaken s.goals s.taken) c.self.view_is c.self.invariant.6 in
    let count : length c.args.self.now.goals ≡ length c.self.inside.goals.items = sym (ap (λ (s : State). length s.goals) c.self.view_is) in
    listed-all c.args.self.now.goals c.args.self.now.taken c.loop-place.places.items c.loop-place.place all
    (omega (arith, count, c.self.inside.goals.ok.0, c.len-place-end.ensures, c.loop-place-test.false, c.loop-place.auto.place-end)) c.loop-place.invariant
