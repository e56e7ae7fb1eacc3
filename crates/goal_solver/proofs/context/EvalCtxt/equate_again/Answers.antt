use Rattle.std.proofs.Common.{◌∙◌, refl}
use Rattle.goal_solver.proofs.AddedGoalLemmas.{records-through}
use Rattle.goal_solver.proofs.GoingBackLemmas.{goes_back-same, goes_back-through}
use Rattle.goal_solver.proofs.context.EvalCtxt.equate_again.Goals as goal

pub loop-place-init : goal.loop-place-init
loop-place-init c = record { alone = refl; faults = refl; goes_back = goes_back-same c.args.self.now }

pub returns-in_err-equate_again_at-clause-goes_back : goal.returns-in_err-equate_again_at-clause-goes_back
returns-in_err-equate_again_at-clause-goes_back c =
    goes_back-through c.args.self.now c.loop-place.self c.equate_again_at.new.self c.loop-place.invariant.goes_back c.equate_again_at.ensures.goes_back

pub loop-place-preserved : goal.loop-place-preserved
loop-place-preserved c = record {
  alone = records-through c.args.self.now c.loop-place.self c.equate_again_at.new.self c.loop-place.invariant.alone c.equate_again_at.ensures.alone;
  faults = c.equate_again_at.ensures.faults ∙ c.loop-place.invariant.faults;
  goes_back = goes_back-through c.args.self.now c.loop-place.self c.equate_again_at.new.self c.loop-place.invariant.goes_back c.equate_again_at.ensures.goes_back;
}
