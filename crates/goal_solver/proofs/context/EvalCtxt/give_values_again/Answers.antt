use Rattle.std.proofs.Common.{◌∙◌, refl}
use Rattle.goal_solver.proofs.AddedGoalLemmas.{records-through}
use Rattle.goal_solver.proofs.GoingBackLemmas.{goes_back-same, goes_back-through}
use Rattle.goal_solver.proofs.context.EvalCtxt.give_values_again.Goals as goal

pub loop-place-init : goal.loop-place-init
loop-place-init c = record { alone = refl; faults = refl; goes_back = goes_back-same c.args.self.now }

pub returns-in_err-give_value_again-clause-goes_back : goal.returns-in_err-give_value_again-clause-goes_back
returns-in_err-give_value_again-clause-goes_back c =
    goes_back-through c.args.self.now c.loop-place.self c.give_value_again.new.self c.loop-place.invariant.goes_back c.give_value_again.ensures.goes_back

pub returns-then-not-branch-clause-goes_back : goal.returns-then-not-branch-clause-goes_back
returns-then-not-branch-clause-goes_back c =
    goes_back-through c.args.self.now c.loop-place.self c.give_value_again.new.self c.loop-place.invariant.goes_back c.give_value_again.ensures.goes_back

pub loop-place-preserved : goal.loop-place-preserved
loop-place-preserved c = record {
  alone = records-through c.args.self.now c.loop-place.self c.give_value_again.new.self c.loop-place.invariant.alone c.give_value_again.ensures.alone;
  faults = c.give_value_again.ensures.faults ∙ c.loop-place.invariant.faults;
  goes_back = goes_back-through c.args.self.now c.loop-place.self c.give_value_again.new.self c.loop-place.invariant.goes_back c.give_value_again.ensures.goes_back;
}
