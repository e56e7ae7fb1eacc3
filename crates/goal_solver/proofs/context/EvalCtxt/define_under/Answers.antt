use Rattle.std.proofs.Common.{Result}
use Rattle.goal_terms.specs.TreeOf.{tree_of_ty, trees_of}
use Rattle.goal_terms.specs.declared.answers.Certainty.{Certainty}
use Rattle.goal_kinds.specs.declared.faults.Fault.{Fault}
use Rattle.goal_solver.specs.Refusals.{WhenRefused, RefusesUnder}
use Rattle.goal_solver.proofs.GoingBackLemmas.{goes_back-through}
use Rattle.goal_solver.proofs.RoundLemmas.{handed-on}
use Rattle.goal_solver.proofs.context.EvalCtxt.define_under.Goals as goal

pub returns-in_err-certainty-clause-refused : goal.returns-in_err-certainty-clause-refused
returns-in_err-certainty-clause-refused c =
    handed-on c.from_residual-in_err-certainty.result c.in_err-certainty.field-0.0
    (λ (r : Result Certainty Fault). WhenRefused r (RefusesUnder c.args.environment.now (tree_of_ty c.args.ty.now) c.args.key.now c.args.first (trees_of c.args.args.now) c.args.self.now c.meet_hidden.new.self))
    c.from_residual-in_err-certainty.ensures.1
    (λ is. (c.in_ok-earlier.earlier, c.enter_hidden.new.self, c.in_ok-earlier.ensures.entered, c.in_err-certainty.ensures.refused is))

pub returns-in_err-add_item_bounds_for_hidden_type-clause-goes_back : goal.returns-in_err-add_item_bounds_for_hidden_type-clause-goes_back
returns-in_err-add_item_bounds_for_hidden_type-clause-goes_back c =
    goes_back-through c.args.self.now c.enter_hidden.new.self c.add_item_bounds_for_hidden_type.new.self c.enter_hidden.ensures.goes_back
    (goes_back-through c.enter_hidden.new.self c.meet_hidden.new.self c.add_item_bounds_for_hidden_type.new.self c.meet_hidden.ensures.goes_back c.add_item_bounds_for_hidden_type.ensures.goes_back)
