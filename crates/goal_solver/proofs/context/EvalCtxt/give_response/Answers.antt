use Rattle.goal_solver.proofs.GoingBackLemmas.{goes_back-through}
use Rattle.goal_solver.proofs.context.EvalCtxt.give_response.Goals as goal

pub returns-in_err-equate_again-clause-goes_back : goal.returns-in_err-equate_again-clause-goes_back
returns-in_err-equate_again-clause-goes_back c =
    goes_back-through c.args.self.now c.give_values_again.new.self c.equate_again.new.self c.give_values_again.ensures.goes_back c.equate_again.ensures.goes_back

pub returns-clause-goes_back : goal.returns-clause-goes_back
returns-clause-goes_back c =
    goes_back-through c.args.self.now c.give_values_again.new.self c.equate_again.new.self c.give_values_again.ensures.goes_back c.equate_again.ensures.goes_back
