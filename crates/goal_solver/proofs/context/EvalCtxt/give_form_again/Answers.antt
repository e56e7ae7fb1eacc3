use Rattle.goal_solver.proofs.GoingBackLemmas.{goes_back-through}
use Rattle.goal_solver.proofs.context.EvalCtxt.give_form_again.Goals as goal

pub returns-in_err-give_response-clause-goes_back : goal.returns-in_err-give_response-clause-goes_back
returns-in_err-give_response-clause-goes_back c =
    goes_back-through c.args.self.now c.instantiate_vars.new.self c.give_response.new.self c.instantiate_vars.ensures.goes_back c.give_response.ensures.goes_back

pub returns-then-not-branch-clause-goes_back : goal.returns-then-not-branch-clause-goes_back
returns-then-not-branch-clause-goes_back c =
    goes_back-through c.args.self.now c.instantiate_vars.new.self c.give_response.new.self c.instantiate_vars.ensures.goes_back c.give_response.ensures.goes_back

pub returns-clause-goes_back : goal.returns-clause-goes_back
returns-clause-goes_back c =
    goes_back-through c.args.self.now c.give_response.new.self c.form_again.new.self
    (goes_back-through c.args.self.now c.instantiate_vars.new.self c.give_response.new.self c.instantiate_vars.ensures.goes_back c.give_response.ensures.goes_back)
    c.form_again.ensures.goes_back
