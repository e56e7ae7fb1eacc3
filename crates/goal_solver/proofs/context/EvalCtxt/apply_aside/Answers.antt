use Rattle.std.proofs.Common.{rules}
use Rattle.goal_solver.proofs.BindingLemmas.{on_ok-map}
use Rattle.goal_solver.proofs.GoingBackLemmas.{goes_back-through}
use Rattle.goal_solver.proofs.ResponseLemmas.{applies-aside}
use Rattle.goal_solver.proofs.context.EvalCtxt.apply_aside.Goals as goal

pub returns-in_err-give_values-clause-goes_back : goal.returns-in_err-give_values-clause-goes_back
returns-in_err-give_values-clause-goes_back c =
    goes_back-through c.args.self.now c.make_variables.new.self c.give_values.new.self c.make_variables.ensures.goes_back c.give_values.ensures.goes_back

pub returns-clause-applied : goal.returns-clause-applied
returns-clause-applied c =
    on_ok-map c.add_equations.result
    (λ n. applies-aside c.args.self.now c.make_variables.new.self c.give_values.new.self c.add_equations.new.self c.args.response.now
    c.deref.result.now c.deref-2.result.now c.deref-3.result.now (search rules) (search rules) (search rules)
    c.in_ok-make_variables.ensures.made c.in_ok-give_values.ensures.given n)
    c.add_equations.ensures.added

pub returns-clause-goes_back : goal.returns-clause-goes_back
returns-clause-goes_back c =
    goes_back-through c.args.self.now c.give_values.new.self c.add_equations.new.self
    (goes_back-through c.args.self.now c.make_variables.new.self c.give_values.new.self c.make_variables.ensures.goes_back c.give_values.ensures.goes_back)
    c.add_equations.ensures.goes_back
