use Rattle.goal_solver.proofs.GoingBackLemmas.{goes_back-through}
use Rattle.goal_solver.proofs.context.EvalCtxt.match_open.Goals as goal

pub returns-in_err-certainty-clause-goes_back : goal.returns-in_err-certainty-clause-goes_back
returns-in_err-certainty-clause-goes_back c =
    goes_back-through c.args.self.now c.fresh_args_for_item.new.self c.equate_args.new.self c.fresh_args_for_item.ensures.goes_back c.equate_args.ensures.goes_back

pub returns-clause-goes_back : goal.returns-clause-goes_back
returns-clause-goes_back c =
    goes_back-through c.args.self.now c.fresh_args_for_item.new.self c.equate_args.new.self c.fresh_args_for_item.ensures.goes_back c.equate_args.ensures.goes_back
