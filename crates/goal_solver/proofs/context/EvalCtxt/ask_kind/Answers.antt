use Rattle.goal_solver.proofs.BindingLemmas.{on_ok-map}
use Rattle.goal_solver.proofs.GoingBackLemmas.{goes_back-same}
use Rattle.goal_solver.proofs.OpenStepLemmas.{goal-added}
use Rattle.goal_solver.proofs.context.EvalCtxt.ask_kind.Goals as goal

pub returns-in_default-clause-goes_back : goal.returns-in_default-clause-goes_back
returns-in_default-clause-goes_back c = goes_back-same c.args.self.now

pub returns-clause-added : goal.returns-clause-added
returns-clause-added c = on_ok-map c.add_goal.result
    (λ e. goal-added c.args.source c.args.environment.now c.args.kind c.predicate_of.result c.in-Ok.param_env c.args.self.now c.add_goal.new.self c.predicate_of.ensures.is c.in-Ok.ensures.ok e)
    c.add_goal.ensures.added
