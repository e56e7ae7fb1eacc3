use Rattle.goal_solver.proofs.BindingLemmas.{on_ok-map}
use Rattle.goal_solver.proofs.GoingBackLemmas.{goes_back-same}
use Rattle.goal_solver.proofs.context.EvalCtxt.add_clauses.Goals as goal

pub returns-in_default-clause-goes_back : goal.returns-in_default-clause-goes_back
returns-in_default-clause-goes_back c = goes_back-same c.args.self.now

pub returns-clause-added : goal.returns-clause-added
returns-clause-added c = on_ok-map c.add_goals.result (λ e. (_, c.in-Ok.ensures, e)) c.add_goals.ensures.added
