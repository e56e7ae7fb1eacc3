use Rattle.goal_solver.proofs.GoingBackLemmas.{goes_back-same}
use Rattle.goal_solver.proofs.OpenProjectionLemmas.{equation-run}
use Rattle.goal_solver.proofs.context.EvalCtxt.run_equation.Goals as goal

pub returns-in_err-rule-clause-goes_back : goal.returns-in_err-rule-clause-goes_back
returns-in_err-rule-clause-goes_back c = goes_back-same c.args.self.now

pub returns-clause-runs : goal.returns-clause-runs
returns-clause-runs c =
    equation-run c.args.goal.now c.args.self.now c.run_open.new.self c.in_ok-rule.rule c.deref.result.now c.deref-2.result.now c.run_open.result c.deref.ensures.value c.deref-2.ensures.value
    (c.in_ok-rule.ensures.list c.args.self.now.tables) c.run_open.ensures.chain c.run_open.ensures.refused
