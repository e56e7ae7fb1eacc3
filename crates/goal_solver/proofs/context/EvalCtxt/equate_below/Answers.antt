use Rattle.goal_solver.proofs.BelowLemmas.{applies-below, equates-below}
use Rattle.goal_solver.proofs.context.EvalCtxt.equate_below.Goals as goal

pub returns-clause-runs : goal.returns-clause-runs
returns-clause-runs c = λ n depth.
    equates-below _ c.args.self.now _ c.run_equation-answer.new.self n c.args.goal.now c.run_equation-answer.result c.self.view_is c.self-2.view_is c.run_equation-answer.ensures.unchanged depth
    c.run_equation-answer.ensures.runs

pub returns-clause-applies : goal.returns-clause-applies
returns-clause-applies c =
    applies-below _ c.args.self.now _ c.run_equation-answer.new.self _ c.self.inside.remaining_depth c.run_equation-answer.result c.self.view_is c.self-2.view_is c.run_equation-answer.ensures.unchanged
    c.run_equation-answer.ensures.goes_back c.holds_together.ensures.solved c.run_equation-answer.ensures.applies
