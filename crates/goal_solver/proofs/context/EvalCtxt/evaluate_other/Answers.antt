use Rattle.std.proofs.Common.{ap, ◌∙◌}
use Rattle.goal_solver.specs.State.{State}
use Rattle.goal_solver.proofs.AddedGoalLemmas.{goal-verdict, fault-later}
use Rattle.goal_solver.proofs.AnswerLemmas.{owed-before}
use Rattle.goal_solver.proofs.GoingBackLemmas.{goes_back-through}
use Rattle.goal_solver.proofs.NormalizingLemmas.{binds-verdict, closed-answerable}
use Rattle.goal_solver.proofs.RefusalLemmas.{goal-refused}
use Rattle.goal_solver.specs.Answers.{level_over}
use Rattle.goal_solver.proofs.context.EvalCtxt.evaluate_other.Goals as goal

pub returns-clause-answer : goal.returns-clause-answer
returns-clause-answer c = λ m owed closed.
    goal-verdict c.args.self.now m c.args.goal.now c.goal_outcome-outcome.result c.verdict.result
    (c.goal_outcome-outcome.ensures.says m (owed-before c.goal_outcome-outcome.new.self c.verdict.new.self m c.verdict.ensures.goes_back owed) closed)
    c.verdict.ensures.owed

pub returns-clause-keeps : goal.returns-clause-keeps
returns-clause-keeps c = λ m owed ok.
    binds-verdict (level_over c.args.self.now m c.args.goal.now.param_env.items) c.args.goal.now.predicate c.args.self.now c.goal_outcome-outcome.new.self c.verdict.new.self c.goal_outcome-outcome.result c.verdict.result
    c.verdict.ensures.goes_back (ap (λ (s : State). s.inference) c.verdict.ensures.alone)
    (c.goal_outcome-outcome.ensures.keeps m (owed-before c.goal_outcome-outcome.new.self c.verdict.new.self m c.verdict.ensures.goes_back owed) ok)
    c.verdict.ensures.owed

pub returns-clause-closed : goal.returns-clause-closed
returns-clause-closed c = λ h. ap (λ (s : State). s.inference) c.verdict.ensures.alone ∙ c.goal_outcome-outcome.ensures.closed h

pub returns-clause-goes_back : goal.returns-clause-goes_back
returns-clause-goes_back c =
    goes_back-through c.args.self.now c.goal_outcome-outcome.new.self c.verdict.new.self c.goal_outcome-outcome.ensures.goes_back c.verdict.ensures.goes_back

pub returns-clause-fault : goal.returns-clause-fault
returns-clause-fault c =
    fault-later c.args.self.now c.goal_outcome-outcome.new.self c.verdict.new.self c.verdict.result c.goal_outcome-outcome.ensures.goes_back c.verdict.ensures.fault

pub returns-clause-refused : goal.returns-clause-refused
returns-clause-refused c =
    goal-refused c.args.self.now c.verdict.new.self c.args.goal.now c.verdict.result
    (λ m owed closed.
    goal-verdict c.args.self.now m c.args.goal.now c.goal_outcome-outcome.result c.verdict.result
    (c.goal_outcome-outcome.ensures.says m (owed-before c.goal_outcome-outcome.new.self c.verdict.new.self m c.verdict.ensures.goes_back owed) (closed-answerable c.args.self.now c.args.goal.now.predicate c.args.goal.now.param_env.items closed))
    c.verdict.ensures.owed)
