use Rattle.std.proofs.Common.{subst}
use Rattle.std.specs.Prelude.{Ok, Err}
use Rattle.goal_solver.specs.AddedGoals.{IsGoalAnswer}
use Rattle.goal_solver.specs.Answers.{level_over}
use Rattle.goal_solver.proofs.ComparisonLemmas.{holds-yes, undecided-maybe, refuted-no, owed-itself, question-closed}
use Rattle.goal_solver.proofs.NormalizingLemmas.{closed-answerable}
use Rattle.goal_solver.proofs.context.EvalCtxt.run_predicate.Goals as goal

pub returns-in-Ok-Yes-clause-right : goal.returns-in-Ok-Yes-clause-right
returns-in-Ok-Yes-clause-right c = λ headline closed.
    holds-yes (level_over c.args.self.now c.args.self.now.typing_mode c.args.goal.now.param_env.items) c.args.goal.now.predicate c.requires
    (subst (λ x. IsGoalAnswer c.args.self.now c.args.self.now.typing_mode c.args.goal.now (Ok x)) c.in-Ok-Yes.field-0-is
    (c.in-Ok-Yes.ensures.answer c.args.self.now.typing_mode
    (owed-itself c.args.self.now c.evaluate_goal.new.self c.evaluate_goal.ensures.goes_back.typing_mode headline)
    (closed-answerable c.args.self.now c.args.goal.now.predicate c.args.goal.now.param_env.items
    (question-closed c.args.goal.now.predicate c.args.goal.now.param_env.items c.requires closed))))

pub returns-in-Ok-Maybe-clause-right : goal.returns-in-Ok-Maybe-clause-right
returns-in-Ok-Maybe-clause-right c = λ headline closed.
    undecided-maybe (level_over c.args.self.now c.args.self.now.typing_mode c.args.goal.now.param_env.items) c.args.goal.now.predicate c.requires
    (subst (λ x. IsGoalAnswer c.args.self.now c.args.self.now.typing_mode c.args.goal.now (Ok x)) c.in-Ok-Maybe.field-0-is
    (c.in-Ok-Maybe.ensures.answer c.args.self.now.typing_mode
    (owed-itself c.args.self.now c.evaluate_goal.new.self c.evaluate_goal.ensures.goes_back.typing_mode headline)
    (closed-answerable c.args.self.now c.args.goal.now.predicate c.args.goal.now.param_env.items
    (question-closed c.args.goal.now.predicate c.args.goal.now.param_env.items c.requires closed))))

pub returns-in-Err-NoSolution-clause-right : goal.returns-in-Err-NoSolution-clause-right
returns-in-Err-NoSolution-clause-right c = λ headline closed.
    refuted-no (level_over c.args.self.now c.args.self.now.typing_mode c.args.goal.now.param_env.items) c.args.goal.now.predicate c.requires
    (subst (λ f. IsGoalAnswer c.args.self.now c.args.self.now.typing_mode c.args.goal.now (Err f)) c.in-Err-NoSolution.field-0-is
    (c.in-Err-NoSolution.ensures.answer c.args.self.now.typing_mode
    (owed-itself c.args.self.now c.evaluate_goal.new.self c.evaluate_goal.ensures.goes_back.typing_mode headline)
    (closed-answerable c.args.self.now c.args.goal.now.predicate c.args.goal.now.param_env.items
    (question-closed c.args.goal.now.predicate c.args.goal.now.param_env.items c.requires closed))))
