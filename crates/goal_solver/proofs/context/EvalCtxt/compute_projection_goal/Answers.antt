use Rattle.std.proofs.Common.{List, subst}
use Rattle.goal_terms.specs.declared.predicates.Clause.{Clause}
use Rattle.goal_lists.specs.Answers.{whether}
use Rattle.goal_solver.specs.Answers.{level_over, IsPredicateAnswer, IsUndecided}
use Rattle.goal_solver.specs.Promises.{equation_asked}
use Rattle.goal_solver.proofs.PromiseLemmas.{answers-projection, no-two-disagree}
use Rattle.goal_solver.proofs.context.EvalCtxt.compute_projection_goal.Goals as goal

pub returns-clause-closed : goal.returns-clause-closed
returns-clause-closed c = λ closed.
    answers-projection c.args.self.now c.answer_predicate.new.self c.args.goal.now.param_env.items c.args.goal.now.predicate c.answer_predicate.result
    (λ m owed.
    subst (λ (env : List Clause). IsPredicateAnswer (level_over c.args.self.now m env) (equation_asked c.args.goal.now.predicate) c.answer_predicate.result) c.deref.ensures.value (c.answer_predicate.ensures.sound m owed))
    (λ m owed undecided.
    subst (λ (env : List Clause). IsUndecided (level_over c.args.self.now m env) (equation_asked c.args.goal.now.predicate)) c.deref.ensures.value (c.answer_predicate.ensures.decided m owed undecided))
    c.answer_predicate.ensures.quiet c.answer_predicate.ensures.lists c.answer_predicate.ensures.no_class

pub returns-then-has_variable-clause-agrees : goal.returns-then-has_variable-clause-agrees
returns-then-has_variable-clause-agrees c = no-two-disagree c.args.self.now.tables c.args.goal.now.param_env.items (whether (equation_asked c.args.goal.now.predicate))

pub returns-clause-agrees : goal.returns-clause-agrees
returns-clause-agrees c = no-two-disagree c.args.self.now.tables c.args.goal.now.param_env.items (whether (equation_asked c.args.goal.now.predicate))

pub returns-clause-caused : goal.returns-clause-caused
returns-clause-caused c = λ closed. c.answer_predicate.ensures.caused
