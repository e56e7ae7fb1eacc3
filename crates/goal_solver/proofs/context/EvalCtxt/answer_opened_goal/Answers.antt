use Rattle.std.proofs.Common.{refl, subst, List, Option, Result, Some, Ok, Err}
use Rattle.goal_terms.specs.Erased.{erased}
use Rattle.goal_terms.specs.TreeOf.{tree_of_alias}
use Rattle.goal_terms.specs.declared.answers.Response.{Response}
use Rattle.goal_terms.specs.declared.predicates.Clause.{Clause}
use Rattle.goal_kinds.specs.declared.faults.Fault.{Fault}
use Rattle.goal_kinds.specs.Collecting.{kind_of}
use Rattle.goal_solver.specs.OpenAnswers.{answers_term, InTrial}
use Rattle.goal_solver.specs.OpenForms.{OpensFrom}
use Rattle.goal_solver.specs.AskedGoals.{DecidesBy, formed_by, merged_as}
use Rattle.goal_solver.specs.OpenGoals.{WhenTried}
use Rattle.goal_solver.specs.Relating.{IsFaultFor}
use Rattle.goal_solver.proofs.AddedGoalLemmas.{fault-before}
use Rattle.goal_solver.proofs.GoingBackLemmas.{goes_back-through}
use Rattle.goal_solver.proofs.OpenClassLemmas.{none-left}
use Rattle.goal_solver.proofs.AskedGoalLemmas.{formed-passed, formed-refused, formed-shown}
use Rattle.goal_solver.proofs.OpenedSelfLemmas.{form-passed, form-refused, merge-answered, merge-refused}
use Rattle.goal_solver.proofs.RoundLemmas.{handed-on}
use Rattle.goal_solver.proofs.context.EvalCtxt.answer_opened_goal.Goals as goal

pub returns-in_err-found-clause-by : goal.returns-in_err-found-clause-by
returns-in_err-found-clause-by g c =
    handed-on c.from_residual.result c.in_err-found.field-0.0 (λ (r : Result (Option Response) Fault). WhenTried r (InTrial (formed_by (merged_as c.args.by) (kind_of g.G.GoalKind.words g.G.PredicateTerms.has_fault) c.args.goal.now) c.args.goal.now.param_env.items c.args.alias c.args.self.now r c.form_of_open.new.self)) c.from_residual.ensures.1
    (form-refused (formed_by (merged_as c.args.by) (kind_of g.G.GoalKind.words g.G.PredicateTerms.has_fault) c.args.goal.now) c.args.goal.now.param_env.items c.args.alias c.args.self.now c.form_of_open.new.self c.in_err-found.field-0.0 (subst (λ (es : List Clause). OpensFrom answers_term es (erased (tree_of_alias c.args.alias)) c.args.self.now (Err c.in_err-found.field-0.0) c.form_of_open.new.self) c.deref.ensures.value c.in_err-found.ensures.opens) c.form_of_open.ensures.alone (formed-refused (merged_as c.args.by) (kind_of g.G.GoalKind.words g.G.PredicateTerms.has_fault) c.args.goal.now c.in_err-found.field-0.0 c.form_of_open.new.self))

pub returns-in_default-clause-by : goal.returns-in_default-clause-by
returns-in_default-clause-by g c =
    form-passed (formed_by (merged_as c.args.by) (kind_of g.G.GoalKind.words g.G.PredicateTerms.has_fault) c.args.goal.now) c.args.goal.now.param_env.items c.args.alias c.args.self.now c.form_of_open.new.self c.in_ok-found.found (subst (λ (es : List Clause). OpensFrom answers_term es (erased (tree_of_alias c.args.alias)) c.args.self.now (Ok c.in_ok-found.found) c.form_of_open.new.self) c.deref.ensures.value c.in_ok-found.ensures.opens) c.form_of_open.ensures.alone
    (formed-passed (merged_as c.args.by) (kind_of g.G.GoalKind.words g.G.PredicateTerms.has_fault) c.args.goal.now _ c.form_of_open.new.self c.in_ok-found.found c.in_ok-rules.field-0 c.self.view_is (none-left _ c.in_default.not-Some) c.in_ok-rules.ensures.rules)

pub returns-in_err-answer-clause-by : goal.returns-in_err-answer-clause-by
returns-in_err-answer-clause-by g c =
    handed-on c.from_residual-in_err-answer.result c.in_err-answer.field-0.0 (λ (r : Result (Option Response) Fault). WhenTried r (InTrial (formed_by (merged_as c.args.by) (kind_of g.G.GoalKind.words g.G.PredicateTerms.has_fault) c.args.goal.now) c.args.goal.now.param_env.items c.args.alias c.args.self.now r c.merge_formed.new.self)) c.from_residual-in_err-answer.ensures.1
    (merge-refused (formed_by (merged_as c.args.by) (kind_of g.G.GoalKind.words g.G.PredicateTerms.has_fault) c.args.goal.now) (λ x. DecidesBy c.in-Some.rules c.form_of_open.new.self x c.merge_formed.new.self) c.args.goal.now.param_env.items c.args.alias c.args.self.now c.form_of_open.new.self c.merge_formed.new.self c.in_ok-found.found c.merge_formed.result c.in_err-answer.field-0.0 c.in_err-answer.was (subst (λ (es : List Clause). OpensFrom answers_term es (erased (tree_of_alias c.args.alias)) c.args.self.now (Ok c.in_ok-found.found) c.form_of_open.new.self) c.deref.ensures.value c.in_ok-found.ensures.opens) c.form_of_open.ensures.alone c.merge_formed.ensures.decides
    (λ d. formed-shown (merged_as c.args.by) (kind_of g.G.GoalKind.words g.G.PredicateTerms.has_fault) c.args.goal.now _ c.form_of_open.new.self c.in_ok-found.found c.in_ok-rules.field-0 c.in-Some.rules (Err c.in_err-answer.field-0.0) c.merge_formed.new.self (Err c.in_err-answer.field-0.0) c.merge_formed.new.self
    c.self.view_is c.in-Some.is c.in_ok-rules.ensures.rules d (refl, refl)))

pub returns-clause-by : goal.returns-clause-by
returns-clause-by g c =
    merge-answered (formed_by (merged_as c.args.by) (kind_of g.G.GoalKind.words g.G.PredicateTerms.has_fault) c.args.goal.now) (λ x. DecidesBy c.in-Some.rules c.form_of_open.new.self x c.merge_formed.new.self) c.args.goal.now.param_env.items c.args.alias c.args.self.now c.form_of_open.new.self c.merge_formed.new.self c.beside.new.self c.in_ok-found.found c.merge_formed.result c.in_ok-answer.answer c.beside.result c.in_ok-answer.was (subst (λ (es : List Clause). OpensFrom answers_term es (erased (tree_of_alias c.args.alias)) c.args.self.now (Ok c.in_ok-found.found) c.form_of_open.new.self) c.deref.ensures.value c.in_ok-found.ensures.opens) c.form_of_open.ensures.alone c.merge_formed.ensures.decides c.beside.ensures.beside c.beside.ensures.only_memory
    (λ x b d. formed-shown (merged_as c.args.by) (kind_of g.G.GoalKind.words g.G.PredicateTerms.has_fault) c.args.goal.now _ c.form_of_open.new.self c.in_ok-found.found c.in_ok-rules.field-0 c.in-Some.rules (Ok c.in_ok-answer.answer) c.merge_formed.new.self (Ok (Some x)) c.beside.new.self
    c.self.view_is c.in-Some.is c.in_ok-rules.ensures.rules d (x, b, refl))

pub returns-in_err-answer-clause-goes_back : goal.returns-in_err-answer-clause-goes_back
returns-in_err-answer-clause-goes_back g c =
    goes_back-through c.args.self.now c.form_of_open.new.self c.merge_formed.new.self c.form_of_open.ensures.goes_back c.merge_formed.ensures.goes_back

pub returns-clause-goes_back : goal.returns-clause-goes_back
returns-clause-goes_back g c =
    goes_back-through c.args.self.now c.merge_formed.new.self c.beside.new.self (goes_back-through c.args.self.now c.form_of_open.new.self c.merge_formed.new.self c.form_of_open.ensures.goes_back c.merge_formed.ensures.goes_back) c.beside.ensures.goes_back

pub returns-in_err-answer-clause-fault : goal.returns-in_err-answer-clause-fault
returns-in_err-answer-clause-fault g c =
    handed-on c.from_residual-in_err-answer.result c.in_err-answer.field-0.0 (λ (r : Result (Option Response) Fault). IsFaultFor c.args.self.now c.merge_formed.new.self r) c.from_residual-in_err-answer.ensures.1
    (fault-before Response (Option Response) c.args.self.now c.form_of_open.new.self c.merge_formed.new.self c.in_err-answer.field-0.0 c.form_of_open.ensures.goes_back c.in_err-answer.ensures.fault)
