use Rattle.std.proofs.Common.{◌≡◌, inr, ap, ◌∙◌, true, false, Result, Option, Err}
use Rattle.goal_terms.specs.TreeOf.{tree_of_ty}
use Rattle.goal_terms.specs.declared.terms.Term.TheVariants as term
use Rattle.goal_terms.proofs.TreeLemmas.{tree_of_term-Ty}
use Rattle.goal_kinds.specs.declared.faults.Fault.{Fault}
use Rattle.goal_kinds.specs.Collecting.{has_kind_fault}
use Rattle.goal_solver.proofs.GoingBackLemmas.{goes_back-same}
use Rattle.goal_solver.proofs.OpenClassLemmas.{asks-form, formless, no-form, considers, faulty-in}
use Rattle.std.specs.Prelude.{IfErr}
use Rattle.goal_terms.specs.declared.predicates.Goal.{Goal}
use Rattle.goal_kinds.specs.declared.faults.Fault.TheVariants as fault
use Rattle.goal_solver.specs.OpenGoals.{IsFormless}
use Rattle.goal_solver.proofs.RoundLemmas.{handed-on}
use Rattle.goal_solver.proofs.context.EvalCtxt.with_normalized_self_ty.Goals as goal

pub returns-in_default-clause-goes_back : goal.returns-in_default-clause-goes_back
returns-in_default-clause-goes_back g c = goes_back-same c.args.self.now

pub returns-in_err-copied_type-clause-goes_back : goal.returns-in_err-copied_type-clause-goes_back
returns-in_err-copied_type-clause-goes_back g c = goes_back-same c.args.self.now

pub returns-in_err-found-clause-formless : goal.returns-in_err-found-clause-formless
returns-in_err-found-clause-formless g c =
    handed-on c.from_residual-in_err-found.result c.in_err-found.field-0.0 (λ (r : Result (Option (Goal g.row.G.Denot)) Fault). IfErr r (λ f. f ≡ fault.NoSolution → IsFormless g.G.GoalKind.words.self_type c.args.goal.now c.args.self.now c.closed_form.new.self))
    c.from_residual-in_err-found.ensures.1
    (λ is. formless g.G.GoalKind.words.self_type c.args.goal.now c.in-Some.self_ty.now c.args.self.now c.closed_form.new.self c.closed_form.result c.in-Some.ensures
    (asks-form c.deref.result.now c.args.goal.now.param_env.items (term.Ty c.in_ok-copied_type.field-0) (tree_of_ty c.in-Some.self_ty.now) c.args.self.now c.closed_form.new.self
    c.closed_form.result c.deref.ensures.value (tree_of_term-Ty c.in_ok-copied_type.field-0 ∙ c.in_ok-copied_type.ensures.same) c.closed_form.ensures.sound
    c.closed_form.ensures.decided c.closed_form.ensures.itself c.closed_form.ensures.unchanged)
    (c.in_err-found.was ∙ ap (λ (f : Fault). Err f) is))

pub returns-in_default-form_to_consider-clause-forms : goal.returns-in_default-form_to_consider-clause-forms
returns-in_default-form_to_consider-clause-forms g c =
    no-form g.G.GoalKind.words.self_type g.G.GoalKind.words.is_with_self (has_kind_fault g.G.PredicateTerms.has_fault c.args.self.now.tables) c.args.goal.now c.in-Some.self_ty.now c.args.self.now
    c.closed_form.new.self c.closed_form.result c.in_ok-found.found c.form_to_consider.result c.in-Some.ensures
    (asks-form c.deref.result.now c.args.goal.now.param_env.items (term.Ty c.in_ok-copied_type.field-0) (tree_of_ty c.in-Some.self_ty.now) c.args.self.now c.closed_form.new.self
    c.closed_form.result c.deref.ensures.value (tree_of_term-Ty c.in_ok-copied_type.field-0 ∙ c.in_ok-copied_type.ensures.same) c.closed_form.ensures.sound
    c.closed_form.ensures.decided c.closed_form.ensures.itself c.closed_form.ensures.unchanged)
    c.in_ok-found.was c.form_to_consider.ensures c.in_default-form_to_consider.not-Some

pub returns-then-has_kind_fault-clause-forms : goal.returns-then-has_kind_fault-clause-forms
returns-then-has_kind_fault-clause-forms g c = inr (inr (
  c.in_ok-replaced.replaced,
  (considers g.G.GoalKind.words.self_type g.G.GoalKind.words.is_with_self c.args.goal.now c.in_ok-replaced.replaced c.in-Some.self_ty.now c.args.self.now c.closed_form.new.self
      c.closed_form.result c.in_ok-found.found c.in-Some-form_to_consider.form c.in-Some.ensures
      (asks-form c.deref.result.now c.args.goal.now.param_env.items (term.Ty c.in_ok-copied_type.field-0) (tree_of_ty c.in-Some.self_ty.now) c.args.self.now c.closed_form.new.self
      c.closed_form.result c.deref.ensures.value (tree_of_term-Ty c.in_ok-copied_type.field-0 ∙ c.in_ok-copied_type.ensures.same) c.closed_form.ensures.sound
      c.closed_form.ensures.decided c.closed_form.ensures.itself c.closed_form.ensures.unchanged)
      c.in_ok-found.was c.in-Some-form_to_consider.ensures c.in_ok-replaced.ensures.replaced c.in_ok-replaced.ensures.environment),
  (faulty-in g.G.PredicateTerms.has_fault _ c.closed_form.new.self c.args.self.now c.in_ok-replaced.replaced c.has_kind_fault.result true c.self.view_is c.closed_form.ensures.unchanged c.has_kind_fault.ensures c.if-has_kind_fault.true),
))

pub returns-clause-forms : goal.returns-clause-forms
returns-clause-forms g c = (
  (considers g.G.GoalKind.words.self_type g.G.GoalKind.words.is_with_self c.args.goal.now c.in_ok-replaced.replaced c.in-Some.self_ty.now c.args.self.now c.closed_form.new.self
      c.closed_form.result c.in_ok-found.found c.in-Some-form_to_consider.form c.in-Some.ensures
      (asks-form c.deref.result.now c.args.goal.now.param_env.items (term.Ty c.in_ok-copied_type.field-0) (tree_of_ty c.in-Some.self_ty.now) c.args.self.now c.closed_form.new.self
      c.closed_form.result c.deref.ensures.value (tree_of_term-Ty c.in_ok-copied_type.field-0 ∙ c.in_ok-copied_type.ensures.same) c.closed_form.ensures.sound
      c.closed_form.ensures.decided c.closed_form.ensures.itself c.closed_form.ensures.unchanged)
      c.in_ok-found.was c.in-Some-form_to_consider.ensures c.in_ok-replaced.ensures.replaced c.in_ok-replaced.ensures.environment),
  (faulty-in g.G.PredicateTerms.has_fault _ c.closed_form.new.self c.args.self.now c.in_ok-replaced.replaced c.has_kind_fault.result false c.self.view_is c.closed_form.ensures.unchanged c.has_kind_fault.ensures c.if-has_kind_fault.false),
)
