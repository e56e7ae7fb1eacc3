use Rattle.std.proofs.Common.{sym, ◌∙◌}
use Rattle.goal_solver.specs.Answers.{level_over}
use Rattle.goal_solver.specs.HeadForms.{bound_term}
use Rattle.goal_solver.proofs.GoingBackLemmas.{goes_back-grown}
use Rattle.goal_solver.proofs.FormAnswerLemmas.{found-itself, open-unfound}
use Rattle.goal_lists.specs.Interned.{erased_at}
use Rattle.goal_solver.proofs.OpenFormLemmas.{closed-not_open, other-not_open}
use Rattle.goal_solver.proofs.context.EvalCtxt.form_outcome.Goals as goal

pub returns-then-not-is_alias_at-clause-sound : goal.returns-then-not-is_alias_at-clause-sound
returns-then-not-is_alias_at-clause-sound c = λ m stands.
    found-itself (level_over c.args.self.now m c.args.environment.now) (bound_term c.args.self.now c.args.term.now) c.bound_form.new.self.terms c.in_ok-form.form c.in_ok-form.ensures.tree
    (sym c.is_alias_at.ensures ∙ c.if-not-is_alias_at.true)

pub returns-then-is_open-clause-decided : goal.returns-then-is_open-clause-decided
returns-then-is_open-clause-decided c = λ m stands closed.
    open-unfound (level_over c.args.self.now m c.args.environment.now) (bound_term c.args.self.now c.args.term.now) c.bound_form.new.self.terms c.in_ok-form.form c.args.environment.now c.is_open.result
    c.in_ok-form.ensures.tree c.is_open.ensures c.if-is_open.true closed

pub returns-in_err-form-clause-goes_back : goal.returns-in_err-form-clause-goes_back
returns-in_err-form-clause-goes_back c = goes_back-grown c.args.self.now c.bound_form.new.self c.bound_form.ensures.unchanged c.bound_form.ensures.kept

pub returns-then-not-is_alias_at-clause-goes_back : goal.returns-then-not-is_alias_at-clause-goes_back
returns-then-not-is_alias_at-clause-goes_back c = goes_back-grown c.args.self.now c.bound_form.new.self c.bound_form.ensures.unchanged c.bound_form.ensures.kept

pub returns-then-is_open-clause-goes_back : goal.returns-then-is_open-clause-goes_back
returns-then-is_open-clause-goes_back c = goes_back-grown c.args.self.now c.bound_form.new.self c.bound_form.ensures.unchanged c.bound_form.ensures.kept

pub returns-then-not-is_alias_at-clause-left : goal.returns-then-not-is_alias_at-clause-left
returns-then-not-is_alias_at-clause-left c = λ holds.
    other-not_open (bound_term c.args.self.now c.args.term.now) (erased_at c.bound_form.new.self.terms c.in_ok-form.form) c.args.environment.now c.is_alias_at.result _ c.in_ok-form.ensures.tree c.is_alias_at.ensures
    c.if-not-is_alias_at.true holds

pub returns-clause-left : goal.returns-clause-left
returns-clause-left c = λ holds.
    closed-not_open (bound_term c.args.self.now c.args.term.now) (erased_at c.bound_form.new.self.terms c.in_ok-form.form) c.args.environment.now c.is_open.result _ c.in_ok-form.ensures.tree c.is_open.ensures
    c.if-is_open.false holds
