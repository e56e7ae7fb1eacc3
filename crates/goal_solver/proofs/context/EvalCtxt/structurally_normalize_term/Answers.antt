use Rattle.std.proofs.Common.{◌∙◌, Option, Result, Ok, ap, subst}
use Rattle.goal_terms.specs.Tree.{Tree}
use Rattle.goal_terms.specs.declared.terms.Term.{Term}
use Rattle.goal_kinds.specs.declared.faults.Fault.{Fault}
use Rattle.goal_solver.specs.Answers.{level_over}
use Rattle.goal_solver.specs.HeadForms.{IsFormAnswer, bound_term, is_open_form}
use Rattle.goal_solver.specs.OpenAnswers.{answers_term}
use Rattle.goal_solver.specs.OpenForms.{OpensFrom}
use Rattle.goal_solver.proofs.AddedGoalLemmas.{fault-later}
use Rattle.goal_solver.proofs.AnswerLemmas.{owed-before}
use Rattle.goal_solver.proofs.GoingBackLemmas.{goes_back-through}
use Rattle.goal_solver.proofs.OpenFormLemmas.{bound-restored, left-none, left-opens, no_alias-not_open, none-answered, none-given, opens-later, restored-twice}
use Rattle.goal_solver.proofs.RoundLemmas.{handed-on}
use Rattle.goal_solver.proofs.context.EvalCtxt.structurally_normalize_term.Goals as goal

pub returns-in_err-form-clause-sound : goal.returns-in_err-form-clause-sound
returns-in_err-form-clause-sound c = λ m owed other.
    handed-on c.from_residual.result c.in_err-form.field-0.0 (λ (r : Result (Option Term) Fault). IsFormAnswer (level_over c.args.self.now m c.args.environment.now) (bound_term c.args.self.now c.args.term.now) r) c.from_residual.ensures.1 (c.in_err-form.ensures.sound m owed)

pub returns-in_err-form-clause-opens : goal.returns-in_err-form-clause-opens
returns-in_err-form-clause-opens c = λ holds. (
  c.closed_form.new.self,
  c.closed_form.ensures.unchanged,
  handed-on c.from_residual.result c.in_err-form.field-0.0 (λ (r : Result (Option Term) Fault). OpensFrom answers_term c.args.environment.now (bound_term c.args.self.now c.args.term.now) c.closed_form.new.self r c.closed_form.new.self) c.from_residual.ensures.1 (left-opens answers_term c.args.environment.now (bound_term c.args.self.now c.args.term.now) c.closed_form.new.self c.closed_form.new.self c.in_err-form.field-0.0 (c.in_err-form.ensures.left holds)),
)

pub returns-in-Some-clause-sound : goal.returns-in-Some-clause-sound
returns-in-Some-clause-sound c = λ m owed other.
    subst (λ o. IsFormAnswer (level_over c.args.self.now m c.args.environment.now) (bound_term c.args.self.now c.args.term.now) (Ok o)) c.in-Some.is (c.in_ok-form.ensures.sound m owed)

pub returns-in-Some-clause-opens : goal.returns-in-Some-clause-opens
returns-in-Some-clause-opens c = λ holds. absurd (left-none c.in_ok-form.field-0 c.in-Some.form c.in-Some.is (c.in_ok-form.ensures.left holds))

pub returns-in-None-clause-sound : goal.returns-in-None-clause-sound
returns-in-None-clause-sound c = λ m owed other.
    none-answered (level_over c.args.self.now m c.args.environment.now) (bound_term c.args.self.now c.args.term.now) c.open_form.result (c.open_form.ensures.none (ap (λ (t : Tree). is_open_form t c.args.environment.now) (bound-restored c.args.self.now c.closed_form.new.self c.args.term.now c.closed_form.ensures.unchanged c.closed_form.ensures.goes_back c.holds_together.ensures.solved) ∙ other)) (c.open_form.ensures.only_memory (ap (λ (t : Tree). is_open_form t c.args.environment.now) (bound-restored c.args.self.now c.closed_form.new.self c.args.term.now c.closed_form.ensures.unchanged c.closed_form.ensures.goes_back c.holds_together.ensures.solved) ∙ other))

pub returns-in-None-clause-decided : goal.returns-in-None-clause-decided
returns-in-None-clause-decided c = λ m owed closed none.
    c.in_ok-form.ensures.decided m (owed-before c.closed_form.new.self c.open_form.new.self m c.open_form.ensures.goes_back owed) closed (ap (λ (o : Option Term). Ok o) c.in-None.is)

pub returns-in-None-clause-only_memory : goal.returns-in-None-clause-only_memory
returns-in-None-clause-only_memory c = λ plain.
    let other = no_alias-not_open (bound_term c.args.self.now c.args.term.now) c.args.environment.now plain in
    c.open_form.ensures.only_memory (ap (λ (t : Tree). is_open_form t c.args.environment.now) (bound-restored c.args.self.now c.closed_form.new.self c.args.term.now c.closed_form.ensures.unchanged c.closed_form.ensures.goes_back c.holds_together.ensures.solved) ∙ other)

pub returns-in-None-clause-opens : goal.returns-in-None-clause-opens
returns-in-None-clause-opens c = λ holds.
    opens-later answers_term c.args.environment.now (bound_term c.args.self.now c.args.term.now) (bound_term c.closed_form.new.self c.args.term.now) c.args.self.now c.closed_form.new.self c.open_form.new.self c.open_form.result c.closed_form.ensures.unchanged (bound-restored c.args.self.now c.closed_form.new.self c.args.term.now c.closed_form.ensures.unchanged c.closed_form.ensures.goes_back c.holds_together.ensures.solved)
    (c.open_form.ensures.opens (ap (λ (t : Tree). is_open_form t c.args.environment.now) (bound-restored c.args.self.now c.closed_form.new.self c.args.term.now c.closed_form.ensures.unchanged c.closed_form.ensures.goes_back c.holds_together.ensures.solved) ∙ holds))

pub returns-in-None-clause-kept : goal.returns-in-None-clause-kept
returns-in-None-clause-kept c = λ other.
    restored-twice c.args.self.now c.closed_form.new.self c.open_form.new.self c.closed_form.ensures.unchanged (c.open_form.ensures.unchanged (none-given c.open_form.result (c.open_form.ensures.none (ap (λ (t : Tree). is_open_form t c.args.environment.now) (bound-restored c.args.self.now c.closed_form.new.self c.args.term.now c.closed_form.ensures.unchanged c.closed_form.ensures.goes_back c.holds_together.ensures.solved) ∙ other))))

pub returns-in-None-clause-unchanged : goal.returns-in-None-clause-unchanged
returns-in-None-clause-unchanged c = λ none. restored-twice c.args.self.now c.closed_form.new.self c.open_form.new.self c.closed_form.ensures.unchanged (c.open_form.ensures.unchanged none)

pub returns-in-None-clause-goes_back : goal.returns-in-None-clause-goes_back
returns-in-None-clause-goes_back c = goes_back-through c.args.self.now c.closed_form.new.self c.open_form.new.self c.closed_form.ensures.goes_back c.open_form.ensures.goes_back

pub returns-in-None-clause-fault : goal.returns-in-None-clause-fault
returns-in-None-clause-fault c = fault-later c.args.self.now c.closed_form.new.self c.open_form.new.self c.open_form.result c.closed_form.ensures.goes_back c.open_form.ensures.fault
