use Rattle.std.proofs.Common.{refl, sym, ap, subst, ◌∙◌, ◌≡◌, Result, Ok, Err}
use Rattle.std.specs.Prelude.{IfOk, IfErr, IsErrAnd}
use Rattle.goal_tables.specs.Faults.{IsChecked}
use Rattle.goal_eval.specs.declared.eval.outcomes.Stop.{Stop}
use Rattle.goal_eval.specs.declared.eval.outcomes.Stop.TheVariants as stop
use Rattle.goal_eval.proofs.CacheLemmas.{sound-new, sound-parts}
use Rattle.goal_solver.specs.Accesses.{EndsFor}
use Rattle.goal_solver.specs.State.{State}
use Rattle.goal_solver.proofs.AccessLemmas.{run-recorded, ends-here}
use Rattle.goal_solver.proofs.EvaluationLemmas.{run-says, memory-ends}
use Rattle.goal_solver.proofs.FaultLemmas.{run-faults}
use Rattle.goal_solver.proofs.GoingBackLemmas.{goes_back-interned, goes_back-through, solved-grown}
use Rattle.goal_solver.proofs.context.EvalCtxt.run_question.Goals as goal

-- what was so of an end is so of the one that is handed on
handed : {T : Type 0} (r : Result T Stop) (x : Stop) (P : Stop → Type 0) → IsErrAnd r (λ y. y ≡ x) → P x → IfErr r P
handed (Ok o) x P h p = absurd h
handed (Err y) x P h p = subst P (sym h) p

pub invariant_of-self : goal.invariant_of-self
invariant_of-self g c = (
  c.self.invariant.0,
  c.self.invariant.1,
  c.self.invariant.2,
  c.self.invariant.3,
  c.self.invariant.4,
  solved-grown c.self.inside.terms c.ask-answer.new.terms c.self.inside.inference c.ask-answer.ensures.kept c.self.invariant.5,
  c.self.invariant.6,
)

pub ask-answer-requires-clause-effects : goal.ask-answer-requires-clause-effects
ask-answer-requires-clause-effects g c = sound-new _ _ _ c.no_effects-effects.ensures

pub ask-answer-requires-clause-asked : goal.ask-answer-requires-clause-asked
ask-answer-requires-clause-asked g c = subst (λ (s : State). g.Q.Question.can_ask s.terms c.args.question.now) (sym c.self.view_is) c.requires

pub returns-clause-goes_back : goal.returns-clause-goes_back
returns-clause-goes_back g c =
    goes_back-through c.args.self.now _ c.record_listed.new.self
    (goes_back-interned _ c.args.self.now _ c.ask-answer.new.terms c.self.view_is refl c.ask-answer.ensures.kept)
    c.record_listed.ensures.goes_back

pub returns-clause-within : goal.returns-clause-within
returns-clause-within g c =
    subst (λ ts. IfOk c.ask-answer.result (g.Q.Question.within ts)) (sym (ap (λ (s : State). s.terms) c.record_listed.ensures.unchanged)) c.ask-answer.ensures.within

pub returns-clause-says : goal.returns-clause-says
returns-clause-says g c =
    run-says (λ S n T U. IfOk c.ask-answer.result (g.Q.Question.says S c.args.depth T c.args.question.now U))
    _ _ _ _ _ c.args.self.now c.record_listed.new.self c.args.environment.now c.args.on_access c.ask-answer.new.terms
    (subst IsChecked (sym c.rows.ensures.rows) c.rows.ensures.checked) c.self.view_is c.ask-answer.ensures.says (c.rows.ensures.rows ∙ ap (λ (s : State). s.tables) c.self.view_is) (ap (λ (s : State). s.typing_mode) c.self.view_is) refl refl
    (ap (λ (s : State). s.terms) c.record_listed.ensures.unchanged)

pub returns-clause-caused : goal.returns-clause-caused
returns-clause-caused g c =
    run-recorded _ _ c.args.self.now c.record_listed.new.self _ c.ask-answer.new.effects.accesses.items c.self.view_is refl c.rows.ensures.rows (sound-parts _ _ _ c.ask-answer.ensures.effects).causes c.record_listed.ensures.listed

pub returns-clause-faults : goal.returns-clause-faults
returns-clause-faults g c = run-faults _ _ c.args.self.now c.record_listed.new.self _ _ c.ask-answer.new.effects.delayed_faults.items c.self.view_is refl refl c.rows.ensures.rows (sound-parts _ _ _ c.ask-answer.ensures.effects).faults c.record_listed.ensures.faults

pub returns-clause-ends : goal.returns-clause-ends
returns-clause-ends g c =
    ends-here _ c.args.self.now.tables _ c.args.self.now.typing_mode c.ask-answer.result (c.rows.ensures.rows ∙ ap (λ (s : State). s.tables) c.self.view_is) (ap (λ (s : State). s.typing_mode) c.self.view_is)
    c.ask-answer.ensures.stops

pub returns-clause-stops : goal.returns-clause-stops
returns-clause-stops g c =
    memory-ends c.args.self.now.tables c.args.self.now.typing_mode c.ask-answer.result
    (ends-here _ c.args.self.now.tables _ c.args.self.now.typing_mode c.ask-answer.result (c.rows.ensures.rows ∙ ap (λ (s : State). s.tables) c.self.view_is)
    (ap (λ (s : State). s.typing_mode) c.self.view_is) c.ask-answer.ensures.stops)

pub returns-in_err-record_listed-clause-goes_back : goal.returns-in_err-record_listed-clause-goes_back
returns-in_err-record_listed-clause-goes_back g c =
    goes_back-through c.args.self.now _ c.record_listed.new.self
    (goes_back-interned _ c.args.self.now _ c.ask-answer.new.terms c.self.view_is refl c.ask-answer.ensures.kept)
    c.record_listed.ensures.goes_back

pub returns-in_err-record_listed-clause-caused : goal.returns-in_err-record_listed-clause-caused
returns-in_err-record_listed-clause-caused g c =
    run-recorded _ _ c.args.self.now c.record_listed.new.self _ c.ask-answer.new.effects.accesses.items c.self.view_is refl c.rows.ensures.rows (sound-parts _ _ _ c.ask-answer.ensures.effects).causes c.record_listed.ensures.listed

pub returns-in_err-record_listed-clause-faults : goal.returns-in_err-record_listed-clause-faults
returns-in_err-record_listed-clause-faults g c = run-faults _ _ c.args.self.now c.record_listed.new.self _ _ c.ask-answer.new.effects.delayed_faults.items c.self.view_is refl refl c.rows.ensures.rows (sound-parts _ _ _ c.ask-answer.ensures.effects).faults c.record_listed.ensures.faults

pub returns-in_err-record_listed-clause-stops : goal.returns-in_err-record_listed-clause-stops
returns-in_err-record_listed-clause-stops g c =
    λ headline. handed c.from_residual.result c.in_err-record_listed.field-0.0 (λ y. y ≡ stop.OutOfMemory) c.from_residual.ensures.1 c.in_err-record_listed.ensures.only_memory

pub returns-in_err-record_listed-clause-ends : goal.returns-in_err-record_listed-clause-ends
returns-in_err-record_listed-clause-ends g c =
    handed c.from_residual.result c.in_err-record_listed.field-0.0 (EndsFor c.args.self.now) c.from_residual.ensures.1 (subst (EndsFor c.args.self.now) (sym c.in_err-record_listed.ensures.only_memory) tt)

pub returns-clause-memory : goal.returns-clause-memory
returns-clause-memory g c = λ so. c.ask-answer.ensures.memory (subst (λ (s : State). g.Q.Question.ends_for_memory s.terms c.args.question.now) (sym c.self.view_is) so)

pub returns-in_err-record_listed-clause-memory : goal.returns-in_err-record_listed-clause-memory
returns-in_err-record_listed-clause-memory g c =
    λ so. handed c.from_residual.result c.in_err-record_listed.field-0.0 (λ y. y ≡ stop.OutOfMemory) c.from_residual.ensures.1 c.in_err-record_listed.ensures.only_memory
