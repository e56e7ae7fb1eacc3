use Rattle.std.proofs.Common.{refl, sym, ap, subst, ◌∙◌}
use Rattle.std.specs.Prelude.{IfOk}
use Rattle.goal_tables.specs.Faults.{IsChecked}
use Rattle.goal_eval.specs.Lists.{RunIn}
use Rattle.goal_solver.specs.State.{State}
use Rattle.goal_eval.proofs.CacheLemmas.{sound-new, sound-parts}
use Rattle.goal_solver.proofs.FaultLemmas.{run-faults}
use Rattle.goal_solver.proofs.GoingBackLemmas.{solved-grown, goes_back-through, goes_back-interned}
use Rattle.goal_solver.proofs.EvaluationLemmas.{memory-ends, run-says}
use Rattle.goal_solver.proofs.AccessLemmas.{ends-here}
use Rattle.goal_solver.specs.RunRules.{RuleRunsOn}
use Rattle.goal_lists.specs.Levels.{level}
use Rattle.goal_lists.specs.Settings.{Setting}
use Rattle.goal_solver.proofs.context.EvalCtxt.reach.Goals as goal

pub invariant_of-self : goal.invariant_of-self
invariant_of-self c = (
  c.self.invariant.0,
  c.self.invariant.1,
  c.self.invariant.2,
  c.self.invariant.3,
  c.self.invariant.4,
  solved-grown c.self.inside.terms c.run_rule_entry-reached.new.terms c.self.inside.inference c.run_rule_entry-reached.ensures.kept c.self.invariant.5,
  c.self.invariant.6,
)

pub run_rule_entry-reached-requires-clause-effects : goal.run_rule_entry-reached-requires-clause-effects
run_rule_entry-reached-requires-clause-effects c = sound-new _ _ _ c.new-effects.ensures

pub returns-in_err-record_effects-clause-faults : goal.returns-in_err-record_effects-clause-faults
returns-in_err-record_effects-clause-faults c = run-faults _ _ c.args.self.now c.record_effects.new.self _ _ c.run_rule_entry-reached.new.effects.delayed_faults.items c.self.view_is refl refl c.rows.ensures.rows (sound-parts _ _ _ c.run_rule_entry-reached.ensures.effects).faults c.record_effects.ensures.faults

pub returns-clause-faults : goal.returns-clause-faults
returns-clause-faults c = run-faults _ _ c.args.self.now c.record_effects.new.self _ _ c.run_rule_entry-reached.new.effects.delayed_faults.items c.self.view_is refl refl c.rows.ensures.rows (sound-parts _ _ _ c.run_rule_entry-reached.ensures.effects).faults c.record_effects.ensures.faults

pub returns-clause-within : goal.returns-clause-within
returns-clause-within c =
    subst (λ T. IfOk c.run_rule_entry-reached.result (λ r. RunIn T c.run_rule_entry-reached.new.run)) (sym (ap (λ (s : State). s.terms) c.record_effects.ensures.unchanged)) c.run_rule_entry-reached.ensures.within

pub returns-clause-goes_back : goal.returns-clause-goes_back
returns-clause-goes_back c =
    goes_back-through c.args.self.now _ c.record_effects.new.self
    (goes_back-interned _ c.args.self.now _ c.run_rule_entry-reached.new.terms c.self.view_is refl c.run_rule_entry-reached.ensures.kept)
    c.record_effects.ensures.goes_back

pub returns-clause-stops : goal.returns-clause-stops
returns-clause-stops c =
    memory-ends c.args.self.now.tables c.args.self.now.typing_mode c.run_rule_entry-reached.result
    (ends-here _ c.args.self.now.tables _ c.args.self.now.typing_mode c.run_rule_entry-reached.result (c.rows.ensures.rows ∙ ap (λ (s : State). s.tables) c.self.view_is)
    (ap (λ (s : State). s.typing_mode) c.self.view_is) c.run_rule_entry-reached.ensures.stops)

pub returns-clause-says : goal.returns-clause-says
returns-clause-says c =
    run-says (λ (S : Setting) n T U. IfOk c.run_rule_entry-reached.result (RuleRunsOn S.tables (level S n) T c.args.run.now c.args.entry.now U c.run_rule_entry-reached.new.run))
    _ _ _ _ _ c.args.self.now c.record_effects.new.self c.args.environment.now c.args.on_access c.run_rule_entry-reached.new.terms
    (subst IsChecked (sym c.rows.ensures.rows) c.rows.ensures.checked) c.self.view_is c.run_rule_entry-reached.ensures.says (c.rows.ensures.rows ∙ ap (λ (s : State). s.tables) c.self.view_is) (ap (λ (s : State). s.typing_mode) c.self.view_is) refl refl
    (ap (λ (s : State). s.terms) c.record_effects.ensures.unchanged)

pub returns-in_err-record_effects-clause-goes_back : goal.returns-in_err-record_effects-clause-goes_back
returns-in_err-record_effects-clause-goes_back c =
    goes_back-through c.args.self.now _ c.record_effects.new.self
    (goes_back-interned _ c.args.self.now _ c.run_rule_entry-reached.new.terms c.self.view_is refl c.run_rule_entry-reached.ensures.kept)
    c.record_effects.ensures.goes_back
