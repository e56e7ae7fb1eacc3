use Rattle.std.proofs.Common.{[], ◌≡◌, sym, ◌∙◌, subst}
use Rattle.std.specs.Prelude.{IfOk, IfErr}
use Rattle.goal_kinds.specs.EffectKind.{asked_effect_list}
use Rattle.goal_lists.specs.Interned.{candidate_at}
use Rattle.goal_lists.specs.InternedEntries.{setting_at}
use Rattle.goal_kinds.specs.RuleLists.{IsListed, list_then}
use Rattle.goal_kinds.specs.declared.faults.Fault.TheVariants as fault
use Rattle.goal_terms.specs.declared.answers.Certainty.TheVariants as certainty
use Rattle.goal_kinds.proofs.EffectFaceLemmas.{implied-is_of, implied-more, implied-accepted}
use Rattle.goal_kinds.proofs.rules.effects.push_implied_rule.Goals as goal

pub candidate_rule-requires-clause-row : goal.candidate_rule-requires-clause-row
candidate_rule-requires-clause-row c =
    implied-is_of c.args.setting.rows.now c.args.terms.now c.args.asked.now.trait_ref.def_id c.args.candidate.now
    (sym (c.is_implied_for.ensures c.args.terms.now) ∙ c.if-not-is_implied_for.false)

pub returns-in-Err-clause-only_memory : goal.returns-in-Err-clause-only_memory
returns-in-Err-clause-only_memory c =
    subst (λ r. IfErr r (λ f. f ≡ fault.OutOfMemory)) c.in-Err.is
    (implied-accepted (setting_at c.args.setting []) c.args.asked.now (candidate_at c.args.terms.now c.args.candidate.now) c.candidate_rule.result
    (sym (c.is_implied_for.ensures c.args.terms.now) ∙ c.if-not-is_implied_for.false) (c.candidate_rule.ensures.refused []))

pub returns-in_ok-push_rule-in-Ok-clause-added : goal.returns-in_ok-push_rule-in-Ok-clause-added
returns-in_ok-push_rule-in-Ok-clause-added c env cs =
    implied-more c.args.setting.rows.now c.args.asked.now (setting_at c.args.setting env) cs (candidate_at c.args.terms.now c.args.candidate.now) c.args.rules.now.items
    c.push_rule.new.found.items c.in-Ok.rule (sym (c.is_implied_for.ensures c.args.terms.now) ∙ c.if-not-is_implied_for.false) c.in_ok-push_rule-in-Ok.ensures
    (subst (λ r. IfOk r (λ x. IsListed c.args.setting.rows.now x (list_then certainty.Yes (asked_effect_list c.args.asked.now (setting_at c.args.setting env) (candidate_at c.args.terms.now c.args.candidate.now)))))
    c.in-Ok.is (c.candidate_rule.ensures.listed env))
