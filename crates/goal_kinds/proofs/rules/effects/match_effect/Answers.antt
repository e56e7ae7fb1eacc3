use Rattle.std.proofs.Common.{[], ◌≡◌, ◌∙◌, ap, sym, subst, None}
use Rattle.std.specs.Prelude.{IfOk, IfErr}
use Rattle.goal_kinds.specs.CandidateRules.{IsRefusal}
use Rattle.goal_lists.specs.Candidates.{assumption}
use Rattle.goal_kinds.specs.EffectKind.{asked_effect_list}
use Rattle.goal_lists.specs.InternedEntries.{setting_at}
use Rattle.goal_kinds.specs.RuleLists.{IsListed, list_then}
use Rattle.goal_kinds.proofs.EffectFaceLemmas.{effect_said-given, effect_said-accepted}
use Rattle.goal_kinds.proofs.rules.effects.match_effect.Goals as goal

pub returns-clause-listed : goal.returns-clause-listed
returns-clause-listed c env =
    subst (λ k. IfOk c.candidate_rule.result (λ r. IsListed c.args.setting.rows.now r (list_then c.args.then (asked_effect_list c.args.asked.now (setting_at c.args.setting env) k))))
    (ap assumption c.in_ok-predicate.ensures.tree) (c.candidate_rule.ensures.listed env)

pub returns-clause-given : goal.returns-clause-given
returns-clause-given c =
    effect_said-given c.args.setting.rows.now (setting_at c.args.setting []) c.args.asked.now c.args.assumption.now.kind c.args.then c.candidate_rule.result
    (sym c.is_of_effect.ensures ∙ c.if-not-is_of_effect.false)
    (subst (λ k. IfOk c.candidate_rule.result (λ r. IsListed c.args.setting.rows.now r (list_then c.args.then (asked_effect_list c.args.asked.now (setting_at c.args.setting []) k))))
    (ap assumption c.in_ok-predicate.ensures.tree) (c.candidate_rule.ensures.listed []))

pub returns-clause-accepted : goal.returns-clause-accepted
returns-clause-accepted c e =
    effect_said-accepted (setting_at c.args.setting []) c.args.asked.now c.args.assumption.now.kind c.candidate_rule.result e
    (subst (λ k. IfErr c.candidate_rule.result (IsRefusal (asked_effect_list c.args.asked.now (setting_at c.args.setting []) k ≡ None)))
    (ap assumption c.in_ok-predicate.ensures.tree) (c.candidate_rule.ensures.refused []))
