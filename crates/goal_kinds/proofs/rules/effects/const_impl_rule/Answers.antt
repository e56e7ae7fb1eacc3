use Rattle.std.proofs.Common.{[], refl, sym, subst}
use Rattle.std.specs.Prelude.{IfOk}
use Rattle.goal_lists.specs.Candidates.{by_impl}
use Rattle.goal_kinds.specs.EffectKind.{asked_effect_list}
use Rattle.goal_lists.specs.InternedEntries.{setting_at}
use Rattle.goal_kinds.specs.RuleLists.{IsListed, list_then}
use Rattle.goal_kinds.proofs.EffectFaceLemmas.{effect_impl-accepted}
use Rattle.goal_kinds.proofs.TraitFaceLemmas.{seen_row, impl-by_id}
use Rattle.goal_kinds.proofs.rules.effects.const_impl_rule.Goals as goal

pub candidate_rule-requires-clause-row : goal.candidate_rule-requires-clause-row
candidate_rule-requires-clause-row c = impl-by_id c.args.setting.rows.now c.args.id c.in-Some.row.now (sym c.in-Some.ensures)

pub returns-clause-listed : goal.returns-clause-listed
returns-clause-listed c env row found =
    subst (λ q. IfOk c.candidate_rule.result (λ r. IsListed c.args.setting.rows.now r (list_then c.args.then (asked_effect_list c.args.asked.now (setting_at c.args.setting env) (by_impl q)))))
    (sym (seen_row _ row c.in-Some.row.now found c.in-Some.ensures)) (c.candidate_rule.ensures.listed env)

pub returns-clause-accepted : goal.returns-clause-accepted
returns-clause-accepted c e =
    effect_impl-accepted (setting_at c.args.setting []) c.args.setting.mode.now c.args.asked.now _ c.in-Some.row.now c.candidate_rule.result c.in-Some.ensures refl e
    (c.candidate_rule.ensures.refused [])
