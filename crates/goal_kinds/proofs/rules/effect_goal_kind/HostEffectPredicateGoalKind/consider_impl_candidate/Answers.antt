use Rattle.std.proofs.Common.{◌∙◌, ap, ap₂, sym}
use Rattle.goal_tables.specs.Rows.{impl_of}
use Rattle.goal_lists.specs.Answers.{setting_of}
use Rattle.goal_lists.specs.Candidates.{by_impl}
use Rattle.goal_lists.specs.ConstGoals.{ConstCandidateRefuted, ConstImplRefuted}
use Rattle.goal_kinds.specs.EffectKind.{refuses_effect_impl}
use Rattle.goal_kinds.proofs.EffectKindLaws.{refused-const_impl}
use Rattle.goal_kinds.proofs.EffectFaceLemmas.{effect-gives, effect-refuted, effect-told}
use Rattle.goal_kinds.proofs.TraitKindLemmas.{refusal-of}
use Rattle.goal_kinds.proofs.rules.effect_goal_kind.HostEffectPredicateGoalKind.consider_impl_candidate.Goals as goal

pub returns-clause-gives : goal.returns-clause-gives
returns-clause-gives c row found same =
    effect-gives c.setting_of-setting.result c.args.tables.now c.args.mode.now c.args.goal.now.param_env.items c.args.goal.now.predicate (by_impl row)
    c.setting_of-setting.ensures.rows c.setting_of-setting.ensures.mode c.args.then c.const_impl_rule.result
    (c.const_impl_rule.ensures.listed c.args.goal.now.param_env.items row (ap (λ t. impl_of t c.args.impl_id) c.setting_of-setting.ensures.rows ∙ found))

pub returns-clause-refuted : goal.returns-clause-refuted
returns-clause-refuted c row found same =
    effect-refuted c.setting_of-setting.result c.args.tables.now c.args.mode.now c.args.goal.now.param_env.items c.args.goal.now.predicate (by_impl row)
    c.setting_of-setting.ensures.rows c.setting_of-setting.ensures.mode c.args.then c.const_impl_rule.result
    (c.const_impl_rule.ensures.listed c.args.goal.now.param_env.items row (ap (λ t. impl_of t c.args.impl_id) c.setting_of-setting.ensures.rows ∙ found))

pub returns-clause-fault : goal.returns-clause-fault
unfolding ConstCandidateRefuted ConstImplRefuted
returns-clause-fault c row found same =
    refusal-of _ (refuses_effect_impl c.setting_of-setting.result.mode.now c.args.goal.now.predicate (impl_of c.setting_of-setting.result.rows.now c.args.impl_id)) c.const_impl_rule.result
    c.const_impl_rule.ensures.refused c.const_impl_rule.ensures.accepted
    (λ e. refused-const_impl (setting_of c.args.tables.now c.args.mode.now c.args.goal.now.param_env.items) c.args.mode.now c.args.goal.now.predicate c.args.impl_id row
    c.setting_of-setting.ensures.checked c.requires.accepted found same
    (sym (ap₂ (λ m o. refuses_effect_impl m c.args.goal.now.predicate o) c.setting_of-setting.ensures.mode
    (ap (λ t. impl_of t c.args.impl_id) c.setting_of-setting.ensures.rows ∙ found)) ∙ e))

pub returns-clause-list : goal.returns-clause-list
returns-clause-list c row found =
    effect-told c.setting_of-setting.result c.args.tables.now c.args.mode.now c.args.goal.now.param_env.items c.args.goal.now.predicate (by_impl row)
    c.setting_of-setting.ensures.rows c.setting_of-setting.ensures.mode c.args.then c.const_impl_rule.result
    (c.const_impl_rule.ensures.listed c.args.goal.now.param_env.items row (ap (λ t. impl_of t c.args.impl_id) c.setting_of-setting.ensures.rows ∙ found))
