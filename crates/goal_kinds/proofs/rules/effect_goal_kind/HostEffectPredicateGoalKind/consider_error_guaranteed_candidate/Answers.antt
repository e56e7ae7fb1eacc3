use Rattle.goal_lists.specs.Candidates.{error}
use Rattle.goal_kinds.proofs.EffectFaceLemmas.{sure_effect-gives, sure_effect-refuted, sure_effect-told, effect-refusal}
use Rattle.goal_kinds.proofs.rules.effect_goal_kind.HostEffectPredicateGoalKind.consider_error_guaranteed_candidate.Goals as goal

pub returns-clause-gives : goal.returns-clause-gives
returns-clause-gives c =
    sure_effect-gives c.setting_of.result c.args.tables.now c.args.mode.now c.args.goal.now.param_env.items c.args.goal.now.predicate error
    c.setting_of.ensures.rows c.setting_of.ensures.mode c.const_error_rule.result (c.const_error_rule.ensures.listed c.args.goal.now.param_env.items)

pub returns-clause-refuted : goal.returns-clause-refuted
returns-clause-refuted c =
    sure_effect-refuted c.setting_of.result c.args.tables.now c.args.mode.now c.args.goal.now.param_env.items c.args.goal.now.predicate error
    c.setting_of.ensures.rows c.setting_of.ensures.mode c.const_error_rule.result (c.const_error_rule.ensures.listed c.args.goal.now.param_env.items)

pub returns-clause-fault : goal.returns-clause-fault
returns-clause-fault c =
    effect-refusal c.setting_of.result c.args.tables.now c.args.mode.now c.args.goal.now.param_env.items c.args.goal.now.predicate error
    c.setting_of.ensures.rows c.setting_of.ensures.mode c.const_error_rule.result (c.const_error_rule.ensures.refused c.args.goal.now.param_env.items)

pub returns-clause-list : goal.returns-clause-list
returns-clause-list c =
    sure_effect-told c.setting_of.result c.args.tables.now c.args.mode.now c.args.goal.now.param_env.items c.args.goal.now.predicate error
    c.setting_of.ensures.rows c.setting_of.ensures.mode c.const_error_rule.result (c.const_error_rule.ensures.listed c.args.goal.now.param_env.items)
