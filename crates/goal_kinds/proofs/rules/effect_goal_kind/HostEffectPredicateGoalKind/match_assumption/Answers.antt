use Rattle.goal_kinds.specs.CandidateRules.{said_by}
use Rattle.goal_kinds.proofs.EffectFaceLemmas.{effect-gives, effect-refuted, effect-told}
use Rattle.goal_kinds.proofs.rules.effect_goal_kind.HostEffectPredicateGoalKind.match_assumption.Goals as goal

pub returns-clause-gives : goal.returns-clause-gives
returns-clause-gives c =
    effect-gives c.setting_of-setting.result c.args.tables.now c.args.mode.now c.args.goal.now.param_env.items c.args.goal.now.predicate
    (said_by c.args.assumption.now.kind) c.setting_of-setting.ensures.rows c.setting_of-setting.ensures.mode c.args.then c.match_effect.result
    (c.match_effect.ensures.listed c.args.goal.now.param_env.items)

pub returns-clause-refuted : goal.returns-clause-refuted
returns-clause-refuted c =
    effect-refuted c.setting_of-setting.result c.args.tables.now c.args.mode.now c.args.goal.now.param_env.items c.args.goal.now.predicate
    (said_by c.args.assumption.now.kind) c.setting_of-setting.ensures.rows c.setting_of-setting.ensures.mode c.args.then c.match_effect.result
    (c.match_effect.ensures.listed c.args.goal.now.param_env.items)

pub returns-clause-list : goal.returns-clause-list
returns-clause-list c =
    effect-told c.setting_of-setting.result c.args.tables.now c.args.mode.now c.args.goal.now.param_env.items c.args.goal.now.predicate
    (said_by c.args.assumption.now.kind) c.setting_of-setting.ensures.rows c.setting_of-setting.ensures.mode c.args.then c.match_effect.result
    (c.match_effect.ensures.listed c.args.goal.now.param_env.items)
