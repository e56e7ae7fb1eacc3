use Rattle.goal_kinds.specs.CandidateRules.{said_by}
use Rattle.goal_kinds.proofs.ProjectionFaceLemmas.{projection-gives, projection-refuted, projection-told}
use Rattle.goal_kinds.proofs.rules.projection_goal_kind.NormalizesToGoalKind.match_assumption.Goals as goal

pub returns-clause-gives : goal.returns-clause-gives
returns-clause-gives c =
    projection-gives c.setting_of-setting.result c.args.tables.now c.args.mode.now c.args.goal.now.param_env.items c.args.goal.now.predicate.alias (said_by c.args.assumption.now.kind)
    c.setting_of-setting.ensures.rows c.setting_of-setting.ensures.mode c.args.then c.match_projection.result (c.match_projection.ensures.listed c.args.goal.now.param_env.items)

pub returns-clause-refuted : goal.returns-clause-refuted
returns-clause-refuted c =
    projection-refuted c.setting_of-setting.result c.args.tables.now c.args.mode.now c.args.goal.now.param_env.items c.args.goal.now.predicate.alias (said_by c.args.assumption.now.kind)
    c.setting_of-setting.ensures.rows c.setting_of-setting.ensures.mode c.args.then c.match_projection.result (c.match_projection.ensures.listed c.args.goal.now.param_env.items)

pub returns-clause-list : goal.returns-clause-list
returns-clause-list c =
    projection-told c.setting_of-setting.result c.args.tables.now c.args.mode.now c.args.goal.now.param_env.items c.args.goal.now.predicate.alias (said_by c.args.assumption.now.kind)
    c.setting_of-setting.ensures.rows c.setting_of-setting.ensures.mode c.args.then c.match_projection.result (c.match_projection.ensures.listed c.args.goal.now.param_env.items)
