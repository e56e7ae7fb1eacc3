use Rattle.goal_kinds.specs.CandidateRules.{fn_trait}
use Rattle.goal_lists.specs.Candidates.{built_in}
use Rattle.goal_kinds.specs.ProjectionKind.{is_for_alias, lang_of_alias}
use Rattle.goal_kinds.proofs.ProjectionFaceLemmas.{projection-answer, sure_projection-told}
use Rattle.goal_kinds.proofs.rules.projection_goal_kind.NormalizesToGoalKind.consider_builtin_fn_trait_candidates.Goals as goal

pub returns-clause-answer : goal.returns-clause-answer
unfolding is_for_alias
returns-clause-answer c =
    projection-answer c.setting_of.result c.args.tables.now c.args.mode.now c.args.goal.now.param_env.items c.args.goal.now.predicate.alias
    c.setting_of.ensures.rows c.setting_of.ensures.mode c.is_lang_item-is_for.result (is_for_alias fn_trait (lang_of_alias c.args.tables.now c.args.goal.now.predicate.alias.kind)) c.named_rule.result
    c.is_lang_item-is_for.ensures c.named_rule.ensures.other (c.named_rule.ensures.listed c.args.goal.now.param_env.items) (c.named_rule.ensures.refused c.args.goal.now.param_env.items)

pub returns-clause-list : goal.returns-clause-list
returns-clause-list c =
    sure_projection-told c.setting_of.result c.args.tables.now c.args.mode.now c.args.goal.now.param_env.items c.args.goal.now.predicate.alias built_in
    c.setting_of.ensures.rows c.setting_of.ensures.mode c.named_rule.result (c.named_rule.ensures.listed c.args.goal.now.param_env.items)
