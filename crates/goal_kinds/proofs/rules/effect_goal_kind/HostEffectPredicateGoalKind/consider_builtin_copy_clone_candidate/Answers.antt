use Rattle.std.proofs.Common.{◌∙◌, ap}
use Rattle.goal_lists.specs.Builtins.{lang_of_trait}
use Rattle.goal_kinds.specs.CandidateRules.{is_rule_of, copy_clone}
use Rattle.goal_lists.specs.Candidates.{built_in}
use Rattle.goal_kinds.specs.EffectKind.{is_effect_rule_for}
use Rattle.goal_kinds.proofs.EffectFaceLemmas.{effect-answer, sure_effect-told}
use Rattle.goal_kinds.proofs.rules.effect_goal_kind.HostEffectPredicateGoalKind.consider_builtin_copy_clone_candidate.Goals as goal

pub returns-clause-answer : goal.returns-clause-answer
unfolding is_effect_rule_for
returns-clause-answer c =
    effect-answer c.setting_of.result c.args.tables.now c.args.mode.now c.args.goal.now.param_env.items c.args.goal.now.predicate
    c.setting_of.ensures.rows c.setting_of.ensures.mode c.is_copy_clone-is_for.result (is_effect_rule_for c.args.tables.now c.args.goal.now.predicate.trait_ref.def_id copy_clone) c.named_rule.result
    (c.is_copy_clone-is_for.ensures
    ∙ ap (is_rule_of copy_clone) (c.lang_item.ensures ∙ ap (λ t. lang_of_trait t c.args.goal.now.predicate.trait_ref.def_id) c.rows.ensures.rows))
    c.named_rule.ensures.other (c.named_rule.ensures.listed c.args.goal.now.param_env.items) (c.named_rule.ensures.refused c.args.goal.now.param_env.items)

pub returns-clause-list : goal.returns-clause-list
returns-clause-list c =
    sure_effect-told c.setting_of.result c.args.tables.now c.args.mode.now c.args.goal.now.param_env.items c.args.goal.now.predicate built_in
    c.setting_of.ensures.rows c.setting_of.ensures.mode c.named_rule.result (c.named_rule.ensures.listed c.args.goal.now.param_env.items)
