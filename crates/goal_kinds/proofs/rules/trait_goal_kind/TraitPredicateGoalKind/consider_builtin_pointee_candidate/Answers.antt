use Rattle.std.proofs.Common.{◌∙◌, ap}
use Rattle.goal_lists.specs.Builtins.{lang_of_trait}
use Rattle.goal_kinds.specs.CandidateRules.{is_rule_of, is_rule_for, pointee}
use Rattle.goal_lists.specs.Candidates.{built_in}
use Rattle.goal_kinds.proofs.TraitFaceLemmas.{trait-answer, sure-told}
use Rattle.goal_kinds.proofs.rules.trait_goal_kind.TraitPredicateGoalKind.consider_builtin_pointee_candidate.Goals as goal

pub returns-clause-answer : goal.returns-clause-answer
returns-clause-answer c =
    trait-answer c.setting_of.result c.args.tables.now c.args.mode.now c.args.goal.now.param_env.items c.args.goal.now.predicate.trait_ref
    c.setting_of.ensures.rows c.setting_of.ensures.mode c.is_pointee-is_for.result (is_rule_for c.args.tables.now c.args.goal.now.predicate.trait_ref.def_id pointee) c.named_rule.result
    (c.is_pointee-is_for.ensures
    ∙ ap (is_rule_of pointee) (c.lang_item.ensures ∙ ap (λ t. lang_of_trait t c.args.goal.now.predicate.trait_ref.def_id) c.rows.ensures.rows))
    c.named_rule.ensures.other (c.named_rule.ensures.listed c.args.goal.now.param_env.items) (c.named_rule.ensures.refused c.args.goal.now.param_env.items)

pub returns-clause-list : goal.returns-clause-list
returns-clause-list c =
    sure-told c.setting_of.result c.args.tables.now c.args.mode.now c.args.goal.now.param_env.items c.args.goal.now.predicate.trait_ref built_in
    c.setting_of.ensures.rows c.setting_of.ensures.mode c.named_rule.result (c.named_rule.ensures.listed c.args.goal.now.param_env.items)
