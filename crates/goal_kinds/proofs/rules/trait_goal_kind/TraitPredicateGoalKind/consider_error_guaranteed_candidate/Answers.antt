use Rattle.goal_lists.specs.Candidates.{error}
use Rattle.goal_kinds.proofs.TraitFaceLemmas.{sure-gives, sure-refuted, sure-told, trait-refusal}
use Rattle.goal_kinds.proofs.rules.trait_goal_kind.TraitPredicateGoalKind.consider_error_guaranteed_candidate.Goals as goal

pub returns-clause-gives : goal.returns-clause-gives
returns-clause-gives c =
    sure-gives c.setting_of.result c.args.tables.now c.args.mode.now c.args.goal.now.param_env.items c.args.goal.now.predicate.trait_ref error
    c.setting_of.ensures.rows c.setting_of.ensures.mode c.error_rule.result (c.error_rule.ensures.listed c.args.goal.now.param_env.items)

pub returns-clause-refuted : goal.returns-clause-refuted
returns-clause-refuted c =
    sure-refuted c.setting_of.result c.args.tables.now c.args.mode.now c.args.goal.now.param_env.items c.args.goal.now.predicate.trait_ref error
    c.setting_of.ensures.rows c.setting_of.ensures.mode c.error_rule.result (c.error_rule.ensures.listed c.args.goal.now.param_env.items)

pub returns-clause-fault : goal.returns-clause-fault
returns-clause-fault c =
    trait-refusal c.setting_of.result c.args.tables.now c.args.mode.now c.args.goal.now.param_env.items c.args.goal.now.predicate.trait_ref error
    c.setting_of.ensures.rows c.setting_of.ensures.mode c.error_rule.result (c.error_rule.ensures.refused c.args.goal.now.param_env.items)

pub returns-clause-list : goal.returns-clause-list
returns-clause-list c =
    sure-told c.setting_of.result c.args.tables.now c.args.mode.now c.args.goal.now.param_env.items c.args.goal.now.predicate.trait_ref error
    c.setting_of.ensures.rows c.setting_of.ensures.mode c.error_rule.result (c.error_rule.ensures.listed c.args.goal.now.param_env.items)
