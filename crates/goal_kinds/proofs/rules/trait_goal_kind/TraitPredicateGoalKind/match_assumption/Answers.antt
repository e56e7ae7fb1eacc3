use Rattle.goal_kinds.specs.CandidateRules.{said_by}
use Rattle.goal_kinds.proofs.TraitFaceLemmas.{trait-gives, trait-refuted, trait-told}
use Rattle.goal_kinds.proofs.rules.trait_goal_kind.TraitPredicateGoalKind.match_assumption.Goals as goal

pub returns-clause-gives : goal.returns-clause-gives
returns-clause-gives c =
    trait-gives c.setting_of-setting.result c.args.tables.now c.args.mode.now c.args.goal.now.param_env.items c.args.goal.now.predicate.trait_ref
    (said_by c.args.assumption.now.kind) c.setting_of-setting.ensures.rows c.setting_of-setting.ensures.mode c.args.then c.match_trait.result
    (c.match_trait.ensures.listed c.args.goal.now.param_env.items)

pub returns-clause-refuted : goal.returns-clause-refuted
returns-clause-refuted c =
    trait-refuted c.setting_of-setting.result c.args.tables.now c.args.mode.now c.args.goal.now.param_env.items c.args.goal.now.predicate.trait_ref
    (said_by c.args.assumption.now.kind) c.setting_of-setting.ensures.rows c.setting_of-setting.ensures.mode c.args.then c.match_trait.result
    (c.match_trait.ensures.listed c.args.goal.now.param_env.items)

pub returns-clause-list : goal.returns-clause-list
returns-clause-list c =
    trait-told c.setting_of-setting.result c.args.tables.now c.args.mode.now c.args.goal.now.param_env.items c.args.goal.now.predicate.trait_ref
    (said_by c.args.assumption.now.kind) c.setting_of-setting.ensures.rows c.setting_of-setting.ensures.mode c.args.then c.match_trait.result
    (c.match_trait.ensures.listed c.args.goal.now.param_env.items)
