use Rattle.goal_kinds.proofs.EffectFaceLemmas.{implied-give, implied-no_impl, implied-refuted, implied-told}
use Rattle.goal_kinds.proofs.rules.effect_goal_kind.HostEffectPredicateGoalKind.consider_additional_alias_assumptions.Goals as goal

pub returns-clause-gives : goal.returns-clause-gives
returns-clause-gives c =
    implied-give c.setting_of.result c.args.tables.now c.args.mode.now c.args.goal.now.param_env.items c.args.goal.now.predicate c.args.alias.now
    c.setting_of.ensures.rows c.setting_of.ensures.mode c.implied_rules.result (c.implied_rules.ensures.listed c.args.goal.now.param_env.items)

pub returns-clause-refuted : goal.returns-clause-refuted
returns-clause-refuted c =
    implied-refuted c.setting_of.result c.args.tables.now c.args.mode.now c.args.goal.now.param_env.items c.args.goal.now.predicate c.args.alias.now
    c.setting_of.ensures.rows c.setting_of.ensures.mode c.implied_rules.result (c.implied_rules.ensures.listed c.args.goal.now.param_env.items)

pub returns-clause-list : goal.returns-clause-list
returns-clause-list c =
    implied-told c.setting_of.result c.args.tables.now c.args.mode.now c.args.goal.now.param_env.items c.args.goal.now.predicate c.args.alias.now
    c.setting_of.ensures.rows c.setting_of.ensures.mode c.implied_rules.result (c.implied_rules.ensures.listed c.args.goal.now.param_env.items)

pub returns-clause-no_impl : goal.returns-clause-no_impl
returns-clause-no_impl c =
    implied-no_impl c.setting_of.result c.args.tables.now c.args.mode.now c.args.goal.now.param_env.items c.args.goal.now.predicate c.args.alias.now
    c.setting_of.ensures.rows c.setting_of.ensures.mode c.implied_rules.result (c.implied_rules.ensures.listed c.args.goal.now.param_env.items)
