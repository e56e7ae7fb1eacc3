use Rattle.std.proofs.Common.{false}
use Rattle.goal_kinds.specs.EffectKind.{is_effect_rule_for}
use Rattle.goal_kinds.proofs.RuleListLemmas.{other-named}
use Rattle.goal_kinds.proofs.rules.effect_goal_kind.HostEffectPredicateGoalKind.consider_builtin_field_candidate.Goals as goal

pub returns-clause-answer : goal.returns-clause-answer
unfolding is_effect_rule_for
returns-clause-answer c = other-named false _ _ _
