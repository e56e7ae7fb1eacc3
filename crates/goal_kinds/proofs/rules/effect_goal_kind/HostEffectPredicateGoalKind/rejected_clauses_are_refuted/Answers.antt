use Rattle.goal_kinds.proofs.EffectKindLaws.{rejected-effect}
use Rattle.goal_kinds.proofs.rules.effect_goal_kind.HostEffectPredicateGoalKind.rejected_clauses_are_refuted.Goals as goal

pub returns : goal.returns
returns c p S k ok x y rejected = rejected-effect S p k ok x y rejected
