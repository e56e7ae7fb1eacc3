use Rattle.goal_kinds.proofs.EffectKindLaws.{effect-higher, effect-higher_refuted}
use Rattle.goal_kinds.proofs.rules.effect_goal_kind.HostEffectPredicateGoalKind.more_height_keeps_candidates.Goals as goal

pub returns-clause-gives : goal.returns-clause-gives
returns-clause-gives c p S n m k t le h = effect-higher p S n m k le h

pub returns-clause-refuted : goal.returns-clause-refuted
returns-clause-refuted c p S n m k le h = effect-higher_refuted p S n m k le h
