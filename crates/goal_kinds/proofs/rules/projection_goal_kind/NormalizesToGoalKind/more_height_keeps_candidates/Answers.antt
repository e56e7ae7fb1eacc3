use Rattle.goal_kinds.proofs.ProjectionKindLaws.{projection-higher, projection-higher_refuted}
use Rattle.goal_kinds.proofs.rules.projection_goal_kind.NormalizesToGoalKind.more_height_keeps_candidates.Goals as goal

pub returns-clause-gives : goal.returns-clause-gives
returns-clause-gives c p S n m k t le h = projection-higher p.alias S n m k t le h

pub returns-clause-refuted : goal.returns-clause-refuted
returns-clause-refuted c p S n m k le h = projection-higher_refuted p.alias S n m k le h
