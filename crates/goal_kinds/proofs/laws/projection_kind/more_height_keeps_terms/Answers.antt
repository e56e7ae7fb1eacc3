use Rattle.goal_kinds.proofs.ProjectionKindLaws.{projection-higher, projection-higher_refuted}
use Rattle.goal_kinds.proofs.laws.projection_kind.more_height_keeps_terms.Goals as goal

pub returns-clause-gives : goal.returns-clause-gives
returns-clause-gives c = projection-higher

pub returns-clause-refuted : goal.returns-clause-refuted
returns-clause-refuted c = projection-higher_refuted
