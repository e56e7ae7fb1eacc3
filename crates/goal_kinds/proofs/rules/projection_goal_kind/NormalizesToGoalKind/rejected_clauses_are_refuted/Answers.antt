use Rattle.goal_kinds.proofs.ProjectionKindLaws.{rejected-projection}
use Rattle.goal_kinds.proofs.rules.projection_goal_kind.NormalizesToGoalKind.rejected_clauses_are_refuted.Goals as goal

pub returns : goal.returns
returns c p S k ok x y rejected = rejected-projection S p.alias p.term k ok x y rejected
