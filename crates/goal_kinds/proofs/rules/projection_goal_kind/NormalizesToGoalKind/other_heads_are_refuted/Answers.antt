use Rattle.goal_kinds.proofs.ProjectionKindLaws.{other-head}
use Rattle.goal_kinds.proofs.rules.projection_goal_kind.NormalizesToGoalKind.other_heads_are_refuted.Goals as goal

pub returns : goal.returns
returns c p S q args r sought same other = other-head S args r q p.alias sought same other
