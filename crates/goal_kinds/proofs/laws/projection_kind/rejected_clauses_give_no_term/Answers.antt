use Rattle.goal_kinds.proofs.ProjectionKindLaws.{rejected-projection}
use Rattle.goal_kinds.proofs.laws.projection_kind.rejected_clauses_give_no_term.Goals as goal

pub returns : goal.returns
returns c a e S k ok x y rejected = rejected-projection S a e k ok x y rejected
