use Rattle.goal_kinds.proofs.TraitCandidateLaws.{rejected-clause}
use Rattle.goal_kinds.proofs.rules.trait_goal_kind.TraitPredicateGoalKind.rejected_clauses_are_refuted.Goals as goal

pub returns : goal.returns
returns c p S k ok x y rejected = rejected-clause S p.trait_ref k ok x y rejected
