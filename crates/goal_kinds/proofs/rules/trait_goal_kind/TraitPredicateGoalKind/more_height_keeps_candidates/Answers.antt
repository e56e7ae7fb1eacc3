use Rattle.goal_kinds.proofs.TraitCandidateLaws.{candidate-higher, candidate-higher_refuted}
use Rattle.goal_kinds.proofs.rules.trait_goal_kind.TraitPredicateGoalKind.more_height_keeps_candidates.Goals as goal

pub returns-clause-gives : goal.returns-clause-gives
returns-clause-gives c p S n m k t le h = candidate-higher p.trait_ref S n m k le h

pub returns-clause-refuted : goal.returns-clause-refuted
returns-clause-refuted c p S n m k le h = candidate-higher_refuted p.trait_ref S n m k le h
