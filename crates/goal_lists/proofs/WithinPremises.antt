-- Premises that hold or are refuted at one level are so at another, if all goals of the one are of the other.
use Rattle.std.proofs.Common.{List}
use Rattle.goal_terms.specs.PredicateTrees.{PredicateTree, holds, equals, holds_const}
use Rattle.goal_lists.specs.Laws.{IsWithin}
use Rattle.goal_lists.specs.Level.{Level}
use Rattle.goal_lists.specs.Premises.{Premise, predicate, equation, ClauseHolds, ClauseRefuted, PremiseHolds, PremiseRefuted, PremisesHold, PremisesRefuted}
use Rattle.goal_lists.proofs.WithinWords.{each-map, exists-map}

-- a predicate that holds, and one that is refuted
pub within-clause_holds : {L M : Level} → IsWithin L M → (p : PredicateTree) → ClauseHolds L p → ClauseHolds M p
unfolding ClauseHolds
within-clause_holds w (holds i ts) h = (h.0, w.through h.0 i ts h.1)
within-clause_holds w (equals a t) h = w.equation_holds a t h
within-clause_holds w (holds_const c i ts) h = w.const_holds c i ts h

pub within-clause_refuted : {L M : Level} → IsWithin L M → (p : PredicateTree) → ClauseRefuted L p → ClauseRefuted M p
unfolding ClauseRefuted
within-clause_refuted w (holds i ts) h = w.trait_refuted i ts h
within-clause_refuted w (equals a t) h = w.equation_refuted a t h
within-clause_refuted w (holds_const c i ts) h = w.const_refuted c i ts h

-- a premise that holds, and one that is refuted
pub within-premise_holds : {L M : Level} → IsWithin L M → (p : Premise) → PremiseHolds L p → PremiseHolds M p
unfolding PremiseHolds
within-premise_holds w (predicate p) h = within-clause_holds w p h
within-premise_holds w (equation t u) h = w.equal t u h

pub within-premise_refuted : {L M : Level} → IsWithin L M → (p : Premise) → PremiseRefuted L p → PremiseRefuted M p
unfolding PremiseRefuted
within-premise_refuted w (predicate p) h = within-clause_refuted w p h
within-premise_refuted w (equation t u) h = w.unequal t u h

-- premises that all hold, and premises of which one is refuted
pub within-premises_hold : {L M : Level} → IsWithin L M → (ps : List Premise) → PremisesHold L ps → PremisesHold M ps
unfolding PremisesHold
within-premises_hold w ps h = each-map (within-premise_holds w) ps h

pub within-premises_refuted : {L M : Level} → IsWithin L M → (ps : List Premise) → PremisesRefuted L ps → PremisesRefuted M ps
unfolding PremisesRefuted
within-premises_refuted w ps h = exists-map (within-premise_refuted w) ps h
