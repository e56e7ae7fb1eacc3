-- Premises over a consistent level: they don't hold where one of them is refuted.
use Rattle.std.proofs.Common.{◌≡◌, true, List, [], ◌∷◌, refl, ⊎_elim}
use Rattle.goal_terms.specs.PredicateTrees.{PredicateTree, holds, equals, holds_const}
use Rattle.goal_terms.specs.declared.predicates.BoundConstness.{BoundConstness}
use Rattle.goal_terms.specs.declared.predicates.BoundConstness.TheVariants as constness
use Rattle.goal_lists.specs.ConstGoals.{satisfies}
use Rattle.goal_lists.specs.Laws.{IsConsistent}
use Rattle.goal_lists.specs.Level.{Level}
use Rattle.goal_lists.specs.Premises.{Premise, predicate, equation, TraitTree, ClauseHolds, ClauseRefuted, PremiseHolds, PremiseRefuted, PremisesHold, PremisesRefuted, conditions_as}
use Rattle.goal_lists.specs.Words.{Each, Exists}
use Rattle.goal_lists.proofs.ContraryWords.{Exists-Each}

-- a constness satisfies itself
satisfies-itself : (c : BoundConstness) → satisfies c c ≡ true
satisfies-itself constness.Const = refl
satisfies-itself constness.Maybe = refl

-- a predicate that holds isn't refuted
pub no_clause_refuted : (L : Level) → IsConsistent L → (p : PredicateTree) → ClauseHolds L p → ClauseRefuted L p → ⊥
unfolding ClauseHolds ClauseRefuted
no_clause_refuted L c (holds i ts) h k = c.no_trait_refuted h.0 i ts h.1 k
no_clause_refuted L c (equals a t) h k = c.no_equation_refuted a t h k
no_clause_refuted L c (holds_const b i ts) h k = c.no_const_refuted b b i ts (satisfies-itself b) h k

-- a premise that holds isn't refuted
pub no_premise_refuted : (L : Level) → IsConsistent L → (p : Premise) → PremiseHolds L p → PremiseRefuted L p → ⊥
unfolding PremiseHolds PremiseRefuted
no_premise_refuted L c (predicate p) h k = no_clause_refuted L c p h k
no_premise_refuted L c (equation t u) h k = c.no_equal_unequal t u h k

-- premises that hold aren't refuted
pub no_premises_refuted : (L : Level) → IsConsistent L → (ps : List Premise) → PremisesHold L ps → PremisesRefuted L ps → ⊥
unfolding PremisesHold PremisesRefuted
no_premises_refuted L c ps h k = Exists-Each _ _ (λ p r q. no_premise_refuted L c p q r) ps k h

-- const conditions that hold with one constness aren't refuted with a constness that it satisfies
pub no_conditions_refuted : (L : Level) → IsConsistent L → (c d : BoundConstness) → satisfies c d ≡ true → (ts : List TraitTree) →
    PremisesHold L (conditions_as c ts) → PremisesRefuted L (conditions_as d ts) → ⊥
unfolding PremisesHold PremisesRefuted PremiseHolds PremiseRefuted ClauseHolds ClauseRefuted Each Exists
no_conditions_refuted L k c d e [] h r = r
no_conditions_refuted L k c d e (t ∷ ts) h r =
    ⊎_elim (λ q. k.no_const_refuted c d t.def_id t.args e h.0 q) (λ q. no_conditions_refuted L k c d e ts h.1 q) r
