-- Const traits over a consistent level: one that holds isn't refuted as a const trait, nor with a constness that its own satisfies.
use Rattle.std.proofs.Common.{◌≡◌, true, List, [], ◌∷◌, Option, Some, None, refl, sym, ◌∙◌, subst, subst₂, ⊎_elim, true≢false}
use Rattle.goal_terms.specs.PredicateTrees.{PredicateTree, holds, equals, holds_const}
use Rattle.goal_terms.specs.Tree.{Tree}
use Rattle.goal_terms.specs.declared.ids.TraitId.{TraitId}
use Rattle.goal_terms.specs.declared.modes.TypingMode.{TypingMode}
use Rattle.goal_terms.specs.declared.predicates.BoundConstness.{BoundConstness}
use Rattle.goal_terms.specs.declared.predicates.BoundConstness.TheVariants as constness
use Rattle.goal_tables.specs.declared.rows.ImplRow.{ImplRow}
use Rattle.goal_lists.specs.Candidates.{Candidate, assumption, implied_bound, by_impl, built_in, error, environment, second_group}
use Rattle.goal_lists.specs.ConstGoals.{satisfies, ConstAssumptionHolds, ConstAssumptionRefuted, ImpliedHolds, ImpliedRefuted, impl_conditions, ConstImplHolds, ConstImplRefuted, ConstRuleHolds, ConstRuleRefuted, ConstCandidateHolds, ConstCandidateRefuted, ConstCandidateDecides, ConstCandidateRuledOut, ConstHolds, ConstRefuted}
use Rattle.goal_lists.specs.ConstRules.{const_rule}
use Rattle.goal_lists.specs.Laws.{IsConsistent}
use Rattle.goal_lists.specs.Level.{Level}
use Rattle.goal_lists.specs.Premises.{TraitTree, ConstRule, PremisesRefuted, traits_under}
use Rattle.goal_lists.specs.Settings.{Setting}
use Rattle.goal_lists.specs.Words.{Each}
use Rattle.goal_lists.proofs.CandidateLemmas.{no_pair_unequal, one_impl_substitution, no_impl_refuted, not_passed_over}
use Rattle.goal_lists.proofs.ContraryWords.{Exists-Each}
use Rattle.goal_lists.proofs.EqualLemmas.{one_head_form}
use Rattle.goal_lists.proofs.PremiseLemmas.{no_premises_refuted, no_conditions_refuted}

-- what satisfies a constness satisfies each that this one satisfies
satisfies-further : (b c d : BoundConstness) → satisfies b c ≡ true → satisfies c d ≡ true → satisfies b d ≡ true
satisfies-further constness.Const c d p q = refl
satisfies-further constness.Maybe constness.Const d p q = absurd (true≢false (sym p))
satisfies-further constness.Maybe constness.Maybe d p q = q

-- a clause that holds for arguments isn't refuted
no_const_assumption_refuted : (L : Level) → IsConsistent L → (c d : BoundConstness) → satisfies c d ≡ true → (i : TraitId) (args : List Tree) (p : PredicateTree) →
    ConstAssumptionHolds L c i args p → ConstAssumptionRefuted L d i args p → ⊥
unfolding ConstAssumptionHolds ConstAssumptionRefuted
no_const_assumption_refuted L l c d e i args (holds_const b j bs) h k =
    ⊎_elim
    (λ n. n h.0)
    (⊎_elim (λ n. true≢false (sym (satisfies-further b c d h.1 e) ∙ n)) (λ x. no_pair_unequal L l bs args h.2 x))
    k
no_const_assumption_refuted L l c d e i args (holds j bs) h k = h
no_const_assumption_refuted L l c d e i args (equals a t) h k = h

-- an implied bound that holds isn't refuted
no_implied_refuted : (L : Level) → IsConsistent L → (c d : BoundConstness) → satisfies c d ≡ true →
    (i : TraitId) (args : List Tree) (b : TraitTree) (conditions : List TraitTree) → ImpliedHolds L c i args b conditions → ImpliedRefuted L d i args b conditions → ⊥
unfolding ImpliedHolds ImpliedRefuted
no_implied_refuted L l c d e i args b conditions h k =
    ⊎_elim
    (λ n. n h.0)
    (⊎_elim (λ x. no_pair_unequal L l b.args args h.1 x) (λ x. no_conditions_refuted L l c d e conditions h.2 x))
    k

-- a const impl that holds isn't refuted
no_const_impl_refuted : (m : TypingMode) (L : Level) → IsConsistent L → (c d : BoundConstness) → satisfies c d ≡ true → (args : List Tree) (r : ImplRow) →
    ConstImplHolds L c args r → ConstImplRefuted m L d args r → ⊥
unfolding ConstImplHolds ConstImplRefuted
no_const_impl_refuted m L l c d e args r h k =
    ⊎_elim
    (λ n. true≢false (sym h.1 ∙ n))
    (⊎_elim
    (λ x. no_impl_refuted m L l args r h.0 h.2 x)
    (λ x.
    let p : x.0 ≡ h.0 = one_impl_substitution L l r args h.0 x.0 h.2 x.1 in
    no_conditions_refuted L l c d e (traits_under h.0 r.const_conditions.items) h.3
    (subst (λ s. PremisesRefuted L (impl_conditions d s r)) p x.2)))
    k

-- a rule whose premises and conditions hold isn't refuted
no_const_rule_refuted : (L : Level) → IsConsistent L → (c d : BoundConstness) → satisfies c d ≡ true → (o : Option ConstRule) →
    ConstRuleHolds L c o → ConstRuleRefuted L d o → ⊥
unfolding ConstRuleHolds ConstRuleRefuted
no_const_rule_refuted L l c d e None h k = h
no_const_rule_refuted L l c d e (Some r) h k =
    ⊎_elim (λ x. no_premises_refuted L l r.premises h.0 x) (λ x. no_conditions_refuted L l c d e r.conditions h.1 x) k

-- a candidate that shows a const trait isn't refuted
pub no_const_candidate_refuted : (S : Setting) (L : Level) → IsConsistent L → (c d : BoundConstness) → satisfies c d ≡ true →
    (i : TraitId) (args : List Tree) (x : Candidate) → ConstCandidateHolds S L c i args x → ConstCandidateRefuted S L d i args x → ⊥
unfolding ConstCandidateHolds ConstCandidateRefuted
no_const_candidate_refuted S L l c d e i args (assumption p) h k = no_const_assumption_refuted L l c d e i args p h k
no_const_candidate_refuted S L l c d e i args (implied_bound b conditions) h k = no_implied_refuted L l c d e i args b conditions h k
no_const_candidate_refuted S L l c d e i args (by_impl r) h k = no_const_impl_refuted S.mode L l c d e args r h k
no_const_candidate_refuted S L l c d e i args built_in h k = no_const_rule_refuted L l c d e (const_rule S.tables i args) h k
no_const_candidate_refuted S L l c d e i args error h k = true≢false (sym h ∙ k)

-- one that decides isn't ruled out
pub no_const_candidate_ruled_out : (S : Setting) (L : Level) → IsConsistent L → (c d : BoundConstness) → satisfies c d ≡ true →
    (i : TraitId) (args : List Tree) (x : Candidate) → ConstCandidateDecides S L c i args x → ConstCandidateRuledOut S L d i args x → ⊥
no_const_candidate_ruled_out S L l c d e i args x h k =
    ⊎_elim (λ q. no_const_candidate_refuted S L l c d e i args x h.0 q) (λ q. not_passed_over S L l args x h.1 q) k

-- a trait that holds as a const trait isn't refuted as one
pub no_const_goal_refuted : (S : Setting) (L : Level) → IsConsistent L → (c d : BoundConstness) (i : TraitId) (ts : List Tree) → satisfies c d ≡ true →
    ConstHolds S L c i ts → ConstRefuted S L d i ts → ⊥
unfolding ConstHolds ConstRefuted
no_const_goal_refuted S L l c d i [] e h k = h
no_const_goal_refuted S L l c d i (self ∷ args) e h k =
    ⊎_elim
    (λ x. l.no_trait_refuted h.0 i (self ∷ args) h.2 x)
    (λ x.
    let p : x.0 ≡ h.0 = l.one_class x.0 h.0 i (self ∷ args) x.2 h.2 in
    let q : x.1 ≡ h.1 = one_head_form L l.one_term self x.1 h.1 x.3 h.3 in
    ⊎_elim
    (λ y. Exists-Each _ _ (no_const_candidate_ruled_out S L l c d e i (h.1 ∷ args)) (environment S) y
    (subst (λ s. Each (ConstCandidateRuledOut S L d i (s ∷ args)) (environment S)) q x.4))
    (λ y. Exists-Each _ _ (no_const_candidate_ruled_out S L l c d e i (h.1 ∷ args)) (second_group S i h.1 h.0) y.1
    (subst₂ (λ v s. Each (ConstCandidateRuledOut S L d i (s ∷ args)) (second_group S i s v)) p q x.5))
    h.4)
    k
