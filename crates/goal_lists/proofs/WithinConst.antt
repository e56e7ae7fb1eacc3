-- Const goals that hold or are refuted above a level are so above another, in an alike setting, if all goals of the one level are of the other.
use Rattle.std.proofs.Common.{inl, inr, List, [], ◌∷◌, Option, Some, None, Vec, Global, sym, subst, ◌≡◌}
use Rattle.goal_terms.specs.PredicateTrees.{PredicateTree, holds, equals, holds_const}
use Rattle.goal_terms.specs.Tree.{Tree}
use Rattle.goal_terms.specs.declared.ids.TraitId.{TraitId}
use Rattle.goal_terms.specs.declared.modes.TypingMode.{TypingMode}
use Rattle.goal_terms.specs.declared.predicates.BoundConstness.{BoundConstness}
use Rattle.goal_tables.specs.declared.rows.ImplRow.{ImplRow}
use Rattle.goal_lists.specs.Candidates.{Candidate, assumption, implied_bound, by_impl, built_in, error, environment}
use Rattle.goal_lists.specs.ConstGoals.{ConstAssumptionHolds, ConstAssumptionRefuted, ImpliedHolds, ImpliedRefuted, impl_conditions, ConstImplHolds, ConstImplRefuted, ConstRuleHolds, ConstRuleRefuted, ConstCandidateHolds, ConstCandidateRefuted, ConstCandidateDecides, ConstCandidateRuledOut, ConstHolds, ConstRefuted}
use Rattle.goal_lists.specs.ConstRules.{const_rule}
use Rattle.goal_lists.specs.Laws.{IsWithin, IsAlike, with_impls_and_mode}
use Rattle.goal_lists.specs.Level.{Level}
use Rattle.goal_lists.specs.Premises.{TraitTree, ConstRule, conditions_as}
use Rattle.goal_lists.specs.Settings.{Setting, is_coherence}
use Rattle.goal_lists.specs.TraitGoals.{header_of}
use Rattle.goal_lists.proofs.AlikeCandidates.{alike-second_group}
use Rattle.goal_lists.proofs.Members.{exists-map_same, each-map_same}
use Rattle.goal_lists.proofs.OtherImpls.{other_impls-const_rule}
use Rattle.goal_lists.proofs.WithinGoals.{within-impl_holds_under, within-impl_refuted, within-passed_over, within-decides}
use Rattle.goal_lists.proofs.WithinHeaders.{within-all_known}
use Rattle.goal_lists.proofs.WithinPremises.{within-premises_hold, within-premises_refuted}
use Rattle.goal_lists.proofs.WithinTerms.{within-pairs, within-some_pair, within-has_head_form}
use Rattle.goal_lists.proofs.WithinWords.{each-map, exists-map, sum-map}

-- a clause says that the trait is const, or something else
within-const_assumption_holds : {L M : Level} → IsWithin L M → (c : BoundConstness) (i : TraitId) (args : List Tree) (p : PredicateTree) →
    ConstAssumptionHolds L c i args p → ConstAssumptionHolds M c i args p
unfolding ConstAssumptionHolds
within-const_assumption_holds w c i args (holds j bs) h = h
within-const_assumption_holds w c i args (equals a t) h = h
within-const_assumption_holds w c i args (holds_const b j bs) h = (h.0, h.1, within-pairs w bs args h.2)

within-const_assumption_refuted : {L M : Level} → IsWithin L M → (c : BoundConstness) (i : TraitId) (args : List Tree) (p : PredicateTree) →
    ConstAssumptionRefuted L c i args p → ConstAssumptionRefuted M c i args p
unfolding ConstAssumptionRefuted
within-const_assumption_refuted w c i args (holds j bs) h = h
within-const_assumption_refuted w c i args (equals a t) h = h
within-const_assumption_refuted w c i args (holds_const b j bs) h = sum-map (λ n. n) (sum-map (λ n. n) (within-some_pair w bs args)) h

-- an implied const bound
within-implied_holds : {L M : Level} → IsWithin L M → (c : BoundConstness) (i : TraitId) (args : List Tree) (b : TraitTree) (conditions : List TraitTree) →
    ImpliedHolds L c i args b conditions → ImpliedHolds M c i args b conditions
unfolding ImpliedHolds
within-implied_holds w c i args b conditions h = (h.0, within-pairs w b.args args h.1, within-premises_hold w (conditions_as c conditions) h.2)

within-implied_refuted : {L M : Level} → IsWithin L M → (c : BoundConstness) (i : TraitId) (args : List Tree) (b : TraitTree) (conditions : List TraitTree) →
    ImpliedRefuted L c i args b conditions → ImpliedRefuted M c i args b conditions
unfolding ImpliedRefuted
within-implied_refuted w c i args b conditions h =
    sum-map (λ n. n) (sum-map (within-some_pair w b.args args) (within-premises_refuted w (conditions_as c conditions))) h

-- a const impl
within-const_impl_holds : {L M : Level} → IsWithin L M → (c : BoundConstness) (args : List Tree) (r : ImplRow) → ConstImplHolds L c args r → ConstImplHolds M c args r
unfolding ConstImplHolds
within-const_impl_holds w c args r h =
    (h.0, h.1, within-impl_holds_under w r args h.0 h.2, within-premises_hold w (impl_conditions c h.0 r) h.3)

within-const_impl_refuted : {L M : Level} → IsWithin L M → (m k : TypingMode) → is_coherence k ≡ is_coherence m → (c : BoundConstness) (args : List Tree) (r : ImplRow) →
    ConstImplRefuted m L c args r → ConstImplRefuted k M c args r
unfolding ConstImplRefuted
within-const_impl_refuted w m k e c args r (inl n) = inl n
within-const_impl_refuted w m k e c args r (inr (inl h)) = inr (inl (within-impl_refuted w m k e args r h))
within-const_impl_refuted w m k e c args r (inr (inr h)) =
    inr (inr (h.0, within-all_known w r.params.items (header_of r) args h.0 h.1, within-premises_refuted w (impl_conditions c h.0 r) h.2))

-- a rule's premises and const conditions
within-const_rule_holds : {L M : Level} → IsWithin L M → (c : BoundConstness) (o : Option ConstRule) → ConstRuleHolds L c o → ConstRuleHolds M c o
unfolding ConstRuleHolds
within-const_rule_holds w c None h = h
within-const_rule_holds w c (Some r) h = (within-premises_hold w r.premises h.0, within-premises_hold w (conditions_as c r.conditions) h.1)

within-const_rule_refuted : {L M : Level} → IsWithin L M → (c : BoundConstness) (o : Option ConstRule) → ConstRuleRefuted L c o → ConstRuleRefuted M c o
unfolding ConstRuleRefuted
within-const_rule_refuted w c None h = h
within-const_rule_refuted w c (Some r) h = sum-map (within-premises_refuted w r.premises) (within-premises_refuted w (conditions_as c r.conditions)) h

-- a candidate shows that the trait is const, or cannot show it
pub within-const_candidate_holds : {L M : Level} → IsWithin L M → (S : Setting) (v : Vec ImplRow Global) (m : TypingMode) →
    (c : BoundConstness) (i : TraitId) (args : List Tree) (d : Candidate) →
    ConstCandidateHolds S L c i args d → ConstCandidateHolds (with_impls_and_mode S v m) M c i args d
unfolding ConstCandidateHolds
within-const_candidate_holds w S v m c i args (assumption p) h = within-const_assumption_holds w c i args p h
within-const_candidate_holds w S v m c i args (implied_bound b conditions) h = within-implied_holds w c i args b conditions h
within-const_candidate_holds w S v m c i args (by_impl r) h = within-const_impl_holds w c args r h
within-const_candidate_holds {M = M} w S v m c i args built_in h =
    subst (ConstRuleHolds M c) (sym (other_impls-const_rule S.tables v i args)) (within-const_rule_holds w c (const_rule S.tables i args) h)
within-const_candidate_holds w S v m c i args error h = h

pub within-const_candidate_refuted : {L M : Level} → IsWithin L M → (S : Setting) (v : Vec ImplRow Global) (m : TypingMode) → is_coherence m ≡ is_coherence S.mode →
    (c : BoundConstness) (i : TraitId) (args : List Tree) (d : Candidate) →
    ConstCandidateRefuted S L c i args d → ConstCandidateRefuted (with_impls_and_mode S v m) M c i args d
unfolding ConstCandidateRefuted
within-const_candidate_refuted w S v m e c i args (assumption p) h = within-const_assumption_refuted w c i args p h
within-const_candidate_refuted w S v m e c i args (implied_bound b conditions) h = within-implied_refuted w c i args b conditions h
within-const_candidate_refuted w S v m e c i args (by_impl r) h = within-const_impl_refuted w S.mode m e c args r h
within-const_candidate_refuted {M = M} w S v m e c i args built_in h =
    subst (ConstRuleRefuted M c) (sym (other_impls-const_rule S.tables v i args)) (within-const_rule_refuted w c (const_rule S.tables i args) h)
within-const_candidate_refuted w S v m e c i args error h = h

-- a candidate shows it and decides, or is ruled out
within-const_candidate_decides : {L M : Level} {S : Setting} {v : Vec ImplRow Global} {m : TypingMode} → IsWithin L M → IsAlike S v m →
    (c : BoundConstness) (i : TraitId) (args : List Tree) (d : Candidate) →
    ConstCandidateDecides S L c i args d → ConstCandidateDecides (with_impls_and_mode S v m) M c i args d
within-const_candidate_decides {S = S} {v} {m} w a c i args d h = (within-const_candidate_holds w S v m c i args d h.0, within-decides w a args d h.1)

within-const_candidate_ruled_out : {L M : Level} {S : Setting} {v : Vec ImplRow Global} {m : TypingMode} → IsWithin L M → IsAlike S v m →
    (c : BoundConstness) (i : TraitId) (args : List Tree) (d : Candidate) →
    ConstCandidateRuledOut S L c i args d → ConstCandidateRuledOut (with_impls_and_mode S v m) M c i args d
within-const_candidate_ruled_out {S = S} {v} {m} w a c i args d h =
    sum-map (within-const_candidate_refuted w S v m a.same_coherence c i args d) (within-passed_over w a args d) h

-- a trait holds as a const trait, or is refuted as one
pub within-const_holds : {L M : Level} {S : Setting} {v : Vec ImplRow Global} {m : TypingMode} → IsWithin L M → IsAlike S v m →
    (c : BoundConstness) (i : TraitId) (ts : List Tree) → ConstHolds S L c i ts → ConstHolds (with_impls_and_mode S v m) M c i ts
unfolding ConstHolds
within-const_holds w a c i [] h = h
within-const_holds {S = S} {v} {m} w a c i (self ∷ args) h = (
  h.0,
  h.1,
  w.through h.0 i (self ∷ args) h.2,
  within-has_head_form w self h.1 h.3,
  sum-map (exists-map (within-const_candidate_decides w a c i (h.1 ∷ args)) (environment S))
      (λ k. (
        each-map (within-const_candidate_ruled_out w a c i (h.1 ∷ args)) (environment S) k.0,
        exists-map_same _ _ (alike-second_group a i h.1 h.0) (within-const_candidate_decides w a c i (h.1 ∷ args)) k.1,
      )) h.4,
)

pub within-const_refuted : {L M : Level} {S : Setting} {v : Vec ImplRow Global} {m : TypingMode} → IsWithin L M → IsAlike S v m →
    (c : BoundConstness) (i : TraitId) (ts : List Tree) → ConstRefuted S L c i ts → ConstRefuted (with_impls_and_mode S v m) M c i ts
unfolding ConstRefuted
within-const_refuted w a c i [] h = h
within-const_refuted w a c i (self ∷ args) (inl h) = inl (w.trait_refuted i (self ∷ args) h)
within-const_refuted {S = S} {v} {m} w a c i (self ∷ args) (inr h) = inr (
  h.0,
  h.1,
  w.through h.0 i (self ∷ args) h.2,
  within-has_head_form w self h.1 h.3,
  each-map (within-const_candidate_ruled_out w a c i (h.1 ∷ args)) (environment S) h.4,
  each-map_same _ _ (alike-second_group a i h.1 h.0) (within-const_candidate_ruled_out w a c i (h.1 ∷ args)) h.5,
)
