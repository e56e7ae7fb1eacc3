-- Trait goals that hold or are refuted above a level are so above another, in an alike setting, if all goals of the one level are of the other.
use Rattle.std.proofs.Common.{inl, inr, List, [], ◌∷◌, Option, Some, None, Vec, Global, sym, subst, ◌≡◌, ◌||◌, ◌&&◌, ◌∙◌, ap}
use Rattle.goal_terms.specs.PredicateTrees.{PredicateTree, holds, equals, holds_const}
use Rattle.goal_terms.specs.Tree.{Tree}
use Rattle.goal_terms.specs.declared.answers.TraitGoalProvenVia.{TraitGoalProvenVia}
use Rattle.goal_terms.specs.declared.ids.TraitId.{TraitId}
use Rattle.goal_terms.specs.declared.modes.TypingMode.{TypingMode}
use Rattle.goal_tables.specs.ImplFaults.{is_reservation}
use Rattle.goal_tables.specs.SourceFaults.{is_positive}
use Rattle.goal_tables.specs.Specialized.{reached}
use Rattle.goal_tables.specs.declared.rows.ImplRow.{ImplRow}
use Rattle.goal_lists.specs.Builtins.{trait_rule}
use Rattle.goal_lists.specs.Candidates.{Candidate, assumption, implied_bound, by_impl, built_in, error}
use Rattle.goal_lists.specs.Laws.{IsWithin, IsAlike, with_impls_and_mode}
use Rattle.goal_lists.specs.Level.{Level}
use Rattle.goal_lists.specs.Premises.{Premise, clauses_under}
use Rattle.goal_lists.specs.Settings.{Setting, is_coherence}
use Rattle.goal_lists.specs.TraitGoals.{AssumptionHolds, AssumptionRefuted, header_of, ImplHoldsUnder, ImplHolds, ImplRefuted, TraitRuleHolds, TraitRuleRefuted, CandidateHolds, CandidateRefuted, PassedOver, Decides, CandidateDecides, CandidateRuledOut, TraitHolds, TraitRefuted}
use Rattle.goal_lists.specs.Words.{Each, Exists}
use Rattle.goal_lists.proofs.AlikeCandidates.{alike-class_of, alike-classes_before, alike-all_candidates, alike-reached}
use Rattle.goal_lists.proofs.Members.{exists-map_same, each-map_same}
use Rattle.goal_lists.proofs.OtherImpls.{other_impls-trait_rule}
use Rattle.goal_lists.proofs.WithinHeaders.{within-fits, within-clashes, within-all_known}
use Rattle.goal_lists.proofs.WithinPremises.{within-premises_hold, within-premises_refuted}
use Rattle.goal_lists.proofs.WithinTerms.{within-pairs, within-some_pair, within-has_head_form, within-head_form_refuted}
use Rattle.goal_lists.proofs.WithinWords.{each-map, exists-map, sum-map}

-- a clause says that the trait holds, or something else
within-assumption_holds : {L M : Level} → IsWithin L M → (i : TraitId) (args : List Tree) (p : PredicateTree) → AssumptionHolds L i args p → AssumptionHolds M i args p
unfolding AssumptionHolds
within-assumption_holds w i args (holds j bs) h = (h.0, within-pairs w bs args h.1)
within-assumption_holds w i args (equals a t) h = h
within-assumption_holds w i args (holds_const c j bs) h = h

within-assumption_refuted : {L M : Level} → IsWithin L M → (i : TraitId) (args : List Tree) (p : PredicateTree) →
    AssumptionRefuted L i args p → AssumptionRefuted M i args p
unfolding AssumptionRefuted
within-assumption_refuted w i args (holds j bs) (inl n) = inl n
within-assumption_refuted w i args (holds j bs) (inr h) = inr (within-some_pair w bs args h)
within-assumption_refuted w i args (equals a t) h = h
within-assumption_refuted w i args (holds_const c j bs) h = h

-- an impl holds, or cannot hold
pub within-impl_holds_under : {L M : Level} → IsWithin L M → (r : ImplRow) (args s : List Tree) → ImplHoldsUnder L r args s → ImplHoldsUnder M r args s
unfolding ImplHoldsUnder
within-impl_holds_under w r args s h =
    (h.0, within-fits w r.params.items (header_of r) args s h.1, within-premises_hold w (clauses_under s r.predicates.items) h.2)

within-impl_holds : {L M : Level} → IsWithin L M → (args : List Tree) (r : ImplRow) → ImplHolds L args r → ImplHolds M args r
unfolding ImplHolds
within-impl_holds w args r h = (h.0, within-impl_holds_under w r args h.0 h.1)

pub within-impl_refuted : {L M : Level} → IsWithin L M → (m k : TypingMode) → is_coherence k ≡ is_coherence m → (args : List Tree) (r : ImplRow) →
    ImplRefuted m L args r → ImplRefuted k M args r
unfolding ImplRefuted
within-impl_refuted w m k e args r (inl n) = inl (ap (λ b. is_positive r.polarity || (b && is_reservation r.polarity)) e ∙ n)
within-impl_refuted w m k e args r (inr (inl h)) = inr (inl (within-clashes w r.params.items (header_of r) args h))
within-impl_refuted w m k e args r (inr (inr h)) =
    inr (inr (h.0, within-all_known w r.params.items (header_of r) args h.0 h.1, within-premises_refuted w (clauses_under h.0 r.predicates.items) h.2))

-- a rule's premises
within-rule_holds : {L M : Level} → IsWithin L M → (o : Option (List Premise)) → TraitRuleHolds L o → TraitRuleHolds M o
unfolding TraitRuleHolds
within-rule_holds w None h = h
within-rule_holds w (Some ps) h = within-premises_hold w ps h

within-rule_refuted : {L M : Level} → IsWithin L M → (o : Option (List Premise)) → TraitRuleRefuted L o → TraitRuleRefuted M o
unfolding TraitRuleRefuted
within-rule_refuted w None h = h
within-rule_refuted w (Some ps) h = within-premises_refuted w ps h

-- a candidate holds, or is refuted
within-candidate_holds : {L M : Level} → IsWithin L M → (S : Setting) (v : Vec ImplRow Global) (m : TypingMode) (i : TraitId) (args : List Tree) (c : Candidate) →
    CandidateHolds S L i args c → CandidateHolds (with_impls_and_mode S v m) M i args c
unfolding CandidateHolds
within-candidate_holds w S v m i args (assumption p) h = within-assumption_holds w i args p h
within-candidate_holds w S v m i args (implied_bound b cs) h = h
within-candidate_holds w S v m i args (by_impl r) h = within-impl_holds w args r h
within-candidate_holds {M = M} w S v m i args built_in h =
    subst (TraitRuleHolds M) (sym (other_impls-trait_rule S.tables v i args)) (within-rule_holds w (trait_rule S.tables i args) h)
within-candidate_holds w S v m i args error h = h

within-candidate_refuted : {L M : Level} → IsWithin L M → (S : Setting) (v : Vec ImplRow Global) (m : TypingMode) → is_coherence m ≡ is_coherence S.mode → (i : TraitId) (args : List Tree) (c : Candidate) →
    CandidateRefuted S L i args c → CandidateRefuted (with_impls_and_mode S v m) M i args c
unfolding CandidateRefuted
within-candidate_refuted w S v m e i args (assumption p) h = within-assumption_refuted w i args p h
within-candidate_refuted w S v m e i args (implied_bound b cs) h = h
within-candidate_refuted w S v m e i args (by_impl r) h = within-impl_refuted w S.mode m e args r h
within-candidate_refuted {M = M} w S v m e i args built_in h =
    subst (TraitRuleRefuted M) (sym (other_impls-trait_rule S.tables v i args)) (within-rule_refuted w (trait_rule S.tables i args) h)
within-candidate_refuted w S v m e i args error h = h

-- a candidate is passed over, or decides
pub within-passed_over : {L M : Level} {S : Setting} {v : Vec ImplRow Global} {m : TypingMode} → IsWithin L M → IsAlike S v m →
    (args : List Tree) (c : Candidate) → PassedOver S L args c → PassedOver (with_impls_and_mode S v m) M args c
unfolding PassedOver
within-passed_over {M = M} {S = S} w a args (by_impl r) h =
    (h.0, subst (Exists (ImplHolds M args)) (sym (alike-reached a h.0 r)) (exists-map (within-impl_holds w args) (reached S.tables h.0 r) h.1))
within-passed_over w a args (assumption p) h = h
within-passed_over w a args (implied_bound b cs) h = h
within-passed_over w a args built_in h = h
within-passed_over w a args error h = h

pub within-decides : {L M : Level} {S : Setting} {v : Vec ImplRow Global} {m : TypingMode} → IsWithin L M → IsAlike S v m →
    (args : List Tree) (c : Candidate) → Decides S L args c → Decides (with_impls_and_mode S v m) M args c
unfolding Decides
within-decides {M = M} {S = S} {m = m} w a args (by_impl r) h =
    λ n. subst (Each (ImplRefuted m M args)) (sym (alike-reached a n r)) (each-map (within-impl_refuted w S.mode m a.same_coherence args) (reached S.tables n r) (h n))
within-decides w a args (assumption p) h = h
within-decides w a args (implied_bound b cs) h = h
within-decides w a args built_in h = h
within-decides w a args error h = h

-- a candidate holds and decides, or is ruled out
within-candidate_decides : {L M : Level} {S : Setting} {v : Vec ImplRow Global} {m : TypingMode} → IsWithin L M → IsAlike S v m →
    (i : TraitId) (args : List Tree) (c : Candidate) → CandidateDecides S L i args c → CandidateDecides (with_impls_and_mode S v m) M i args c
within-candidate_decides {S = S} {v} {m} w a i args c h = (within-candidate_holds w S v m i args c h.0, within-decides w a args c h.1)

within-candidate_ruled_out : {L M : Level} {S : Setting} {v : Vec ImplRow Global} {m : TypingMode} → IsWithin L M → IsAlike S v m →
    (i : TraitId) (args : List Tree) (c : Candidate) → CandidateRuledOut S L i args c → CandidateRuledOut (with_impls_and_mode S v m) M i args c
within-candidate_ruled_out {S = S} {v} {m} w a i args c h = sum-map (within-candidate_refuted w S v m a.same_coherence i args c) (within-passed_over w a args c) h

-- a trait goal holds, or is refuted
pub within-trait_holds : {L M : Level} {S : Setting} {v : Vec ImplRow Global} {m : TypingMode} → IsWithin L M → IsAlike S v m →
    (c : TraitGoalProvenVia) (i : TraitId) (ts : List Tree) → TraitHolds S L c i ts → TraitHolds (with_impls_and_mode S v m) M c i ts
unfolding TraitHolds
within-trait_holds w a c i [] h = h
within-trait_holds {S = S} {v} {m} w a c i (self ∷ args) h = (
  h.0,
  within-has_head_form w self h.0 h.1,
  exists-map_same _ _ (alike-class_of a i h.0 c) (within-candidate_decides w a i (h.0 ∷ args)) h.2,
  each-map_same _ _ (alike-classes_before a i h.0 c) (within-candidate_ruled_out w a i (h.0 ∷ args)) h.3,
)

pub within-trait_refuted : {L M : Level} {S : Setting} {v : Vec ImplRow Global} {m : TypingMode} → IsWithin L M → IsAlike S v m →
    (i : TraitId) (ts : List Tree) → TraitRefuted S L i ts → TraitRefuted (with_impls_and_mode S v m) M i ts
unfolding TraitRefuted
within-trait_refuted w a i [] h = h
within-trait_refuted w a i (self ∷ args) (inl h) = inl (within-head_form_refuted w self h)
within-trait_refuted {S = S} {v} {m} w a i (self ∷ args) (inr h) = inr (
  h.0,
  within-has_head_form w self h.0 h.1,
  each-map_same _ _ (alike-all_candidates a i h.0) (within-candidate_ruled_out w a i (h.0 ∷ args)) h.2,
)
