-- Candidates for trait goals over a consistent level: one that holds isn't refuted, and one that decides isn't passed over.
use Rattle.std.proofs.Common.{◌≡◌, List, Option, Some, None, sym, ◌∙◌, subst, ⊎_elim, true≢false, ◌||◌, ap}
use Rattle.goal_terms.specs.PredicateTrees.{PredicateTree, holds, equals, holds_const}
use Rattle.goal_terms.specs.Tree.{Tree}
use Rattle.goal_terms.specs.TreeOf.{trees_of}
use Rattle.goal_terms.specs.declared.ids.TraitId.{TraitId}
use Rattle.goal_terms.specs.declared.modes.TypingMode.{TypingMode}
use Rattle.goal_tables.specs.Specialized.{reached}
use Rattle.goal_tables.specs.declared.rows.ImplRow.{ImplRow}
use Rattle.goal_lists.specs.Builtins.{trait_rule}
use Rattle.goal_lists.specs.Candidates.{Candidate, assumption, implied_bound, by_impl, built_in, error}
use Rattle.goal_lists.specs.Headers.{AllKnown, Fits}
use Rattle.goal_lists.specs.Laws.{IsConsistent}
use Rattle.goal_lists.specs.Level.{Level}
use Rattle.goal_lists.specs.Premises.{Premise, PremisesRefuted, clauses_under}
use Rattle.goal_lists.specs.Settings.{Setting}
use Rattle.goal_lists.specs.TraitGoals.{AssumptionHolds, AssumptionRefuted, header_of, ImplHoldsUnder, ImplHolds, ImplRefuted, TraitRuleHolds, TraitRuleRefuted, CandidateHolds, CandidateRefuted, PassedOver, Decides, CandidateDecides, CandidateRuledOut, only_bars}
use Rattle.goal_lists.specs.Words.{Pairs, SomePair}
use Rattle.goal_lists.proofs.ContraryWords.{Exists-Each}
use Rattle.goal_lists.proofs.EqualLemmas.{no_pair_apart}
use Rattle.goal_lists.proofs.PremiseLemmas.{no_premises_refuted}
use Rattle.goal_lists.proofs.SubstitutionLemmas.{one_substitution, no_fit_and_clash}

-- lists of equal terms have no unequal pair
pub no_pair_unequal : (L : Level) → IsConsistent L → (ts us : List Tree) → Pairs L.equal ts us → SomePair L.unequal ts us → ⊥
no_pair_unequal L c ts us h k = no_pair_apart L.equal L.unequal c.no_equal_unequal ts us h k

-- a clause that holds for arguments isn't refuted
pub no_assumption_refuted : (L : Level) → IsConsistent L → (i : TraitId) (args : List Tree) (p : PredicateTree) →
    AssumptionHolds L i args p → AssumptionRefuted L i args p → ⊥
unfolding AssumptionHolds AssumptionRefuted
no_assumption_refuted L c i args (holds j bs) h k = ⊎_elim (λ n. n h.0) (λ q. no_pair_unequal L c bs args h.1 q) k
no_assumption_refuted L c i args (equals a t) h k = h
no_assumption_refuted L c i args (holds_const b j bs) h k = h

-- the terms that an impl holds under are those that its header's parameters have
pub one_impl_substitution : (L : Level) → IsConsistent L → (r : ImplRow) (args s u : List Tree) →
    ImplHoldsUnder L r args s → AllKnown L r.params.items (header_of r) args u → u ≡ s
unfolding ImplHoldsUnder Fits
one_impl_substitution L c r args s u h k = one_substitution L c r.params.items (header_of r) args u s k h.1.0

-- an impl that holds isn't refuted
pub no_impl_refuted : (m : TypingMode) (L : Level) → IsConsistent L → (args : List Tree) (r : ImplRow) (s : List Tree) →
    ImplHoldsUnder L r args s → ImplRefuted m L args r → ⊥
unfolding ImplHoldsUnder ImplRefuted
no_impl_refuted m L c args r s h k =
    ⊎_elim
    (λ n. true≢false (sym (ap (λ b. b || only_bars m r) h.0) ∙ n))
    (⊎_elim
    (λ q. no_fit_and_clash L c r.params.items (trees_of r.trait_args.items) args s h.1 q)
    (λ u.
    let e : u.0 ≡ s = one_impl_substitution L c r args s u.0 h u.1 in
    no_premises_refuted L c (clauses_under s r.predicates.items) h.2
    (subst (λ v. PremisesRefuted L (clauses_under v r.predicates.items)) e u.2)))
    k

-- a rule whose premises hold isn't refuted
pub no_rule_refuted : (L : Level) → IsConsistent L → (o : Option (List Premise)) → TraitRuleHolds L o → TraitRuleRefuted L o → ⊥
unfolding TraitRuleHolds TraitRuleRefuted
no_rule_refuted L c None h k = h
no_rule_refuted L c (Some ps) h k = no_premises_refuted L c ps h k

-- a candidate that shows a trait isn't refuted
pub no_candidate_refuted : (S : Setting) (L : Level) → IsConsistent L → (i : TraitId) (args : List Tree) (x : Candidate) →
    CandidateHolds S L i args x → CandidateRefuted S L i args x → ⊥
unfolding CandidateHolds CandidateRefuted ImplHolds
no_candidate_refuted S L c i args (assumption p) h k = no_assumption_refuted L c i args p h k
no_candidate_refuted S L c i args (implied_bound b cs) h k = h
no_candidate_refuted S L c i args (by_impl r) h k = no_impl_refuted S.mode L c args r h.0 h.1 k
no_candidate_refuted S L c i args built_in h k = no_rule_refuted L c (trait_rule S.tables i args) h k
no_candidate_refuted S L c i args error h k = true≢false (sym h ∙ k)

-- a candidate that decides isn't passed over: the more special impls are refuted
pub not_passed_over : (S : Setting) (L : Level) → IsConsistent L → (args : List Tree) (x : Candidate) → Decides S L args x → PassedOver S L args x → ⊥
unfolding Decides PassedOver ImplHolds
not_passed_over S L c args (by_impl r) h k =
    Exists-Each (ImplHolds L args) (ImplRefuted S.mode L args) (λ q y z. no_impl_refuted S.mode L c args q y.0 y.1 z) (reached S.tables k.0 r) k.1 (h k.0)
not_passed_over S L c args (assumption p) h k = k
not_passed_over S L c args (implied_bound b cs) h k = k
not_passed_over S L c args built_in h k = k
not_passed_over S L c args error h k = k

-- a candidate that shows a trait and decides isn't ruled out
pub no_candidate_ruled_out : (S : Setting) (L : Level) → IsConsistent L → (i : TraitId) (args : List Tree) (x : Candidate) →
    CandidateDecides S L i args x → CandidateRuledOut S L i args x → ⊥
no_candidate_ruled_out S L c i args x h k = ⊎_elim (λ q. no_candidate_refuted S L c i args x h.0 q) (λ q. not_passed_over S L c args x h.1 q) k
