-- Trait goals: when a candidate holds or is refuted, and when the goal does, one height above a level.
use Rattle.std.specs.Prelude.{◌≡◌, ◌≢◌, ◌⊎◌, ◌&&◌, ◌||◌, ℕ, Bool, true, false, List, [], ◌∷◌, map, Option, Some, None}
use Rattle.std.specs.List.{list_any}
use Rattle.goal_terms.specs.Occurrences.{has_error}
use Rattle.goal_terms.specs.PredicateTrees.{PredicateTree, holds, equals, holds_const}
use Rattle.goal_terms.specs.Tree.{Tree}
use Rattle.goal_terms.specs.TreeOf.{trees_of}
use Rattle.goal_terms.specs.Erased.{erased}
use Rattle.goal_terms.specs.declared.answers.TraitGoalProvenVia.{TraitGoalProvenVia}
use Rattle.goal_terms.specs.declared.ids.TraitId.{TraitId}
use Rattle.goal_terms.specs.declared.modes.TypingMode.{TypingMode}
use Rattle.goal_tables.specs.ImplFaults.{is_reservation}
use Rattle.goal_tables.specs.SourceFaults.{is_positive}
use Rattle.goal_tables.specs.Specialized.{reached}
use Rattle.goal_tables.specs.declared.rows.ImplRow.{ImplRow}
use Rattle.goal_lists.specs.Builtins.{trait_rule}
use Rattle.goal_lists.specs.Candidates.{Candidate, assumption, implied_bound, by_impl, built_in, error, class_of, classes_before, all_candidates}
use Rattle.goal_lists.specs.Headers.{AllKnown, Fits, Clashes}
use Rattle.goal_lists.specs.Level.{Level, HasHeadForm, HeadFormRefuted}
use Rattle.goal_lists.specs.Premises.{Premise, PremisesHold, PremisesRefuted, clauses_under}
use Rattle.goal_lists.specs.Settings.{Setting, is_coherence}
use Rattle.goal_lists.specs.Words.{Each, Exists, Pairs, SomePair}

-- a clause says that the trait holds for equal arguments
unfoldable pub AssumptionHolds : Level → TraitId → List Tree → PredicateTree → Type 0
AssumptionHolds L i args (holds j bs) = (j ≡ i) × Pairs L.equal bs args
AssumptionHolds L i args (equals a t) = ⊥
AssumptionHolds L i args (holds_const c j bs) = ⊥

-- a clause says something else, or the trait holds for other arguments
unfoldable pub AssumptionRefuted : Level → TraitId → List Tree → PredicateTree → Type 0
AssumptionRefuted L i args (holds j bs) = (j ≢ i) ⊎ SomePair L.unequal bs args
AssumptionRefuted L i args (equals a t) = Unit {0}
AssumptionRefuted L i args (holds_const c j bs) = Unit {0}

-- the header of an impl, without lifetimes
abbrev pub header_of : ImplRow → List Tree
header_of r = map erased (trees_of r.trait_args.items)

-- an impl holds under a substitution: it is positive, its header fits, and its where clauses hold
unfoldable pub ImplHoldsUnder : Level → ImplRow → List Tree → List Tree → Type 0
ImplHoldsUnder L r args s =
    (is_positive r.polarity ≡ true)
    × Fits L r.params.items (header_of r) args s
    × PremisesHold L (clauses_under s r.predicates.items)

-- an impl holds for arguments
unfoldable pub ImplHolds : Level → List Tree → ImplRow → Type 0
ImplHolds L args r = (s : List Tree) × ImplHoldsUnder L r args s

-- whether an impl only bars a refutation: a reservation impl in coherence
abbrev pub only_bars : TypingMode → ImplRow → Bool
only_bars m r = is_coherence m && is_reservation r.polarity

-- an impl cannot hold: it isn't positive, and bars no refutation; its header clashes; or its parameters are known and a where clause is refuted
unfoldable pub ImplRefuted : TypingMode → Level → List Tree → ImplRow → Type 0
ImplRefuted m L args r =
    (is_positive r.polarity || only_bars m r ≡ false)
    ⊎ Clashes L r.params.items (header_of r) args
    ⊎ ((s : List Tree) × AllKnown L r.params.items (header_of r) args s × PremisesRefuted L (clauses_under s r.predicates.items))

-- a rule's premises hold; or there is no rule, or one of its premises is refuted
unfoldable pub TraitRuleHolds : Level → Option (List Premise) → Type 0
TraitRuleHolds L None = ⊥
TraitRuleHolds L (Some ps) = PremisesHold L ps

unfoldable pub TraitRuleRefuted : Level → Option (List Premise) → Type 0
TraitRuleRefuted L None = Unit {0}
TraitRuleRefuted L (Some ps) = PremisesRefuted L ps

-- whether an error stands in some of the terms
abbrev pub any_error : List Tree → Bool
any_error ts = list_any has_error ts

-- a candidate shows that the trait holds for arguments, whose self type is a head form
unfoldable pub CandidateHolds : Setting → Level → TraitId → List Tree → Candidate → Type 0
CandidateHolds S L i args (assumption p) = AssumptionHolds L i args p
CandidateHolds S L i args (implied_bound b cs) = ⊥
CandidateHolds S L i args (by_impl r) = ImplHolds L args r
CandidateHolds S L i args built_in = TraitRuleHolds L (trait_rule S.tables i args)
CandidateHolds S L i args error = any_error args ≡ true

-- a candidate cannot show it, now or at any greater height
unfoldable pub CandidateRefuted : Setting → Level → TraitId → List Tree → Candidate → Type 0
CandidateRefuted S L i args (assumption p) = AssumptionRefuted L i args p
CandidateRefuted S L i args (implied_bound b cs) = Unit {0}
CandidateRefuted S L i args (by_impl r) = ImplRefuted S.mode L args r
CandidateRefuted S L i args built_in = TraitRuleRefuted L (trait_rule S.tables i args)
CandidateRefuted S L i args error = any_error args ≡ false

-- a candidate is passed over: it is an impl, and a more special impl holds
unfoldable pub PassedOver : Setting → Level → List Tree → Candidate → Type 0
PassedOver S L args (by_impl r) = (n : ℕ) × Exists (ImplHolds L args) (reached S.tables n r)
PassedOver S L args _ = ⊥

-- a candidate decides where it holds: it is no impl, or all more special impls are refuted
unfoldable pub Decides : Setting → Level → List Tree → Candidate → Type 0
Decides S L args (by_impl r) = (n : ℕ) → Each (ImplRefuted S.mode L args) (reached S.tables n r)
Decides S L args _ = Unit {0}

-- a candidate shows that the trait holds, and decides
abbrev pub CandidateDecides : Setting → Level → TraitId → List Tree → Candidate → Type 0
CandidateDecides S L i args c = CandidateHolds S L i args c × Decides S L args c

-- a candidate is ruled out: it is refuted or passed over
abbrev pub CandidateRuledOut : Setting → Level → TraitId → List Tree → Candidate → Type 0
CandidateRuledOut S L i args c = CandidateRefuted S L i args c ⊎ PassedOver S L args c

-- a trait goal holds through a class: the self type has a head form, a candidate of the class decides for it, and all of the classes before are ruled out
unfoldable pub TraitHolds : Setting → Level → TraitGoalProvenVia → TraitId → List Tree → Type 0
TraitHolds S L c i [] = ⊥
TraitHolds S L c i (self ∷ args) =
    (s : Tree)
    × HasHeadForm L self s
    × Exists (CandidateDecides S L i (s ∷ args)) (class_of S i s c)
    × Each (CandidateRuledOut S L i (s ∷ args)) (classes_before S i s c)

-- a trait goal is refuted: its self type's head form is, or all candidates for that head form are ruled out
unfoldable pub TraitRefuted : Setting → Level → TraitId → List Tree → Type 0
TraitRefuted S L i [] = ⊥
TraitRefuted S L i (self ∷ args) =
    HeadFormRefuted L self
    ⊎ ((s : Tree) × HasHeadForm L self s × Each (CandidateRuledOut S L i (s ∷ args)) (all_candidates S i s))
