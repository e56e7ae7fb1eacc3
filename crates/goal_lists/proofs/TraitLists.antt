-- The list of each candidate for a trait goal says what the candidate does.
use Rattle.std.proofs.Common.{◌≡◌, ◌⊎◌, ◌↔◌, true, false, List, [], ◌∷◌, Option, Some, None, ◌||◌}
use Rattle.std.specs.Option.{option_map}
use Rattle.goal_terms.specs.PredicateTrees.{PredicateTree, holds, equals, holds_const}
use Rattle.goal_terms.specs.Tree.{Tree}
use Rattle.goal_terms.specs.declared.answers.GoalSource.{GoalSource}
use Rattle.goal_terms.specs.declared.ids.TraitId.{TraitId}
use Rattle.goal_terms.specs.declared.modes.TypingMode.{TypingMode}
use Rattle.goal_tables.specs.Rows.{trait_of}
use Rattle.goal_tables.specs.SourceFaults.{is_positive}
use Rattle.goal_tables.specs.declared.rows.ImplRow.{ImplRow}
use Rattle.goal_lists.specs.Builtins.{trait_rule}
use Rattle.goal_lists.specs.Candidates.{Candidate, assumption, implied_bound, by_impl, built_in, error}
use Rattle.goal_lists.specs.Entries.{equal_terms, Named, NamedKnown, NamesNothing, EntriesHold, EntriesRefuted, ListHolds, ListRefuted, premise_entries}
use Rattle.goal_lists.specs.Level.{Level}
use Rattle.goal_lists.specs.Premises.{Premise}
use Rattle.goal_lists.specs.Settings.{Setting}
use Rattle.goal_lists.specs.TraitGoals.{AssumptionHolds, AssumptionRefuted, ImplHoldsUnder, ImplHolds, ImplRefuted, TraitRuleHolds, TraitRuleRefuted, any_error, CandidateHolds, CandidateRefuted, only_bars}
use Rattle.goal_lists.specs.TraitLists.{is_trait, impl_match, source_of_rule, trait_assumption_list, trait_impl_list, error_list, trait_list}
use Rattle.goal_lists.specs.Words.{OfRow, Pairs, SomePair}
use Rattle.goal_lists.proofs.EntryLemmas.{iff-chain, iff-both, iff-either, iff-same}
use Rattle.goal_lists.proofs.ListWords.{nothing-more, known-same, test-fails, trait-tested, tested-holds, tested-refuted, premise_list-holds, premise_list-refuted, polarity-holds, polarity-refuted}

-- an equation of arguments
pub equation-holds : (L : Level) (ts us : List Tree) → ListHolds L (Some (equal_terms ts us ∷ [])) ↔ Pairs L.equal ts us
unfolding ListHolds EntriesHold
equation-holds L ts us = (λ h. h.0, λ h. (h, tt))

pub equation-refuted : (L : Level) (ts us : List Tree) → ListRefuted L (Some (equal_terms ts us ∷ [])) ↔ SomePair L.unequal ts us
unfolding ListRefuted EntriesRefuted
equation-refuted L ts us = nothing-more

-- a clause
assumption-holds : (L : Level) (i : TraitId) (args : List Tree) (p : PredicateTree) → ListHolds L (trait_assumption_list i args p) ↔ AssumptionHolds L i args p
unfolding ListHolds trait_assumption_list AssumptionHolds
assumption-holds L i args (holds j bs) =
    iff-chain (tested-holds L (is_trait j i) (Some (equal_terms bs args ∷ []))) (iff-both (trait-tested j i) (equation-holds L bs args))
assumption-holds L i args (equals a t) = iff-same
assumption-holds L i args (holds_const c j bs) = iff-same

assumption-refuted : (L : Level) (i : TraitId) (args : List Tree) (p : PredicateTree) → ListRefuted L (trait_assumption_list i args p) ↔ AssumptionRefuted L i args p
unfolding ListRefuted trait_assumption_list AssumptionRefuted
assumption-refuted L i args (holds j bs) =
    iff-chain (tested-refuted L (is_trait j i) (Some (equal_terms bs args ∷ [])))
    (iff-either (test-fails (is_trait j i) (trait-tested j i)) (equation-refuted L bs args))
assumption-refuted L i args (equals a t) = iff-same
assumption-refuted L i args (holds_const c j bs) = iff-same

-- an impl that is positive
positive-holds : (L : Level) (args : List Tree) (r : ImplRow) → ((is_positive r.polarity ≡ true) × ListHolds L (Some (impl_match r args []))) ↔ ImplHolds L args r
unfolding ListHolds EntriesHold Named OfRow ImplHolds ImplHoldsUnder
positive-holds L args r = (λ h. (h.1.0, (h.0, h.1.1, h.1.2.0)), λ h. (h.1.0, (h.0, h.1.1, (h.1.2, tt))))

positive-refuted : (m : TypingMode) (L : Level) (args : List Tree) (r : ImplRow) →
    ((is_positive r.polarity || only_bars m r ≡ false) ⊎ ListRefuted L (Some (impl_match r args []))) ↔ ImplRefuted m L args r
unfolding ListRefuted EntriesRefuted NamedKnown NamesNothing OfRow ImplRefuted
positive-refuted m L args r = iff-either iff-same (iff-either iff-same (known-same (λ s. nothing-more)))

-- an impl
module _ (S : Setting) (L : Level) (args : List Tree) (r : ImplRow) where
  impl-holds : ListHolds L (trait_impl_list S.mode args r) ↔ ImplHolds L args r
  impl-holds = iff-chain (polarity-holds S.mode L r.polarity (impl_match r args [])) (positive-holds L args r)

  impl-refuted : ListRefuted L (trait_impl_list S.mode args r) ↔ ImplRefuted S.mode L args r
  impl-refuted = iff-chain (polarity-refuted S.mode L r.polarity (impl_match r args [])) (positive-refuted S.mode L args r)

-- a trait alias or a built-in rule
rule-holds : (L : Level) (g : GoalSource) (o : Option (List Premise)) → ListHolds L (option_map (premise_entries g) o) ↔ TraitRuleHolds L o
unfolding TraitRuleHolds ListHolds
rule-holds L g None = iff-same
rule-holds L g (Some ps) = premise_list-holds L g ps

rule-refuted : (L : Level) (g : GoalSource) (o : Option (List Premise)) → ListRefuted L (option_map (premise_entries g) o) ↔ TraitRuleRefuted L o
unfolding TraitRuleRefuted ListRefuted
rule-refuted L g None = iff-same
rule-refuted L g (Some ps) = premise_list-refuted L g ps

-- an error
pub error_list-holds : (L : Level) (args : List Tree) → ListHolds L (error_list args) ↔ (any_error args ≡ true)
unfolding ListHolds EntriesHold
error_list-holds L args = iff-chain (tested-holds L (any_error args) (Some [])) (λ h. h.0, λ h. (h, tt))

pub error_list-refuted : (L : Level) (args : List Tree) → ListRefuted L (error_list args) ↔ (any_error args ≡ false)
unfolding ListRefuted EntriesRefuted
error_list-refuted L args = iff-chain (tested-refuted L (any_error args) (Some [])) nothing-more

-- each candidate
module _ (S : Setting) (L : Level) (i : TraitId) (args : List Tree) where
  pub trait_list-holds : (c : Candidate) → ListHolds L (trait_list S i args c) ↔ CandidateHolds S L i args c
  unfolding trait_list CandidateHolds ListHolds
  trait_list-holds (assumption p) = assumption-holds L i args p
  trait_list-holds (implied_bound b cs) = iff-same
  trait_list-holds (by_impl r) = impl-holds S L args r
  trait_list-holds built_in = rule-holds L (source_of_rule (trait_of S.tables i)) (trait_rule S.tables i args)
  trait_list-holds error = error_list-holds L args

  pub trait_list-refuted : (c : Candidate) → ListRefuted L (trait_list S i args c) ↔ CandidateRefuted S L i args c
  unfolding trait_list CandidateRefuted ListRefuted
  trait_list-refuted (assumption p) = assumption-refuted L i args p
  trait_list-refuted (implied_bound b cs) = iff-same
  trait_list-refuted (by_impl r) = impl-refuted S L args r
  trait_list-refuted built_in = rule-refuted L (source_of_rule (trait_of S.tables i)) (trait_rule S.tables i args)
  trait_list-refuted error = error_list-refuted L args
