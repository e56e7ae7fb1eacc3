-- The list of each candidate for a host effect goal says what the candidate does.
use Rattle.std.proofs.Common.{◌≡◌, ◌⊎◌, ◌↔◌, ◌&&◌, Bool, true, false, List, [], ◌∷◌, Option, Some, None, inl, inr, refl, sym, ⊎_elim, ◌||◌}
use Rattle.std.proofs.lemmas.Bool.{false≢true}
use Rattle.std.specs.Option.{option_map}
use Rattle.goal_terms.specs.PredicateTrees.{PredicateTree, holds, equals, holds_const}
use Rattle.goal_terms.specs.Tree.{Tree}
use Rattle.goal_terms.specs.declared.answers.GoalSource.{GoalSource}
use Rattle.goal_terms.specs.declared.answers.GoalSource.TheVariants.{AliasBoundConstCondition}
use Rattle.goal_terms.specs.declared.ids.TraitId.{TraitId}
use Rattle.goal_terms.specs.declared.predicates.BoundConstness.{BoundConstness}
use Rattle.goal_tables.specs.Rows.{trait_of}
use Rattle.goal_tables.specs.SourceFaults.{is_positive}
use Rattle.goal_tables.specs.declared.rows.ImplRow.{ImplRow}
use Rattle.goal_lists.specs.Candidates.{Candidate, assumption, implied_bound, by_impl, built_in, error}
use Rattle.goal_lists.specs.ConstGoals.{satisfies, ConstAssumptionHolds, ConstAssumptionRefuted, ImpliedHolds, ImpliedRefuted, ConstImplHolds, ConstImplRefuted, ConstRuleHolds, ConstRuleRefuted, ConstCandidateHolds, ConstCandidateRefuted}
use Rattle.goal_lists.specs.ConstRules.{const_rule}
use Rattle.goal_lists.specs.EffectLists.{effect_assumption_list, implied_list, effect_impl_list, source_of_const_rule, const_rule_entries, effect_list}
use Rattle.goal_lists.specs.Entries.{Entry, equal_terms, row_conditions, Named, NamedKnown, NamesNothing, EntriesHold, EntriesRefuted, ListHolds, ListRefuted, premise_entries}
use Rattle.goal_lists.specs.Level.{Level}
use Rattle.goal_lists.specs.Premises.{TraitTree, ConstRule, PremisesHold, PremisesRefuted, conditions_as}
use Rattle.goal_lists.specs.Settings.{Setting}
use Rattle.goal_lists.specs.TraitGoals.{ImplHoldsUnder, ImplRefuted, only_bars}
use Rattle.goal_lists.specs.TraitLists.{is_trait, impl_match, list_by_polarity}
use Rattle.goal_lists.specs.Words.{OfRow, Pairs, SomePair}
use Rattle.goal_lists.proofs.EntryLemmas.{iff-chain, iff-both, iff-either, iff-same}
use Rattle.goal_lists.proofs.ListWords.{nothing-more, test-fails, trait-tested, tested-holds, tested-refuted, premises-hold, premises-refuted, premises_alone-hold, premises_alone-refuted, polarity-holds, polarity-refuted}
use Rattle.goal_lists.proofs.TraitLists.{equation-holds, equation-refuted, error_list-holds, error_list-refuted}

-- both of two tests are passed, or one of them fails
both-passed : (a b : Bool) → (a && b ≡ true) ↔ ((a ≡ true) × (b ≡ true))
both-passed true b = (λ e. (refl, e), λ h. h.1)
both-passed false b = (λ e. absurd (false≢true e), λ h. absurd (false≢true h.0))

one-failed : (a b : Bool) → (a && b ≡ false) ↔ ((a ≡ false) ⊎ (b ≡ false))
one-failed true b = (λ e. inr e, λ h. ⊎_elim (λ e. absurd (false≢true (sym e))) (λ e. e) h)
one-failed false b = (λ e. inl refl, λ h. refl)

-- a clause
module _ (L : Level) (c : BoundConstness) (i : TraitId) (args : List Tree) where
  assumption-holds : (p : PredicateTree) → ListHolds L (effect_assumption_list c i args p) ↔ ConstAssumptionHolds L c i args p
  unfolding ListHolds effect_assumption_list ConstAssumptionHolds
  assumption-holds (holds_const b j bs) =
      let test = iff-chain (both-passed (is_trait j i) (satisfies b c)) (iff-both (trait-tested j i) iff-same) in
      let list = iff-chain (tested-holds L (is_trait j i && satisfies b c) (Some (equal_terms bs args ∷ []))) (iff-both test (equation-holds L bs args)) in
      (λ h. let x = list.0 h in (x.0.0, x.0.1, x.1), λ h. list.1 ((h.0, h.1), h.2))
  assumption-holds (holds j bs) = iff-same
  assumption-holds (equals a t) = iff-same

  assumption-refuted : (p : PredicateTree) → ListRefuted L (effect_assumption_list c i args p) ↔ ConstAssumptionRefuted L c i args p
  unfolding ListRefuted effect_assumption_list ConstAssumptionRefuted
  assumption-refuted (holds_const b j bs) =
      let test = iff-chain (one-failed (is_trait j i) (satisfies b c)) (iff-either (test-fails (is_trait j i) (trait-tested j i)) iff-same) in
      let list = iff-chain (tested-refuted L (is_trait j i && satisfies b c) (Some (equal_terms bs args ∷ []))) (iff-either test (equation-refuted L bs args)) in (
        λ h. ⊎_elim (λ x. ⊎_elim (λ y. inl y) (λ y. inr (inl y)) x) (λ x. inr (inr x)) (list.0 h),
        λ h. list.1 (⊎_elim (λ x. inl (inl x)) (λ x. ⊎_elim (λ y. inl (inr y)) (λ y. inr y) x) h),
      )
  assumption-refuted (holds j bs) = iff-same
  assumption-refuted (equals a t) = iff-same

  -- an implied const bound, behind the test of its trait
  implied_entries-hold : (b : TraitTree) (conditions : List TraitTree) →
      ListHolds L (Some (equal_terms b.args args ∷ premise_entries AliasBoundConstCondition (conditions_as c conditions)))
      ↔ (Pairs L.equal b.args args × PremisesHold L (conditions_as c conditions))
  unfolding ListHolds EntriesHold
  implied_entries-hold b conditions = iff-both iff-same (premises_alone-hold L (λ u. Unit {0}) [] AliasBoundConstCondition (conditions_as c conditions))

  implied_entries-refuted : (b : TraitTree) (conditions : List TraitTree) →
      ListRefuted L (Some (equal_terms b.args args ∷ premise_entries AliasBoundConstCondition (conditions_as c conditions)))
      ↔ (SomePair L.unequal b.args args ⊎ PremisesRefuted L (conditions_as c conditions))
  unfolding ListRefuted EntriesRefuted
  implied_entries-refuted b conditions = iff-either iff-same (premises_alone-refuted L [] AliasBoundConstCondition (conditions_as c conditions))

  implied-holds : (b : TraitTree) (conditions : List TraitTree) → ListHolds L (implied_list c i args b conditions) ↔ ImpliedHolds L c i args b conditions
  unfolding ImpliedHolds
  implied-holds b conditions =
      let list = iff-chain (tested-holds L (is_trait b.def_id i) (Some (equal_terms b.args args ∷ premise_entries AliasBoundConstCondition (conditions_as c conditions))))
      (iff-both (trait-tested b.def_id i) (implied_entries-hold b conditions)) in
      (λ h. let x = list.0 h in (x.0, x.1.0, x.1.1), λ h. list.1 (h.0, (h.1, h.2)))

  implied-refuted : (b : TraitTree) (conditions : List TraitTree) → ListRefuted L (implied_list c i args b conditions) ↔ ImpliedRefuted L c i args b conditions
  unfolding ImpliedRefuted
  implied-refuted b conditions =
      iff-chain (tested-refuted L (is_trait b.def_id i) (Some (equal_terms b.args args ∷ premise_entries AliasBoundConstCondition (conditions_as c conditions))))
      (iff-either (test-fails (is_trait b.def_id i) (trait-tested b.def_id i)) (implied_entries-refuted b conditions))

  -- a rule
  rule-holds : (g : GoalSource) (o : Option ConstRule) → ListHolds L (option_map (const_rule_entries g c) o) ↔ ConstRuleHolds L c o
  unfolding ConstRuleHolds ListHolds
  rule-holds g None = iff-same
  rule-holds g (Some r) =
      iff-chain (premises-hold L (λ u. Unit {0}) (Unit {0}) [] g r.premises (premise_entries g (conditions_as c r.conditions)))
      (iff-both iff-same (premises_alone-hold L (λ u. Unit {0}) [] g (conditions_as c r.conditions)))

  rule-refuted : (g : GoalSource) (o : Option ConstRule) → ListRefuted L (option_map (const_rule_entries g c) o) ↔ ConstRuleRefuted L c o
  unfolding ConstRuleRefuted ListRefuted
  rule-refuted g None = iff-same
  rule-refuted g (Some r) =
      iff-chain (premises-refuted L [] g r.premises (premise_entries g (conditions_as c r.conditions)))
      (iff-either iff-same (premises_alone-refuted L [] g (conditions_as c r.conditions)))

-- an impl
module _ (S : Setting) (L : Level) (c : BoundConstness) (args : List Tree) (r : ImplRow) where
  -- what a const impl asks for
  abbrev const_match : List Entry
  const_match = impl_match r args (row_conditions c r.const_conditions.items 0 ∷ [])

  match-holds : ((r.is_const ≡ true) × ((is_positive r.polarity ≡ true) × ListHolds L (Some const_match))) ↔ ConstImplHolds L c args r
  unfolding ListHolds EntriesHold Named OfRow ConstImplHolds ImplHoldsUnder
  match-holds = (
    λ h. (h.1.1.0, h.0, (h.1.0, h.1.1.1, h.1.1.2.0), h.1.1.2.1.0),
    λ h. (h.1, (h.2.0, (h.0, h.2.1, (h.2.2, (h.3, tt))))),
  )

  match-refuted : ((r.is_const ≡ false) ⊎ ((is_positive r.polarity || only_bars S.mode r ≡ false) ⊎ ListRefuted L (Some const_match))) ↔ ConstImplRefuted S.mode L c args r
  unfolding ListRefuted EntriesRefuted NamedKnown NamesNothing OfRow ConstImplRefuted ImplRefuted
  match-refuted = (
    λ h. ⊎_elim (λ x. inl x)
        (λ x. ⊎_elim (λ y. inr (inl (inl y)))
        (λ y. ⊎_elim (λ z. inr (inl (inr (inl z))))
        (λ z. ⊎_elim (λ w. inr (inl (inr (inr (z.0, z.1, w))))) (λ w. inr (inr (z.0, z.1, nothing-more.0 w))) z.2) y) x) h,
    λ h. ⊎_elim (λ x. inl x)
        (λ x. inr (⊎_elim
        (λ y. ⊎_elim (λ z. inl z) (λ z. inr (⊎_elim (λ w. inl w) (λ w. inr (w.0, w.1, inl w.2)) z)) y)
        (λ y. inr (inr (y.0, y.1, inr (inl y.2)))) x)) h,
  )

  impl-holds : ListHolds L (effect_impl_list S.mode c args r) ↔ ConstImplHolds L c args r
  impl-holds =
      iff-chain (tested-holds L r.is_const (list_by_polarity S.mode r.polarity const_match))
      (iff-chain (iff-both iff-same (polarity-holds S.mode L r.polarity const_match)) match-holds)

  impl-refuted : ListRefuted L (effect_impl_list S.mode c args r) ↔ ConstImplRefuted S.mode L c args r
  impl-refuted =
      iff-chain (tested-refuted L r.is_const (list_by_polarity S.mode r.polarity const_match))
      (iff-chain (iff-either iff-same (polarity-refuted S.mode L r.polarity const_match)) match-refuted)

-- each candidate
module _ (S : Setting) (L : Level) (c : BoundConstness) (i : TraitId) (args : List Tree) where
  pub effect_list-holds : (x : Candidate) → ListHolds L (effect_list S c i args x) ↔ ConstCandidateHolds S L c i args x
  unfolding effect_list ConstCandidateHolds
  effect_list-holds (assumption p) = assumption-holds L c i args p
  effect_list-holds (implied_bound b conditions) = implied-holds L c i args b conditions
  effect_list-holds (by_impl r) = impl-holds S L c args r
  effect_list-holds built_in = rule-holds L c i args (source_of_const_rule S.tables i (trait_of S.tables i)) (const_rule S.tables i args)
  effect_list-holds error = error_list-holds L args

  pub effect_list-refuted : (x : Candidate) → ListRefuted L (effect_list S c i args x) ↔ ConstCandidateRefuted S L c i args x
  unfolding effect_list ConstCandidateRefuted
  effect_list-refuted (assumption p) = assumption-refuted L c i args p
  effect_list-refuted (implied_bound b conditions) = implied-refuted L c i args b conditions
  effect_list-refuted (by_impl r) = impl-refuted S L c args r
  effect_list-refuted built_in = rule-refuted L c i args (source_of_const_rule S.tables i (trait_of S.tables i)) (const_rule S.tables i args)
  effect_list-refuted error = error_list-refuted L args
