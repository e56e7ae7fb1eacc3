-- The list of each candidate for the term of a projection says what the candidate does, and that of a projection goal what the goal does.
use Rattle.std.proofs.Common.{◌≡◌, ◌⊎◌, ◌↔◌, ℕ, true, List, [], ◌∷◌, Option, Some, None, inl, inr, refl, ap, ⊎_elim, eq-eqb, eqb-true}
use Rattle.std.proofs.lemmas.Bool.{false≢true}
use Rattle.goal_terms.specs.PredicateTrees.{PredicateTree, holds, equals, holds_const}
use Rattle.goal_terms.specs.Tree.{Tree, node, alias, variable, list_of}
use Rattle.goal_terms.specs.TreeOf.{trees_of}
use Rattle.goal_terms.specs.declared.answers.GoalSource.TheVariants.{ImplWhereBound}
use Rattle.goal_terms.specs.declared.ids.ItemId.{ItemId}
use Rattle.goal_tables.specs.declared.rows.ImplRow.{ImplRow}
use Rattle.goal_lists.specs.Builtins.{Listed, nothing_listed, listed, listed_rigid, listed_by_size, term_rule, unit_ty}
use Rattle.goal_lists.specs.Candidates.{Candidate, assumption, implied_bound, by_impl, built_in, error}
use Rattle.goal_lists.specs.Entries.{Entry, arguments, given_arguments, row_clauses, expected, head_form_of, chosen_by, evaluation, TermIs, NoTerm, ListGives, ListRefuted}
use Rattle.goal_lists.specs.Headers.{AllKnown, Fits, Clashes}
use Rattle.goal_lists.specs.ImplTerms.{Projection, trait_args, own_clauses, said, SaidGives, SaidRefuted, ImplGives, ImplTermRefuted}
use Rattle.goal_lists.specs.Level.{Level, HasHeadForm, HeadFormRefuted}
use Rattle.goal_lists.specs.Levels.{level}
use Rattle.goal_lists.specs.ListLaws.{EquationListHolds, EquationListRefuted}
use Rattle.goal_lists.specs.Premises.{PremisesHold, PremisesRefuted, ClauseRefuted, clauses_under}
use Rattle.goal_lists.specs.ProjectionLists.{is_item, same_item_list, equation_clause_list, projection_assumption_list, said_entries, projection_impl_list, listed_list, projection_list}
use Rattle.goal_lists.specs.Projections.{projected_item, EquationGives, EquationRefuted, AssumptionGives, AssumptionTermRefuted, self_of, ListedGives, ListedRefuted, CandidateGives, TermRefuted}
use Rattle.goal_lists.specs.Settings.{Setting}
use Rattle.goal_lists.specs.TraitGoals.{ImplHoldsUnder, ImplRefuted, header_of}
use Rattle.goal_lists.specs.TraitLists.{impl_match}
use Rattle.goal_lists.specs.Words.{Pairs, SomePair}
use Rattle.goal_lists.proofs.EntryLemmas.{iff-chain, iff-both, iff-either, iff-same}
use Rattle.goal_lists.proofs.ListEntries.{EntriesSay, say-gives, say-refuted, given-says, header-says, equal_terms-say, row_clauses-say, premises-say, evaluation-says, term-says, standing-says, head_form-says}
use Rattle.goal_lists.proofs.ListWords.{nothing-more, test-fails, tested-gives, tested-refuted, polarity-gives, polarity-refuted}
use Rattle.goal_lists.proofs.SaidLists.{impl-said}
use Rattle.goal_lists.proofs.TraitLists.{equation-holds, equation-refuted}

-- whether an item is the one of a number
pub item-tested : (i : ItemId) (o : Option ItemId) → (is_item i o ≡ true) ↔ (o ≡ Some i)
item-tested i None = (λ e. absurd (false≢true e), λ e. absurd (cc))
item-tested i (Some j) = (λ e. ap (λ n. Some (record { 0 = n })) (eqb-true j.0 i.0 e), λ e. let same : j ≡ i = cc in eq-eqb j.0 i.0 (ap (λ k. k.0) same))

-- a clause of the same item
module _ (L : Level) (p : Projection) where
  same_item-says : (bs : List Tree) (v : Tree) →
      EntriesSay L [] (same_item_list p bs v) (λ u. Pairs L.equal bs p.args × (PremisesHold L (own_clauses p) × HasHeadForm L v u))
      (SomePair L.unequal bs p.args ⊎ (PremisesRefuted L (own_clauses p) ⊎ HeadFormRefuted L v))
  same_item-says bs v =
      equal_terms-say L [] bs p.args (arguments (given_arguments p.args) ∷ row_clauses p.item.own_predicates.items 0 ∷ expected (head_form_of v) ∷ []) _ _
      (given-says L [] p.args (row_clauses p.item.own_predicates.items 0 ∷ expected (head_form_of v) ∷ []) _ _
      (row_clauses-say L (p.args ∷ []) p.item.own_predicates.items 0 p.args (expected (head_form_of v) ∷ []) _ _ refl (head_form-says L (p.args ∷ []) v)))

  equation-gives : (a v u : Tree) → ListGives L (equation_clause_list p a v) u ↔ EquationGives L p a v u
  unfolding equation_clause_list EquationGives ListGives
  equation-gives (alias k bs) v u =
      let list = iff-chain (tested-gives L (is_item p.item.id (projected_item k)) (Some (same_item_list p (list_of bs) v)) u)
      (iff-both (item-tested p.item.id (projected_item k)) (say-gives (same_item-says (list_of bs) v) u)) in
      (λ h. let x = list.0 h in (x.0, x.1.0, x.1.1.0, x.1.1.1), λ h. list.1 (h.0, (h.1, (h.2, h.3))))
  equation-gives (node h bs) v u = iff-same
  equation-gives (variable x) v u = iff-same

  equation-none : (a v : Tree) → ListRefuted L (equation_clause_list p a v) ↔ EquationRefuted L p a v
  unfolding equation_clause_list EquationRefuted ListRefuted
  equation-none (alias k bs) v =
      iff-chain (tested-refuted L (is_item p.item.id (projected_item k)) (Some (same_item_list p (list_of bs) v)))
      (iff-either (test-fails (is_item p.item.id (projected_item k)) (item-tested p.item.id (projected_item k))) (say-refuted (same_item-says (list_of bs) v)))
  equation-none (node h bs) v = iff-same
  equation-none (variable x) v = iff-same

  assumption-gives : (q : PredicateTree) (u : Tree) → ListGives L (projection_assumption_list p q) u ↔ AssumptionGives L p q u
  unfolding projection_assumption_list AssumptionGives ListGives
  assumption-gives (equals a v) u = equation-gives a v u
  assumption-gives (holds i ts) u = iff-same
  assumption-gives (holds_const c i ts) u = iff-same

  assumption-refuted : (q : PredicateTree) → ListRefuted L (projection_assumption_list p q) ↔ AssumptionTermRefuted L p q
  unfolding projection_assumption_list AssumptionTermRefuted ListRefuted
  assumption-refuted (equals a v) = equation-none a v
  assumption-refuted (holds i ts) = iff-same
  assumption-refuted (holds_const c i ts) = iff-same

  -- a built-in rule
  listed-gives : (itself : Tree) (x : Listed) (u : Tree) → ListGives L (listed_list p itself x) u ↔ ListedGives L p itself x u
  unfolding listed_list ListedGives ListGives TermIs ClauseRefuted
  listed-gives itself nothing_listed u = iff-same
  listed-gives itself (listed ps v) u = (premises-say L [] ImplWhereBound ps (expected (head_form_of v) ∷ []) _ _ (head_form-says L [] v)).gives u
  listed-gives itself listed_rigid u = (standing-says L [] itself).gives u
  listed-gives itself (listed_by_size sized) u = (term-says L [] (chosen_by (holds sized (self_of p.args)) unit_ty itself)).gives u

  listed-refuted : (itself : Tree) (x : Listed) → ListRefuted L (listed_list p itself x) ↔ ListedRefuted L x
  unfolding listed_list ListedRefuted ListRefuted NoTerm
  listed-refuted itself nothing_listed = iff-same
  listed-refuted itself (listed ps v) = (premises-say L [] ImplWhereBound ps (expected (head_form_of v) ∷ []) _ _ (head_form-says L [] v)).refuted
  listed-refuted itself listed_rigid = (standing-says L [] itself).refuted
  listed-refuted itself (listed_by_size sized) = (term-says L [] (chosen_by (holds sized (self_of p.args)) unit_ty itself)).refuted

-- an impl
module _ (S : Setting) (L : Level) (p : Projection) (itself : Tree) (r : ImplRow) where
  -- what it asks for behind its where clauses, and all of that
  abbrev behind : List Entry
  behind = evaluation ∷ arguments (given_arguments p.args) ∷ row_clauses p.item.own_predicates.items 1 ∷ said_entries S r p itself

  abbrev whole : List Entry
  whole = impl_match r (trait_args p) behind

  whole-says :
      EntriesSay L [] whole
      (λ u. (s : List Tree) × Fits L r.params.items (header_of r) (trait_args p) s
      × (PremisesHold L (clauses_under s r.predicates.items) × (PremisesHold L (own_clauses p) × SaidGives S L r s p itself (said S r p.item) u)))
      (Clashes L r.params.items (header_of r) (trait_args p)
      ⊎ ((s : List Tree) × AllKnown L r.params.items (header_of r) (trait_args p) s
      × (PremisesRefuted L (clauses_under s r.predicates.items) ⊎ (PremisesRefuted L (own_clauses p) ⊎ SaidRefuted S L r s p (said S r p.item)))))
  whole-says =
      let own = row_clauses p.item.own_predicates.items 1 ∷ said_entries S r p itself in
      header-says L [] r.params.items (trees_of r.trait_args.items) (trait_args p) (row_clauses r.predicates.items 0 ∷ behind) _ _
      (λ s. row_clauses-say L (s ∷ []) r.predicates.items 0 s behind _ _ refl
      (evaluation-says L (s ∷ []) (arguments (given_arguments p.args) ∷ own) _ _
      (given-says L (s ∷ []) p.args own _ _
      (row_clauses-say L (s ∷ p.args ∷ []) p.item.own_predicates.items 1 p.args (said_entries S r p itself) _ _ refl (impl-said S L r s p itself)))))

  impl-gives : (u : Tree) → ListGives L (projection_impl_list S p itself r) u ↔ ImplGives S L p itself r u
  unfolding ImplGives ImplHoldsUnder
  impl-gives u =
      let list = iff-chain (polarity-gives S.mode L r.polarity whole u) (iff-both iff-same (say-gives whole-says u)) in (
        λ h. let x = list.0 h in (x.1.0, (x.0, x.1.1, x.1.2.0), x.1.2.1.0, x.1.2.1.1),
        λ h. list.1 (h.1.0, (h.0, h.1.1, (h.1.2, (h.2, h.3)))),
      )

  impl-refuted : ListRefuted L (projection_impl_list S p itself r) ↔ ImplTermRefuted S L p r
  unfolding ImplTermRefuted ImplRefuted
  impl-refuted =
      let list = iff-chain (polarity-refuted S.mode L r.polarity whole) (iff-either iff-same (say-refuted whole-says)) in (
        λ h. ⊎_elim (λ x. inl (inl x))
            (λ x. ⊎_elim (λ y. inl (inr (inl y))) (λ y. ⊎_elim (λ z. inl (inr (inr (y.0, y.1, z)))) (λ z. inr (y.0, y.1, z)) y.2) x) (list.0 h),
        λ h. list.1 (⊎_elim
            (λ x. ⊎_elim (λ y. inl y) (λ y. inr (⊎_elim (λ z. inl z) (λ z. inr (z.0, z.1, inl z.2)) y)) x)
            (λ x. inr (inr (x.0, x.1, inr x.2))) h),
      )

-- each candidate
module _ (S : Setting) (L : Level) (p : Projection) (itself : Tree) where
  pub projection_list-gives : (c : Candidate) (u : Tree) → ListGives L (projection_list S p itself c) u ↔ CandidateGives S L p itself u c
  unfolding projection_list CandidateGives ListGives
  projection_list-gives (assumption q) u = assumption-gives L p q u
  projection_list-gives (implied_bound b cs) u = iff-same
  projection_list-gives (by_impl r) u = impl-gives S L p itself r u
  projection_list-gives built_in u = listed-gives L p itself (term_rule S.tables p.item.id p.args) u
  projection_list-gives error u = iff-same

  pub projection_list-refuted : (c : Candidate) → ListRefuted L (projection_list S p itself c) ↔ TermRefuted S L p c
  unfolding projection_list TermRefuted ListRefuted
  projection_list-refuted (assumption q) = assumption-refuted L p q
  projection_list-refuted (implied_bound b cs) = iff-same
  projection_list-refuted (by_impl r) = impl-refuted S L p itself r
  projection_list-refuted built_in = listed-refuted L p itself (term_rule S.tables p.item.id p.args)
  projection_list-refuted error = iff-same

-- a projection goal
pub equation_list-holds : (S : Setting) (n : ℕ) (a t : Tree) → EquationListHolds S n a t
unfolding level Pairs
equation_list-holds S n a t = iff-chain (equation-holds (level S n) (a ∷ []) (t ∷ [])) (λ h. h.0, λ h. (h, tt))

pub equation_list-refuted : (S : Setting) (n : ℕ) (a t : Tree) → EquationListRefuted S n a t
unfolding level SomePair
equation_list-refuted S n a t = iff-chain (equation-refuted (level S n) (a ∷ []) (t ∷ [])) nothing-more
