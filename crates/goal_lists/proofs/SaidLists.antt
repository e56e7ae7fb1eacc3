-- What a list has for a value, and for what an impl says of an item, says what the definitions do.
use Rattle.std.proofs.Common.{◌≡◌, ◌⊎◌, ◌↔◌, not, ℕ, Bool, true, false, List, [], ◌∷◌, ◌++◌, Option, Some, None, if◌then◌else◌, inl, inr, refl, subst, ⊎_elim}
use Rattle.std.proofs.lemmas.Bool.{false≢true}
use Rattle.std.specs.Prelude.{slice_get}
use Rattle.goal_terms.specs.Tree.{Tree}
use Rattle.goal_terms.specs.TreeOf.{tree_of_term, trees_of}
use Rattle.goal_terms.specs.declared.answers.DelayedFault.TheVariants.{MissingItem}
use Rattle.goal_terms.specs.declared.answers.OpaqueAccess.TheVariants.{Always}
use Rattle.goal_terms.specs.declared.modes.TypingMode.{TypingMode}
use Rattle.goal_terms.specs.declared.modes.TypingMode.TheVariants as mode
use Rattle.goal_tables.specs.Rows.{source_of, definition_of}
use Rattle.goal_tables.specs.declared.rows.DefRow.{DefRow}
use Rattle.goal_tables.specs.declared.rows.DefValue.{DefValue}
use Rattle.goal_tables.specs.declared.rows.DefValue.TheVariants as value
use Rattle.goal_tables.specs.declared.rows.ImplRow.{ImplRow}
use Rattle.goal_tables.specs.declared.rows.Source.{Source}
use Rattle.goal_tables.specs.declared.rows.Source.TheVariants as item_source
use Rattle.goal_tables.specs.declared.rows.SourceRow.{SourceRow}
use Rattle.goal_lists.specs.Entries.{Entry, arguments, followed_by, row_clauses, undecided, ambiguous}
use Rattle.goal_lists.specs.Headers.{under, AllKnown, Fits, Clashes}
use Rattle.goal_lists.specs.ImplTerms.{Said, an_error, the_alias, not_said, said_by_value, said_by_definition, said_by_source, said_by_row, said, Projection, own_args, error_term, header_under, OtherImplHolds, OtherImplKnown, OtherImplRefuted, Taken, from_projection, from_impl, from_other, taken, Translated, KnownTranslated, TranslationRefuted, SaidGives, SaidRefuted, the_alias_unless}
use Rattle.goal_lists.specs.Level.{Level, HasHeadForm, HeadFormRefuted}
use Rattle.goal_lists.specs.Premises.{PremisesHold, PremisesRefuted, clauses_under}
use Rattle.goal_lists.specs.ProjectionLists.{standing, definition_value, other_impl_entries, taken_entries, rigid_entries, value_entries, definition_entries, default_entries, source_entries, said_by_row_entries, said_entries}
use Rattle.goal_lists.specs.Settings.{Setting, is_headline, takes_defaults, is_coherence, hides_defaults}
use Rattle.goal_lists.specs.TraitGoals.{header_of}
use Rattle.goal_lists.specs.Words.{OfRow}
use Rattle.goal_lists.proofs.ListEntries.{EntriesSay, says-same, followed-says, other-says, row_clauses-say, fault-says, standing-says, value-says, undecided-says, access-says, ambiguous-says}

-- a value under arguments has a head form, or has none; a constant to be evaluated has neither
abbrev FormOfValue : Level → DefValue → List Tree → Tree → Type 0
FormOfValue L (value.Term e) args u = HasHeadForm L (under args (tree_of_term e)) u
FormOfValue L value.Missing args u = ⊥
FormOfValue L value.Evaluated args u = ⊥

abbrev NoFormOfValue : Level → DefValue → List Tree → Type 0
NoFormOfValue L (value.Term e) args = HeadFormRefuted L (under args (tree_of_term e))
NoFormOfValue L value.Missing args = ⊥
NoFormOfValue L value.Evaluated args = ⊥

-- what is so of one list of arguments is so of some list that is that one
at-one : (a : List Tree) (C : List Tree → Type 0) → C a ↔ ((args : List Tree) × (args ≡ a) × C args)
at-one a C = (λ h. (a, refl, h), λ h. subst C h.1 h.2)

-- or, where that alone is refuted
refuted-at_one : (a : List Tree) (C : List Tree → Type 0) → C a ↔ (⊥ ⊎ ((args : List Tree) × (args ≡ a) × C args))
refuted-at_one a C = (λ h. inr (a, refl, h), λ h. ⊎_elim (λ x. absurd x) (λ x. subst C x.1 x.2) h)

module _ (L : Level) (r : ImplRow) (s : List Tree) (p : Projection) where
  -- the value of a definition
  definition_value-says : (named : List (List Tree)) (v : DefValue) (n : ℕ) (a : List Tree) → slice_get named n ≡ Some a →
      EntriesSay L named (definition_value v n ∷ []) (FormOfValue L v a) (NoFormOfValue L v a)
  definition_value-says named (value.Term e) n a at = value-says L named (tree_of_term e) n a at
  definition_value-says named value.Missing n a at = undecided-says L named
  definition_value-says named value.Evaluated n a at = undecided-says L named

  -- under the arguments of another impl
  other_impl-says : (v : DefValue) (q : ImplRow) →
      EntriesSay L (s ∷ p.args ∷ []) (other_impl_entries r p v q)
      (λ u. (z : List Tree) × Fits L q.params.items (header_of q) (header_under r s) z
      × (PremisesHold L (clauses_under z q.predicates.items) × FormOfValue L v (z ++ own_args p) u))
      (Clashes L q.params.items (header_of q) (header_under r s)
      ⊎ ((z : List Tree) × AllKnown L q.params.items (header_of q) (header_under r s) z
      × (PremisesRefuted L (clauses_under z q.predicates.items) ⊎ NoFormOfValue L v (z ++ own_args p))))
  other_impl-says v q =
      other-says L (s ∷ p.args ∷ []) q.params.items (trees_of q.trait_args.items) (trees_of r.trait_args.items) 0 s
      (row_clauses q.predicates.items 2 ∷ arguments (followed_by 2 (own_args p)) ∷ definition_value v 3 ∷ []) _ _ refl
      (λ z. row_clauses-say L (s ∷ p.args ∷ z ∷ []) q.predicates.items 2 z (arguments (followed_by 2 (own_args p)) ∷ definition_value v 3 ∷ []) _ _ refl
      (followed-says L (s ∷ p.args ∷ z ∷ []) 2 z (own_args p) (definition_value v 3 ∷ []) _ _ refl
      (definition_value-says (s ∷ p.args ∷ z ∷ (z ++ own_args p) ∷ []) v 3 (z ++ own_args p) refl)))

  -- a value under the arguments that its definition takes
  taken-says : (v : DefValue) (x : Taken) →
      EntriesSay L (s ∷ p.args ∷ []) (taken_entries r p v x)
      (λ u. (args : List Tree) × Translated L r s p x args × FormOfValue L v args u)
      (TranslationRefuted L r s x ⊎ ((args : List Tree) × KnownTranslated L r s p x args × NoFormOfValue L v args))
  unfolding taken_entries Translated KnownTranslated TranslationRefuted OtherImplHolds OtherImplKnown OtherImplRefuted OfRow
  taken-says v from_projection =
      says-same L (s ∷ p.args ∷ []) (definition_value v 1 ∷ []) (λ u. at-one p.args (λ a. FormOfValue L v a u)) (refuted-at_one p.args (NoFormOfValue L v))
      (definition_value-says (s ∷ p.args ∷ []) v 1 p.args refl)
  taken-says v from_impl =
      says-same L (s ∷ p.args ∷ []) (arguments (followed_by 0 (own_args p)) ∷ definition_value v 2 ∷ [])
      (λ u. at-one (s ++ own_args p) (λ a. FormOfValue L v a u)) (refuted-at_one (s ++ own_args p) (NoFormOfValue L v))
      (followed-says L (s ∷ p.args ∷ []) 0 s (own_args p) (definition_value v 2 ∷ []) _ _ refl
      (definition_value-says (s ∷ p.args ∷ (s ++ own_args p) ∷ []) v 2 (s ++ own_args p) refl))
  taken-says v (from_other None) =
      says-same L (s ∷ p.args ∷ []) _ (λ u. (λ h. absurd h, λ h. absurd h.1)) (λ h. absurd h, λ h. ⊎_elim (λ x. absurd x) (λ x. absurd x.1) h)
      (undecided-says L (s ∷ p.args ∷ []))
  taken-says v (from_other (Some q)) =
      says-same L (s ∷ p.args ∷ []) (other_impl_entries r p v q)
      (λ u. (
        λ h. (h.0 ++ own_args p, (h.0, h.1, h.2.0, refl), h.2.1),
        λ h. (h.1.0, h.1.1, (h.1.2, subst (λ a. FormOfValue L v a u) h.1.3 h.2)),
      )) (
        λ h. ⊎_elim (λ x. inl (inl x))
            (λ x. ⊎_elim (λ y. inl (inr (x.0, x.1, y))) (λ y. inr (x.0 ++ own_args p, (x.0, x.1, refl), y)) x.2) h,
        λ h. ⊎_elim (λ x. ⊎_elim (λ y. inl y) (λ y. inr (y.0, y.1, inl y.2)) x)
            (λ x. inr (x.1.0, x.1.1, inr (subst (NoFormOfValue L v) x.1.2 x.2))) h,
      )
      (other_impl-says v q)

-- what is said of an item
abbrev SaysSaid : Setting → Level → ImplRow → List Tree → Projection → Tree → Said → List Entry → Type 0
SaysSaid S L r s p itself x es = EntriesSay L (s ∷ p.args ∷ []) es (SaidGives S L r s p itself x) (SaidRefuted S L r s p x)

-- in a headline mode an alias may stay as it is
pub rigid-stands : (m : TypingMode) → is_headline m ≡ true → (itself : Tree) → rigid_entries m itself ≡ standing itself
rigid-stands mode.Coherence e itself = absurd (false≢true e)
rigid-stands (mode.Analysis ids) e itself = refl
rigid-stands (mode.Borrowck ids) e itself = refl
rigid-stands (mode.PostBorrowckAnalysis ids) e itself = refl
rigid-stands mode.PostAnalysis e itself = refl
rigid-stands mode.ErasedNotCoherence e itself = absurd (false≢true e)

module _ (S : Setting) (L : Level) (r : ImplRow) (s : List Tree) (p : Projection) (itself : Tree) where
  -- the alias as it stands, and an error
  alias-said : SaysSaid S L r s p itself the_alias (standing itself)
  unfolding SaidGives SaidRefuted
  alias-said = standing-says L (s ∷ p.args ∷ []) itself

  error-said : (n : ℕ) → SaysSaid S L r s p itself (an_error n) (standing (error_term p.item.is_const n))
  unfolding SaidGives SaidRefuted
  error-said n = standing-says L (s ∷ p.args ∷ []) (error_term p.item.is_const n)

  nothing-said : SaysSaid S L r s p itself not_said (undecided ∷ [])
  unfolding SaidGives SaidRefuted
  nothing-said = undecided-says L (s ∷ p.args ∷ [])

  -- an entry that decides nothing
  nothing-ambiguous : SaysSaid S L r s p itself not_said (ambiguous ∷ [])
  unfolding SaidGives SaidRefuted
  nothing-ambiguous = ambiguous-says L (s ∷ p.args ∷ [])

  -- the alias as it stands, but where the mode leaves that open
  rigid-said : (m : TypingMode) → SaysSaid S L r s p itself (the_alias_unless (is_coherence m)) (rigid_entries m itself)
  rigid-said mode.Coherence = nothing-ambiguous
  rigid-said (mode.Analysis ids) = alias-said
  rigid-said (mode.Borrowck ids) = alias-said
  rigid-said (mode.PostBorrowckAnalysis ids) = alias-said
  rigid-said mode.PostAnalysis = alias-said
  rigid-said mode.ErasedNotCoherence = alias-said

  -- a default, by the mode
  default-said : (m : TypingMode) (x : Said) (es : List Entry) → SaysSaid S L r s p itself x es →
      SaysSaid S L r s p itself (if not (takes_defaults m) then the_alias_unless (hides_defaults m) else x) (default_entries m es itself)
  default-said mode.Coherence x es f = nothing-ambiguous
  default-said (mode.Analysis ids) x es f = alias-said
  default-said (mode.Borrowck ids) x es f = alias-said
  default-said (mode.PostBorrowckAnalysis ids) x es f = alias-said
  default-said mode.PostAnalysis x es f = f
  default-said mode.ErasedNotCoherence x es f = access-says L (s ∷ p.args ∷ []) Always (undecided ∷ []) _ _ nothing-said

  -- one of two, by a test
  either-said : (b : Bool) (x y : Said) (es zs : List Entry) → SaysSaid S L r s p itself x es → SaysSaid S L r s p itself y zs →
      SaysSaid S L r s p itself (if b then x else y) (if b then es else zs)
  either-said true x y es zs f g = f
  either-said false x y es zs f g = g

  -- a definition
  value-said : (d : DefRow) (v : DefValue) → SaysSaid S L r s p itself (said_by_value S.mode r d v) (value_entries S r p itself d v)
  unfolding SaidGives SaidRefuted
  value-said d value.Missing =
      either-said r.guaranteed_unsized (the_alias_unless (is_coherence S.mode)) (an_error d.id.0) (rigid_entries S.mode itself) _ (rigid-said S.mode)
      (fault-says L (s ∷ p.args ∷ []) (MissingItem d.id) (standing (error_term p.item.is_const d.id.0)) _ _ (error-said d.id.0))
  value-said d (value.Term e) = taken-says L r s p (value.Term e) (taken S r d.container)
  value-said d value.Evaluated =
      says-same L (s ∷ p.args ∷ []) (taken_entries r p value.Evaluated (taken S r d.container)) (λ u. (λ h. h.2, λ h. absurd h))
      (λ h. ⊎_elim (λ x. x) (λ x. absurd x.2) h, λ h. inl h)
      (taken-says L r s p value.Evaluated (taken S r d.container))

  definition-said : (o : Option DefRow) → SaysSaid S L r s p itself (said_by_definition S.mode r o) (definition_entries S r p itself o)
  definition-said None = nothing-said
  definition-said (Some d) = value-said d d.value

  -- a source
  source-said : (x : Source) → SaysSaid S L r s p itself (said_by_source S r x) (source_entries S r p itself x)
  source-said (item_source.Broken n) = error-said n
  source-said (item_source.Def d true) =
      default-said S.mode (said_by_definition S.mode r (definition_of S.tables d)) (definition_entries S r p itself (definition_of S.tables d)) (definition-said (definition_of S.tables d))
  source-said (item_source.Def d false) = definition-said (definition_of S.tables d)

  row-said : (o : Option SourceRow) → SaysSaid S L r s p itself (said_by_row S r o) (said_by_row_entries S r p itself o)
  row-said None = nothing-said
  row-said (Some q) = source-said q.source

  -- what an impl says
  pub impl-said : SaysSaid S L r s p itself (said S r p.item) (said_entries S r p itself)
  unfolding said said_entries
  impl-said = row-said (source_of S.tables r.id p.item.id)
