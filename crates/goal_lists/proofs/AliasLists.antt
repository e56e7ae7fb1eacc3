-- The list of each alias that is no projection says what the alias does.
use Rattle.std.proofs.Common.{◌≡◌, ◌↔◌, ◌⊎◌, ℕ, Bool, true, false, List, [], ◌∷◌, ◌++◌, Option, Some, None, if◌then◌else◌, refl}
use Rattle.std.specs.Prelude.{slice_get}
use Rattle.goal_terms.specs.Tree.{Tree, alias, forest}
use Rattle.goal_terms.specs.TreeOf.{tree_of_ty, tree_of_term}
use Rattle.goal_terms.specs.declared.ids.OpaqueId.{OpaqueId}
use Rattle.goal_terms.specs.declared.modes.TypingMode.{TypingMode}
use Rattle.goal_terms.specs.declared.modes.TypingMode.TheVariants as mode
use Rattle.goal_terms.specs.declared.terms.AliasTermKind.{AliasTermKind}
use Rattle.goal_terms.specs.declared.terms.AliasTermKind.TheVariants.{ProjectionTy, ProjectionConst, InherentTy, InherentConst, OpaqueTy, FreeTy, FreeConst, UnevaluatedConst}
use Rattle.goal_terms.specs.declared.predicates.Clause.{Clause}
use Rattle.goal_terms.specs.declared.terms.Term.{Term}
use Rattle.goal_tables.specs.Rows.{free_of, inherent_of, inherent_impl_of, opaque_of}
use Rattle.goal_tables.specs.declared.rows.FreeRow.{FreeRow}
use Rattle.goal_tables.specs.declared.rows.InherentImplRow.{InherentImplRow}
use Rattle.goal_tables.specs.declared.rows.InherentRow.{InherentRow}
use Rattle.goal_tables.specs.declared.rows.OpaqueRow.{OpaqueRow}
use Rattle.goal_lists.specs.Aliases.{AliasGives, AliasRefuted, ValueGives, ValueRefuted, FreeGives, FreeRefuted, InherentGives, InherentRefuted, InherentAliasGives, InherentAliasRefuted, OpaqueGives, OpaqueRefuted}
use Rattle.goal_lists.specs.AliasLists.{row_value, entries_of_row, free_list, inherent_list, inherent_alias_list, defined_list, hidden_list, opaque_list, opaque_alias_list, alias_list}
use Rattle.goal_lists.specs.Entries.{ListGives, ListRefuted, Entry, arguments, followed_by, row_clauses, expected, hidden_type, value_under}
use Rattle.goal_lists.specs.HiddenTypes.{HiddenGives, HiddenRefuted}
use Rattle.goal_lists.specs.Level.{Level}
use Rattle.goal_lists.specs.Premises.{PremisesHold, PremisesRefuted, clauses_under}
use Rattle.goal_lists.specs.ProjectionLists.{standing}
use Rattle.goal_lists.specs.Projections.{projected_item}
use Rattle.goal_lists.specs.OpaqueUses.{access_to}
use Rattle.goal_lists.specs.Settings.{Setting, leaves_open, takes_checked, reveals, among}
use Rattle.goal_lists.specs.Words.{OfRow, Either}
use Rattle.goal_lists.specs.declared.lists.FirstUse.{FirstUse}
use Rattle.goal_lists.specs.declared.lists.FirstUse.TheVariants as first
use Rattle.goal_lists.proofs.EntryLemmas.{iff-same}
use Rattle.goal_lists.proofs.ListEntries.{EntriesSay, say-gives, say-refuted, says-same, given-says, followed-says, header-says, row_clauses-say, standing-says, value-says, undecided-says, access-says, ambiguous-says, hidden_type-says}

-- the value of a row that may lack it
row_value-says : (L : Level) (named : List (List Tree)) (n : ℕ) (s : List Tree) (o : Option Term) → slice_get named n ≡ Some s →
    EntriesSay L named (row_value o n ∷ []) (ValueGives L s o) (ValueRefuted L s o)
unfolding ValueGives ValueRefuted
row_value-says L named n s None at = undecided-says L named
row_value-says L named n s (Some e) at = value-says L named (tree_of_term e) n s at

-- a row that may be missing
row-says : {A : Type 0} (L : Level) (o : Option A) (f : A → List Entry) (P : A → Tree → Type 0) (R : A → Type 0) →
    ((r : A) → EntriesSay L [] (f r) (P r) (R r)) → EntriesSay L [] (entries_of_row o f) (λ u. OfRow o (λ r. P r u)) (OfRow o R)
unfolding entries_of_row OfRow
row-says L None f P R says = undecided-says L []
row-says L (Some r) f P R says = says r

-- a free alias
free-says : (L : Level) (args : List Tree) (r : FreeRow) → EntriesSay L [] (free_list args r) (λ u. FreeGives L args u r) (FreeRefuted L args r)
unfolding FreeGives FreeRefuted
free-says L args r =
    given-says L [] args (row_clauses r.predicates.items 0 ∷ row_value r.value 0 ∷ []) _ _
    (row_clauses-say L (args ∷ []) r.predicates.items 0 args (row_value r.value 0 ∷ []) _ _ refl (row_value-says L (args ∷ []) 0 args r.value refl))

-- an inherent alias
inherent-says : (L : Level) (self : Tree) (own : List Tree) (r : InherentRow) (q : InherentImplRow) →
    EntriesSay L [] (inherent_list self own r q) (λ u. InherentGives L self own u r q) (InherentRefuted L self own r q)
unfolding InherentGives InherentRefuted
inherent-says L self own r q =
    says-same L [] (inherent_list self own r q) (λ u. (λ h. (h.0, h.1, h.2.0, h.2.1), λ h. (h.0, h.1, (h.2, h.3)))) iff-same
    (header-says L [] q.params.items (tree_of_ty q.self_ty ∷ []) (self ∷ []) (arguments (followed_by 0 own) ∷ row_clauses r.predicates.items 1 ∷ row_value r.value 1 ∷ [])
    (λ s u. PremisesHold L (clauses_under (s ++ own) r.predicates.items) × ValueGives L (s ++ own) r.value u)
    (λ s. PremisesRefuted L (clauses_under (s ++ own) r.predicates.items) ⊎ ValueRefuted L (s ++ own) r.value)
    (λ s. followed-says L (s ∷ []) 0 s own (row_clauses r.predicates.items 1 ∷ row_value r.value 1 ∷ []) _ _ refl
    (row_clauses-say L (s ∷ (s ++ own) ∷ []) r.predicates.items 1 (s ++ own) (row_value r.value 1 ∷ []) _ _ refl
    (row_value-says L (s ∷ (s ++ own) ∷ []) 1 (s ++ own) r.value refl))))

inherent_alias-says : (S : Setting) (L : Level) (r : Option InherentRow) (args : List Tree) →
    EntriesSay L [] (inherent_alias_list S r args) (InherentAliasGives S L r args) (InherentAliasRefuted S L r args)
unfolding inherent_alias_list InherentAliasGives InherentAliasRefuted
inherent_alias-says S L r [] = undecided-says L []
inherent_alias-says S L r (self ∷ own) =
    row-says L r (λ i. entries_of_row (inherent_impl_of S.tables i.impl_id) (inherent_list self own i))
    (λ i u. OfRow (inherent_impl_of S.tables i.impl_id) (InherentGives L self own u i))
    (λ i. OfRow (inherent_impl_of S.tables i.impl_id) (InherentRefuted L self own i))
    (λ i. row-says L (inherent_impl_of S.tables i.impl_id) (inherent_list self own i) (λ q u. InherentGives L self own u i q) (InherentRefuted L self own i)
    (λ q. inherent-says L self own i q))

-- one of two lists, by a test
either-says : (L : Level) (b : Bool) (es zs : List Entry) (P Q : Tree → Type 0) (R T : Type 0) → EntriesSay L [] es P R → EntriesSay L [] zs Q T →
    EntriesSay L [] (if b then es else zs) (λ u. Either b (P u) (Q u)) (Either b R T)
unfolding Either
either-says L true es zs P Q R T f g = f
either-says L false es zs P Q R T f g = g

-- what a mode makes of an opaque type: its list says nothing where the mode leaves the type open
by_mode-says : (m : TypingMode) (L : Level) (r : OpaqueRow) (defined : FirstUse → List Entry) (revealed itself : List Entry) (C P Q : Tree → Type 0) (B R : Type 0) →
    EntriesSay L [] (defined first.Expected) (λ u. ⊥) ⊥ → EntriesSay L [] (defined first.TypeChecked) C B → EntriesSay L [] revealed P R → EntriesSay L [] itself Q ⊥ →
    EntriesSay L [] (opaque_list m r defined revealed itself) (λ u. Either (leaves_open m r) ⊥ (Either (takes_checked m r) (C u) (Either (reveals m r) (P u) (Q u))))
    (Either (leaves_open m r) ⊥ (Either (takes_checked m r) B (Either (reveals m r) R ⊥)))
unfolding opaque_list Either
by_mode-says mode.Coherence L r defined revealed itself C P Q B R d e f g = ambiguous-says L []
by_mode-says (mode.Analysis ids) L r defined revealed itself C P Q B R d e f g = either-says L (among ids.items r) _ _ _ _ _ _ d g
by_mode-says (mode.Borrowck ids) L r defined revealed itself C P Q B R d e f g = either-says L (among ids.items r) _ _ _ _ _ _ e g
by_mode-says (mode.PostBorrowckAnalysis ids) L r defined revealed itself C P Q B R d e f g = either-says L (among ids.items r) _ _ _ _ _ _ f g
by_mode-says mode.PostAnalysis L r defined revealed itself C P Q B R d e f g = f
by_mode-says mode.ErasedNotCoherence L r defined revealed itself C P Q B R d e f g = access-says L [] (access_to r) itself _ _ g

-- before type checking a hidden type says nothing
unknown-says : (L : Level) (i : OpaqueId) (args : List Tree) (t : Tree) (bounds : List Clause) → EntriesSay L [] (expected (hidden_type i args first.Expected t bounds) ∷ []) (λ u. ⊥) ⊥
unfolding HiddenGives HiddenRefuted
unknown-says L i args t bounds = let says = hidden_type-says L [] i args first.Expected t bounds in record { gives = says.gives; refuted = says.refuted }

-- an opaque type
opaque-says : (S : Setting) (L : Level) (i : OpaqueId) (args : List Tree) (r : OpaqueRow) →
    EntriesSay L [] (opaque_alias_list S i args r) (λ u. OpaqueGives S L i args u r) (OpaqueRefuted S L args r)
unfolding OpaqueGives OpaqueRefuted
opaque-says S L i args r =
    let itself = alias (OpaqueTy i) (forest args) in
    by_mode-says S.mode L r (defined_list i args r) (hidden_list args r) (standing itself) _ _ _ _ _ (unknown-says L i args (tree_of_ty r.typeck_hidden) r.bounds.items)
    (hidden_type-says L [] i args first.TypeChecked (tree_of_ty r.typeck_hidden) r.bounds.items)
    (given-says L [] args (expected (value_under (tree_of_ty r.hidden) 0) ∷ []) _ _ (value-says L (args ∷ []) (tree_of_ty r.hidden) 0 args refl))
    (standing-says L [] itself)

-- each alias that is no projection
module _ (S : Setting) (L : Level) where
  alias_list-says : (k : AliasTermKind) (args : List Tree) → projected_item k ≡ None → EntriesSay L [] (alias_list S k args) (AliasGives S L k args) (AliasRefuted S L k args)
  unfolding alias_list AliasGives AliasRefuted
  alias_list-says (InherentTy i) args e = inherent_alias-says S L (inherent_of S.tables i) args
  alias_list-says (InherentConst i) args e = inherent_alias-says S L (inherent_of S.tables i) args
  alias_list-says (OpaqueTy i) args e =
      row-says L (opaque_of S.tables i) (opaque_alias_list S i args) (λ r u. OpaqueGives S L i args u r) (OpaqueRefuted S L args) (opaque-says S L i args)
  alias_list-says (FreeTy i) args e = row-says L (free_of S.tables i) (free_list args) (λ r u. FreeGives L args u r) (FreeRefuted L args) (free-says L args)
  alias_list-says (FreeConst i) args e = row-says L (free_of S.tables i) (free_list args) (λ r u. FreeGives L args u r) (FreeRefuted L args) (free-says L args)
  alias_list-says (UnevaluatedConst n) args e = undecided-says L []
  alias_list-says (ProjectionTy i) args e = absurd (cc)
  alias_list-says (ProjectionConst i) args e = absurd (cc)

  pub alias_list-gives : (k : AliasTermKind) (args : List Tree) → projected_item k ≡ None → (t : Tree) → ListGives L (Some (alias_list S k args)) t ↔ AliasGives S L k args t
  alias_list-gives k args e t = say-gives (alias_list-says k args e) t

  pub alias_list-refuted : (k : AliasTermKind) (args : List Tree) → projected_item k ≡ None → ListRefuted L (Some (alias_list S k args)) ↔ AliasRefuted S L k args
  alias_list-refuted k args e = say-refuted (alias_list-says k args e)
