-- A list of the erased mode is that of each headline mode as far as it reads no mode.
use Rattle.std.proofs.Common.{◌≡◌, true, false, List, [], ◌∷◌, Option, Some, None, inl, inr, refl, sym, subst}
use Rattle.goal_terms.specs.Tree.{Tree}
use Rattle.goal_terms.specs.declared.ids.OpaqueId.{OpaqueId}
use Rattle.goal_terms.specs.declared.modes.TypingMode.{TypingMode}
use Rattle.goal_terms.specs.declared.modes.TypingMode.TheVariants as mode
use Rattle.goal_terms.specs.declared.terms.AliasTermKind.{AliasTermKind}
use Rattle.goal_terms.specs.declared.terms.AliasTermKind.TheVariants.{ProjectionTy, ProjectionConst, InherentTy, InherentConst, OpaqueTy, FreeTy, FreeConst, UnevaluatedConst}
use Rattle.goal_tables.specs.Rows.{source_of, definition_of, opaque_of, inherent_of}
use Rattle.goal_tables.specs.declared.rows.ImplPolarity.{ImplPolarity}
use Rattle.goal_tables.specs.declared.rows.ImplPolarity.TheVariants as polarity
use Rattle.goal_tables.specs.declared.rows.ImplRow.{ImplRow}
use Rattle.goal_tables.specs.declared.rows.OpaqueRow.{OpaqueRow}
use Rattle.goal_tables.specs.declared.rows.Source.{Source}
use Rattle.goal_tables.specs.declared.rows.Source.TheVariants as item_source
use Rattle.goal_tables.specs.declared.rows.SourceRow.{SourceRow}
use Rattle.goal_lists.specs.AliasLists.{entries_of_row, opaque_list, opaque_alias_list, alias_list}
use Rattle.goal_lists.specs.Candidates.{Candidate, assumption, implied_bound, by_impl, built_in, error}
use Rattle.goal_lists.specs.Entries.{Entry, arguments, given_arguments, row_clauses, evaluation}
use Rattle.goal_lists.specs.ImplTerms.{Projection, trait_args}
use Rattle.goal_lists.specs.ListModes.{StandsIn, ListStandsIn, in_mode, erased_setting}
use Rattle.goal_lists.specs.ProjectionLists.{source_entries, said_by_row_entries, said_entries, projection_list}
use Rattle.goal_lists.specs.Settings.{Setting, is_headline}
use Rattle.goal_lists.specs.TraitLists.{impl_match, list_by_polarity}
use Rattle.goal_lists.proofs.ListModes.{definition-same, inherent-same}
use Rattle.goal_lists.proofs.ListWords.{reserved-none}

-- each list stands in for itself
pub stands_in-itself : (es : List Entry) → StandsIn es es
unfolding StandsIn
stands_in-itself [] = refl
stands_in-itself (e ∷ es) = inr (es, refl, stands_in-itself es)

pub stands_in-same : (es fs : List Entry) → fs ≡ es → StandsIn es fs
stands_in-same es fs h = subst (StandsIn es) (sym h) (stands_in-itself es)

pub list_stands_in-same : (o q : Option (List Entry)) → q ≡ o → ListStandsIn o q
unfolding ListStandsIn
list_stands_in-same None q h = h
list_stands_in-same (Some es) q h = (es, h, stands_in-itself es)

-- the same entry before lists that do
before : (e : Entry) (es fs : List Entry) → StandsIn es fs → StandsIn (e ∷ es) (e ∷ fs)
unfolding StandsIn
before e es fs h = inr (fs, refl, h)

module _ (S : Setting) (m : TypingMode) (headline : is_headline m ≡ true) where
  -- what an impl says of an item
  module _ (r : ImplRow) (p : Projection) (itself : Tree) where
    source-stands_in : (x : Source) → StandsIn (source_entries (erased_setting S) r p itself x) (source_entries (in_mode S m) r p itself x)
    unfolding StandsIn
    source-stands_in (item_source.Broken n) = stands_in-same (source_entries (erased_setting S) r p itself (item_source.Broken n)) _ refl
    source-stands_in (item_source.Def d true) = inl tt
    source-stands_in (item_source.Def d false) = stands_in-same _ _ (definition-same S m headline r p itself (definition_of S.tables d))

    row-stands_in : (o : Option SourceRow) → StandsIn (said_by_row_entries (erased_setting S) r p itself o) (said_by_row_entries (in_mode S m) r p itself o)
    row-stands_in None = stands_in-same (said_by_row_entries (erased_setting S) r p itself None) _ refl
    row-stands_in (Some q) = source-stands_in q.source

    said-stands_in : StandsIn (said_entries (erased_setting S) r p itself) (said_entries (in_mode S m) r p itself)
    unfolding said_entries
    said-stands_in = row-stands_in (source_of S.tables r.id p.item.id)

    -- all that an impl asks for
    abbrev whole : List Entry → List Entry
    whole es = impl_match r (trait_args p) (evaluation ∷ arguments (given_arguments p.args) ∷ row_clauses p.item.own_predicates.items 1 ∷ es)

    whole-stands_in : (es fs : List Entry) → StandsIn es fs → StandsIn (whole es) (whole fs)
    whole-stands_in es fs h = before _ _ _ (before _ _ _ (before _ _ _ (before _ _ _ (before _ _ _ h))))

    impl-stands_in : (x : ImplPolarity) →
        ListStandsIn (list_by_polarity mode.ErasedNotCoherence x (whole (said_entries (erased_setting S) r p itself))) (list_by_polarity m x (whole (said_entries (in_mode S m) r p itself)))
    unfolding list_by_polarity ListStandsIn
    impl-stands_in polarity.Positive = (whole (said_entries (in_mode S m) r p itself), refl, whole-stands_in _ _ said-stands_in)
    impl-stands_in polarity.Negative = refl
    impl-stands_in polarity.Reservation = reserved-none m headline (whole (said_entries (in_mode S m) r p itself))

  pub projection_list-stands_in : (p : Projection) (itself : Tree) (c : Candidate) → ListStandsIn (projection_list (erased_setting S) p itself c) (projection_list (in_mode S m) p itself c)
  unfolding projection_list
  projection_list-stands_in p itself (assumption q) = list_stands_in-same _ _ refl
  projection_list-stands_in p itself (implied_bound b cs) = list_stands_in-same _ _ refl
  projection_list-stands_in p itself (by_impl r) = impl-stands_in r p itself r.polarity
  projection_list-stands_in p itself built_in = list_stands_in-same _ _ refl
  projection_list-stands_in p itself error = list_stands_in-same _ _ refl

  -- an alias that is no projection
  opaque-stands_in : (i : OpaqueId) (args : List Tree) (o : Option OpaqueRow) →
      StandsIn (entries_of_row o (opaque_alias_list (erased_setting S) i args)) (entries_of_row o (opaque_alias_list (in_mode S m) i args))
  unfolding entries_of_row opaque_list StandsIn
  opaque-stands_in i args None = stands_in-same (entries_of_row None (opaque_alias_list (erased_setting S) i args)) _ refl
  opaque-stands_in i args (Some r) = inl tt

  pub alias_list-stands_in : (k : AliasTermKind) (args : List Tree) → StandsIn (alias_list (erased_setting S) k args) (alias_list (in_mode S m) k args)
  unfolding alias_list
  alias_list-stands_in (InherentTy i) args = stands_in-same _ _ (inherent-same S m headline (inherent_of S.tables i) args)
  alias_list-stands_in (InherentConst i) args = stands_in-same _ _ (inherent-same S m headline (inherent_of S.tables i) args)
  alias_list-stands_in (OpaqueTy i) args = opaque-stands_in i args (opaque_of S.tables i)
  alias_list-stands_in (FreeTy i) args = stands_in-itself _
  alias_list-stands_in (FreeConst i) args = stands_in-itself _
  alias_list-stands_in (UnevaluatedConst n) args = stands_in-itself _
  alias_list-stands_in (ProjectionTy i) args = stands_in-itself _
  alias_list-stands_in (ProjectionConst i) args = stands_in-itself _
