-- A list of the erased mode that records no access is that of each headline mode.
use Rattle.std.proofs.Common.{◌≡◌, true, false, List, [], ◌∷◌, Option, Some, None, if◌then◌else◌, refl, ap}
use Rattle.goal_terms.specs.Tree.{Tree}
use Rattle.goal_terms.specs.declared.answers.DelayedFault.TheVariants.{MissingItem}
use Rattle.goal_terms.specs.declared.ids.OpaqueId.{OpaqueId}
use Rattle.goal_terms.specs.declared.ids.TraitId.{TraitId}
use Rattle.goal_terms.specs.declared.modes.TypingMode.{TypingMode}
use Rattle.goal_terms.specs.declared.modes.TypingMode.TheVariants as mode
use Rattle.goal_terms.specs.declared.predicates.BoundConstness.{BoundConstness}
use Rattle.goal_terms.specs.declared.terms.AliasTermKind.{AliasTermKind}
use Rattle.goal_terms.specs.declared.terms.AliasTermKind.TheVariants.{ProjectionTy, ProjectionConst, InherentTy, InherentConst, OpaqueTy, FreeTy, FreeConst, UnevaluatedConst}
use Rattle.goal_tables.specs.Rows.{source_of, definition_of, opaque_of}
use Rattle.goal_tables.specs.declared.rows.Container.{Container}
use Rattle.goal_tables.specs.declared.rows.Container.TheVariants as container
use Rattle.goal_tables.specs.declared.rows.DefRow.{DefRow}
use Rattle.goal_tables.specs.declared.rows.DefValue.{DefValue}
use Rattle.goal_tables.specs.declared.rows.DefValue.TheVariants as value
use Rattle.goal_tables.specs.declared.rows.ImplPolarity.{ImplPolarity}
use Rattle.goal_tables.specs.declared.rows.ImplPolarity.TheVariants as polarity
use Rattle.goal_tables.specs.declared.rows.ImplRow.{ImplRow}
use Rattle.goal_tables.specs.declared.rows.InherentRow.{InherentRow}
use Rattle.goal_tables.specs.declared.rows.OpaqueRow.{OpaqueRow}
use Rattle.goal_tables.specs.declared.rows.Source.{Source}
use Rattle.goal_tables.specs.declared.rows.Source.TheVariants as item_source
use Rattle.goal_tables.specs.declared.rows.SourceRow.{SourceRow}
use Rattle.goal_lists.specs.AliasLists.{entries_of_row, inherent_alias_list, opaque_list, opaque_alias_list, alias_list}
use Rattle.goal_lists.specs.Candidates.{Candidate, assumption, implied_bound, by_impl, built_in, error}
use Rattle.goal_lists.specs.EffectLists.{effect_list}
use Rattle.goal_lists.specs.Entries.{Entry, arguments, given_arguments, row_clauses, row_conditions, evaluation, delayed_fault}
use Rattle.goal_lists.specs.ImplTerms.{Projection, trait_args, error_term, taken}
use Rattle.goal_lists.specs.ListModes.{accesses_in, list_accesses, in_mode, erased_setting}
use Rattle.goal_lists.specs.ProjectionLists.{standing, value_entries, definition_entries, taken_entries, source_entries, said_by_row_entries, said_entries, projection_list}
use Rattle.goal_lists.specs.Settings.{Setting, is_headline}
use Rattle.goal_lists.specs.TraitLists.{impl_match, list_by_polarity, trait_list}
use Rattle.goal_lists.proofs.ListWords.{reserved-none}
use Rattle.goal_lists.proofs.SaidLists.{rigid-stands}

-- a list that records an access isn't one without accesses
no_access : {A B : Type 0} {x : A} {xs : List A} → x ∷ xs ≡ [] → B
no_access h = absurd (cc)

-- the list of an impl, by its polarity
pub polarity-same : (m : TypingMode) → is_headline m ≡ true → (x : ImplPolarity) (es : List Entry) → list_by_polarity m x es ≡ list_by_polarity mode.ErasedNotCoherence x es
unfolding list_by_polarity
polarity-same m e polarity.Positive es = refl
polarity-same m e polarity.Negative es = refl
polarity-same m e polarity.Reservation es = reserved-none m e es

-- trait goals and host effect goals don't read the mode
module _ (S : Setting) (m : TypingMode) (headline : is_headline m ≡ true) where
  pub trait_list-stands : (i : TraitId) (args : List Tree) (c : Candidate) → trait_list (in_mode S m) i args c ≡ trait_list (erased_setting S) i args c
  unfolding trait_list
  trait_list-stands i args (assumption p) = refl
  trait_list-stands i args (implied_bound b cs) = refl
  trait_list-stands i args (by_impl r) = polarity-same m headline r.polarity (impl_match r args [])
  trait_list-stands i args built_in = refl
  trait_list-stands i args error = refl

  pub effect_list-stands : (b : BoundConstness) (i : TraitId) (args : List Tree) (c : Candidate) → effect_list (in_mode S m) b i args c ≡ effect_list (erased_setting S) b i args c
  unfolding effect_list
  effect_list-stands b i args (assumption p) = refl
  effect_list-stands b i args (implied_bound t cs) = refl
  effect_list-stands b i args (by_impl r) =
      ap (λ l. if r.is_const then l else None) (polarity-same m headline r.polarity (impl_match r args (row_conditions b r.const_conditions.items 0 ∷ [])))
  effect_list-stands b i args built_in = refl
  effect_list-stands b i args error = refl

  -- what an impl says of an item
  module _ (r : ImplRow) (p : Projection) (itself : Tree) where
    -- whose arguments a definition takes
    taken-same : (c : Container) → taken (in_mode S m) r c ≡ taken (erased_setting S) r c
    unfolding taken
    taken-same (container.Trait i) = refl
    taken-same (container.Impl i) = refl

    value-same : (d : DefRow) (v : DefValue) → value_entries (in_mode S m) r p itself d v ≡ value_entries (erased_setting S) r p itself d v
    value-same d value.Missing =
        ap (λ es. if r.guaranteed_unsized then es else delayed_fault (MissingItem d.id) ∷ standing (error_term p.item.is_const d.id.0)) (rigid-stands m headline itself)
    value-same d (value.Term e) = ap (taken_entries r p (value.Term e)) (taken-same d.container)
    value-same d value.Evaluated = ap (taken_entries r p value.Evaluated) (taken-same d.container)

    pub definition-same : (o : Option DefRow) → definition_entries (in_mode S m) r p itself o ≡ definition_entries (erased_setting S) r p itself o
    definition-same None = refl
    definition-same (Some d) = value-same d d.value

    source-same : (x : Source) → accesses_in (source_entries (erased_setting S) r p itself x) ≡ [] →
        source_entries (in_mode S m) r p itself x ≡ source_entries (erased_setting S) r p itself x
    unfolding accesses_in
    source-same (item_source.Broken n) h = refl
    source-same (item_source.Def d true) h = no_access h
    source-same (item_source.Def d false) h = definition-same (definition_of S.tables d)

    row-same : (o : Option SourceRow) → accesses_in (said_by_row_entries (erased_setting S) r p itself o) ≡ [] →
        said_by_row_entries (in_mode S m) r p itself o ≡ said_by_row_entries (erased_setting S) r p itself o
    row-same None h = refl
    row-same (Some q) h = source-same q.source h

    said-same : accesses_in (said_entries (erased_setting S) r p itself) ≡ [] → said_entries (in_mode S m) r p itself ≡ said_entries (erased_setting S) r p itself
    unfolding said_entries
    said-same h = row-same (source_of S.tables r.id p.item.id) h

    -- all that an impl asks for
    abbrev whole : List Entry → List Entry
    whole es = impl_match r (trait_args p) (evaluation ∷ arguments (given_arguments p.args) ∷ row_clauses p.item.own_predicates.items 1 ∷ es)

    impl-same : (x : ImplPolarity) → list_accesses (list_by_polarity mode.ErasedNotCoherence x (whole (said_entries (erased_setting S) r p itself))) ≡ [] →
        list_by_polarity m x (whole (said_entries (in_mode S m) r p itself)) ≡ list_by_polarity mode.ErasedNotCoherence x (whole (said_entries (erased_setting S) r p itself))
    unfolding list_by_polarity accesses_in
    impl-same polarity.Positive h = ap (λ es. Some (whole es)) (said-same h)
    impl-same polarity.Negative h = refl
    impl-same polarity.Reservation h = reserved-none m headline (whole (said_entries (in_mode S m) r p itself))

  pub projection_list-stands : (p : Projection) (itself : Tree) (c : Candidate) → list_accesses (projection_list (erased_setting S) p itself c) ≡ [] →
      projection_list (in_mode S m) p itself c ≡ projection_list (erased_setting S) p itself c
  unfolding projection_list
  projection_list-stands p itself (assumption q) h = refl
  projection_list-stands p itself (implied_bound b cs) h = refl
  projection_list-stands p itself (by_impl r) h = impl-same r p itself r.polarity h
  projection_list-stands p itself built_in h = refl
  projection_list-stands p itself error h = refl

  -- an alias that is no projection
  pub inherent-same : (o : Option InherentRow) (args : List Tree) → inherent_alias_list (in_mode S m) o args ≡ inherent_alias_list (erased_setting S) o args
  unfolding inherent_alias_list
  inherent-same o [] = refl
  inherent-same o (self ∷ own) = refl

  opaque-same : (i : OpaqueId) (args : List Tree) (o : Option OpaqueRow) → accesses_in (entries_of_row o (opaque_alias_list (erased_setting S) i args)) ≡ [] →
      entries_of_row o (opaque_alias_list (in_mode S m) i args) ≡ entries_of_row o (opaque_alias_list (erased_setting S) i args)
  unfolding entries_of_row opaque_list accesses_in
  opaque-same i args None h = refl
  opaque-same i args (Some r) h = no_access h

  pub alias_list-stands : (k : AliasTermKind) (args : List Tree) → accesses_in (alias_list (erased_setting S) k args) ≡ [] →
      alias_list (in_mode S m) k args ≡ alias_list (erased_setting S) k args
  unfolding alias_list
  alias_list-stands (InherentTy i) args h = inherent-same _ args
  alias_list-stands (InherentConst i) args h = inherent-same _ args
  alias_list-stands (OpaqueTy i) args h = opaque-same i args (opaque_of S.tables i) h
  alias_list-stands (FreeTy i) args h = refl
  alias_list-stands (FreeConst i) args h = refl
  alias_list-stands (UnevaluatedConst n) args h = refl
  alias_list-stands (ProjectionTy i) args h = refl
  alias_list-stands (ProjectionConst i) args h = refl
