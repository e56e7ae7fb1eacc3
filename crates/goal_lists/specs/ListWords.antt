-- Words on what the functions that make lists give over a table of terms.
use Rattle.std.specs.Prelude.{◌≡◌, ◌∷◌, List, Option, Result, Vec, IfOk, map}
use Rattle.std.specs.Global.{Global}
use Rattle.goal_terms.specs.Tree.{Tree, alias, forest}
use Rattle.goal_terms.specs.declared.ids.DefId.{DefId}
use Rattle.goal_terms.specs.declared.ids.OpaqueId.{OpaqueId}
use Rattle.goal_terms.specs.declared.modes.TypingMode.{TypingMode}
use Rattle.goal_terms.specs.declared.predicates.Clause.{Clause}
use Rattle.goal_interner.specs.declared.term_nodes.TermId.{TermId}
use Rattle.goal_terms.specs.declared.terms.AliasTermKind.{AliasTermKind}
use Rattle.goal_tables.specs.Rows.{definition_of, opaque_of}
use Rattle.goal_tables.specs.declared.rows.DefRow.{DefRow}
use Rattle.goal_tables.specs.declared.rows.ImplRow.{ImplRow}
use Rattle.goal_tables.specs.declared.rows.OpaqueRow.{OpaqueRow}
use Rattle.goal_tables.specs.declared.rows.Tables.{Tables}
use Rattle.goal_lists.specs.AliasLists.{entries_of_row, hidden_list, defined_list, opaque_list}
use Rattle.goal_lists.specs.Builtins.{Listed, term_rule}
use Rattle.goal_lists.specs.Entries.{Entry, arguments, given_arguments, row_clauses, evaluation}
use Rattle.goal_lists.specs.ImplTerms.{Projection, trait_args, taken}
use Rattle.goal_lists.specs.Candidates.{Candidate}
use Rattle.goal_lists.specs.Interned.{erased_at, erased_all, trait_at, candidate_at}
use Rattle.goal_lists.specs.InternedEntries.{entries_at, list_at, setting_at, projection_at}
use Rattle.goal_lists.specs.OpaqueUses.{first_use_of}
use Rattle.goal_lists.specs.Premises.{TraitTree}
use Rattle.goal_lists.specs.ProjectionLists.{standing, default_entries, taken_entries}
use Rattle.goal_lists.specs.Settings.{Setting}
use Rattle.goal_lists.specs.TraitLists.{impl_match}
use Rattle.goal_lists.specs.declared.candidates.interned.InternedCandidate.{InternedCandidate}
use Rattle.goal_lists.specs.declared.candidates.interned.InternedTrait.{InternedTrait}
use Rattle.goal_lists.specs.declared.lists.AskedProjection.{AskedProjection}
use Rattle.goal_lists.specs.declared.lists.FirstUse.{FirstUse}
use Rattle.goal_lists.specs.declared.lists.InternedEntry.{InternedEntry}
use Rattle.goal_lists.specs.declared.lists.ListSetting.{ListSetting}

-- unless memory is wanting, a function gives the entries that a setting with any environment has
abbrev pub GivesEntries : {E : Type 0} → List Tree → ListSetting → Result (Vec InternedEntry Global) E → (Setting → List Entry) → Type 0
GivesEntries T S result f = (env : List Clause) → IfOk result (λ es. entries_at T es.items ≡ f (setting_at S env))

-- or the list, or none if that is refused
abbrev pub GivesList : {E : Type 0} → List Tree → ListSetting → Result (Option (Vec InternedEntry Global)) E → (Setting → Option (List Entry)) → Type 0
GivesList T S result f = (env : List Clause) → IfOk result (λ o. list_at T o ≡ f (setting_at S env))

-- what is made of a projection that is asked, and of its alias
abbrev pub asked_at : {A : Type 0} → List Tree → AskedProjection → (Projection → Tree → A) → A
asked_at T p f = f (projection_at T p) (erased_at T p.rigid_alias)

-- what is made of arguments and of a candidate
abbrev pub given_at : {A : Type 0} → List Tree → List TermId → InternedCandidate → (List Tree → Candidate → A) → A
given_at T ids c f = f (erased_all T ids) (candidate_at T c)

-- what built-in rules say of the item of a projection that is asked
abbrev pub asked_term_rule : List Tree → Tables → AskedProjection → Listed
asked_term_rule T t p = term_rule t p.item.now.id (erased_all T p.args.now)

-- the entries of an impl for a projection that is asked, with those of what it says of the item
abbrev pub asked_impl_entries : List Tree → ImplRow → AskedProjection → List Entry → List Entry
asked_impl_entries T r p es =
    impl_match r (trait_args (projection_at T p)) (evaluation ∷ arguments (given_arguments (erased_all T p.args.now)) ∷ row_clauses p.item.now.own_predicates.items 1 ∷ es)

-- a default of an item, by the typing mode, for what its definition says and its alias
abbrev pub default_of : ListSetting → DefId → (Option DefRow → List Entry) → Tree → List Entry
default_of S i f itself = default_entries S.mode.now (f (definition_of S.rows.now i)) itself

-- what a definition says of the item, under the arguments that it takes
abbrev pub definition_taken : Setting → ImplRow → Projection → DefRow → List Entry
definition_taken S r p d = taken_entries r p d.value (taken S r d.container)

-- some traits with their arguments
abbrev pub traits_at : List Tree → List InternedTrait → List TraitTree
traits_at T rs = map (trait_at T) rs

-- for all tables of terms where a number is an alias with arguments of numbers, and for all environments
abbrev pub ForAliasAt : ListSetting → TermId → AliasTermKind → List TermId → (List Tree → Setting → List Tree → Type 0) → Type 0
ForAliasAt S id k args P = (T : List Tree) (env : List Clause) → erased_at T id ≡ alias k (forest (erased_all T args)) → P T (setting_at S env) (erased_all T args)

-- the entries of an opaque type with its row, whose alias is a term
abbrev pub opaque_entries : TypingMode → OpaqueRow → OpaqueId → List Tree → Tree → List Entry
opaque_entries m r i args itself = opaque_list m r (defined_list i args r) (hidden_list args r) (standing itself)

-- what the first use of an alias takes as its hidden type, in the mode of a setting
abbrev pub first_use_in : ListSetting → AliasTermKind → Option FirstUse
first_use_in S k = first_use_of S.rows.now S.mode.now k

-- unless memory is wanting, a function gives the entries that an opaque type's row has, if there is one
abbrev pub GivesOfOpaque : {E : Type 0} → List Tree → ListSetting → OpaqueId → Result (Vec InternedEntry Global) E → (OpaqueRow → List Entry) → Type 0
GivesOfOpaque T S i result f = IfOk result (λ es. entries_at T es.items ≡ entries_of_row (opaque_of S.rows.now i) f)
