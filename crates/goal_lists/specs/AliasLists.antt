-- The lists of free, inherent and opaque aliases.
use Rattle.std.specs.Prelude.{ℕ, List, [], ◌∷◌, Option, Some, None, if◌then◌else◌}
use Rattle.goal_terms.specs.Tree.{Tree, alias, forest}
use Rattle.goal_terms.specs.TreeOf.{tree_of_ty, tree_of_term}
use Rattle.goal_terms.specs.declared.ids.OpaqueId.{OpaqueId}
use Rattle.goal_terms.specs.declared.modes.TypingMode.{TypingMode}
use Rattle.goal_terms.specs.declared.modes.TypingMode.TheVariants as mode
use Rattle.goal_terms.specs.declared.terms.AliasTermKind.{AliasTermKind}
use Rattle.goal_terms.specs.declared.terms.AliasTermKind.TheVariants.{ProjectionTy, ProjectionConst, InherentTy, InherentConst, OpaqueTy, FreeTy, FreeConst, UnevaluatedConst}
use Rattle.goal_terms.specs.declared.terms.Term.{Term}
use Rattle.goal_tables.specs.Rows.{free_of, inherent_of, inherent_impl_of, opaque_of}
use Rattle.goal_tables.specs.declared.rows.FreeRow.{FreeRow}
use Rattle.goal_tables.specs.declared.rows.InherentImplRow.{InherentImplRow}
use Rattle.goal_tables.specs.declared.rows.InherentRow.{InherentRow}
use Rattle.goal_tables.specs.declared.rows.OpaqueRow.{OpaqueRow}
use Rattle.goal_lists.specs.Entries.{Entry, arguments, given_arguments, of_header, followed_by, row_clauses, expected, hidden_type, value_under, access, ambiguous, undecided}
use Rattle.goal_lists.specs.ProjectionLists.{standing}
use Rattle.goal_lists.specs.OpaqueUses.{access_to}
use Rattle.goal_lists.specs.Settings.{Setting, among}
use Rattle.goal_lists.specs.declared.lists.FirstUse.{FirstUse}
use Rattle.goal_lists.specs.declared.lists.FirstUse.TheVariants as first

-- a row's value under the arguments of a number; a constant that lacks it is undecided
abbrev pub row_value : Option Term → ℕ → Entry
row_value None n = undecided
row_value (Some e) n = expected (value_under (tree_of_term e) n)

-- what a row says, if it is there
unfoldable pub entries_of_row : {A : Type 0} → Option A → (A → List Entry) → List Entry
entries_of_row None f = undecided ∷ []
entries_of_row (Some r) f = f r

-- a free alias: its where clauses are asked for, and its value is the term
abbrev pub free_list : List Tree → FreeRow → List Entry
free_list args r = arguments (given_arguments args) ∷ row_clauses r.predicates.items 0 ∷ row_value r.value 0 ∷ []

-- an inherent alias: the impl's self type is matched with its own, its where clauses are asked for under the impl's arguments and its own, and its value is the term
abbrev pub inherent_list : Tree → List Tree → InherentRow → InherentImplRow → List Entry
inherent_list self own r q =
    arguments (of_header q.params.items (tree_of_ty q.self_ty ∷ []) (self ∷ [])) ∷ arguments (followed_by 0 own) ∷ row_clauses r.predicates.items 1 ∷ row_value r.value 1 ∷ []

unfoldable pub inherent_alias_list : Setting → Option InherentRow → List Tree → List Entry
inherent_alias_list S r [] = undecided ∷ []
inherent_alias_list S r (self ∷ own) = entries_of_row r (λ i. entries_of_row (inherent_impl_of S.tables i.impl_id) (inherent_list self own i))

-- the hidden type of an opaque type
abbrev pub hidden_list : List Tree → OpaqueRow → List Entry
hidden_list args r = arguments (given_arguments args) ∷ expected (value_under (tree_of_ty r.hidden) 0) ∷ []

-- the hidden type of an opaque type that is being defined
abbrev pub defined_list : OpaqueId → List Tree → OpaqueRow → FirstUse → List Entry
defined_list i args r f = expected (hidden_type i args f (tree_of_ty r.typeck_hidden) r.bounds.items) ∷ []

-- an opaque type, by the typing mode: its hidden type, or itself; ambiguous in coherence, its hidden type's entry where it is being defined, and recorded in the erased mode
unfoldable pub opaque_list : TypingMode → OpaqueRow → (FirstUse → List Entry) → List Entry → List Entry → List Entry
opaque_list mode.Coherence r defined revealed itself = ambiguous ∷ []
opaque_list (mode.Analysis ids) r defined revealed itself = if among ids.items r then defined first.Expected else itself
opaque_list (mode.Borrowck ids) r defined revealed itself = if among ids.items r then defined first.TypeChecked else itself
opaque_list (mode.PostBorrowckAnalysis ids) r defined revealed itself = if among ids.items r then revealed else itself
opaque_list mode.PostAnalysis r defined revealed itself = revealed
opaque_list mode.ErasedNotCoherence r defined revealed itself = access (access_to r) ∷ itself

abbrev pub opaque_alias_list : Setting → OpaqueId → List Tree → OpaqueRow → List Entry
opaque_alias_list S i args r = opaque_list S.mode r (defined_list i args r) (hidden_list args r) (standing (alias (OpaqueTy i) (forest args)))

-- the list of an alias that is no projection; nothing decides an unevaluated constant
unfoldable pub alias_list : Setting → AliasTermKind → List Tree → List Entry
alias_list S (InherentTy i) args = inherent_alias_list S (inherent_of S.tables i) args
alias_list S (InherentConst i) args = inherent_alias_list S (inherent_of S.tables i) args
alias_list S (OpaqueTy i) args = entries_of_row (opaque_of S.tables i) (opaque_alias_list S i args)
alias_list S (FreeTy i) args = entries_of_row (free_of S.tables i) (free_list args)
alias_list S (FreeConst i) args = entries_of_row (free_of S.tables i) (free_list args)
alias_list S (UnevaluatedConst n) args = undecided ∷ []
alias_list S (ProjectionTy i) args = undecided ∷ []
alias_list S (ProjectionConst i) args = undecided ∷ []
