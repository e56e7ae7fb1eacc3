-- What the tables have under the ids that lists name: clauses, conditions, values and headers.
use Rattle.std.specs.Prelude.{ℕ, List, [], ◌∷◌, map, Option, Some, None, Vec}
use Rattle.std.specs.Global.{Global}
use Rattle.std.specs.Option.{option_map, option_and_then}
use Rattle.goal_terms.specs.Erased.{erased}
use Rattle.goal_terms.specs.Tree.{Tree}
use Rattle.goal_terms.specs.TreeOf.{trees_of, tree_of_ty, tree_of_term}
use Rattle.goal_terms.specs.declared.ids.ImplId.{ImplId}
use Rattle.goal_terms.specs.declared.predicates.Clause.{Clause}
use Rattle.goal_terms.specs.declared.predicates.TraitRef.{TraitRef}
use Rattle.goal_terms.specs.declared.terms.GenericArg.{GenericArg}
use Rattle.goal_tables.specs.Rows.{impl_of, item_of, definition_of, free_of, inherent_of, inherent_impl_of, opaque_of}
use Rattle.goal_tables.specs.declared.rows.DefValue.{DefValue}
use Rattle.goal_tables.specs.declared.rows.DefValue.TheVariants as value
use Rattle.goal_tables.specs.declared.rows.ImplRow.{ImplRow}
use Rattle.goal_tables.specs.declared.rows.Tables.{Tables}
use Rattle.goal_lists.specs.Entries.{Arguments, of_header, of_other_header}
use Rattle.goal_lists.specs.declared.lists.RuleHeader.{RuleHeader}
use Rattle.goal_lists.specs.declared.lists.RuleHeader.TheVariants as header
use Rattle.goal_lists.specs.declared.lists.RowClauses.{RowClauses}
use Rattle.goal_lists.specs.declared.lists.RowClauses.TheVariants as clauses
use Rattle.goal_lists.specs.declared.lists.RowValue.{RowValue}
use Rattle.goal_lists.specs.declared.lists.RowValue.TheVariants as of_row

-- arguments as they are given, without lifetimes
abbrev pub given : Vec GenericArg Global → List Tree
given args = map erased (trees_of args.items)

-- the clauses of a row
abbrev pub clauses_in : Tables → RowClauses → Option (List Clause)
clauses_in t (clauses.Impl i) = option_map (λ r. r.predicates.items) (impl_of t i)
clauses_in t (clauses.Item i) = option_map (λ r. r.own_predicates.items) (item_of t i)
clauses_in t (clauses.Free i) = option_map (λ r. r.predicates.items) (free_of t i)
clauses_in t (clauses.Inherent i) = option_map (λ r. r.predicates.items) (inherent_of t i)

-- the const conditions of an impl
abbrev pub conditions_in : Tables → ImplId → Option (List TraitRef)
conditions_in t i = option_map (λ r. r.const_conditions.items) (impl_of t i)

-- the value of a definition, if it has one that is no constant to be evaluated
abbrev pub value_term : DefValue → Option Tree
value_term (value.Term e) = Some (tree_of_term e)
value_term value.Missing = None
value_term value.Evaluated = None

-- the value of a row
abbrev pub value_in : Tables → RowValue → Option Tree
value_in t (of_row.Definition i) = option_and_then (λ d. value_term d.value) (definition_of t i)
value_in t (of_row.Free i) = option_and_then (λ r. option_map tree_of_term r.value) (free_of t i)
value_in t (of_row.Inherent i) = option_and_then (λ r. option_map tree_of_term r.value) (inherent_of t i)
value_in t (of_row.Opaque i) = option_map (λ r. tree_of_ty r.hidden) (opaque_of t i)

-- the arguments of a row's header that is matched with given ones, if the row is there
abbrev pub header_arguments : Tables → RuleHeader → List Tree → Option Arguments
header_arguments t (header.Impl i) gs = option_map (λ r. of_header r.params.items (trees_of r.trait_args.items) gs) (impl_of t i)
header_arguments t (header.InherentImpl i) gs = option_map (λ q. of_header q.params.items (tree_of_ty q.self_ty ∷ []) gs) (inherent_impl_of t i)

-- those of an impl whose header is matched with that of a second one, under the arguments of a number
abbrev pub other_arguments : Option ImplRow → Option ImplRow → ℕ → Option Arguments
other_arguments q r n =
    option_and_then (λ x. option_map (λ y. of_other_header x.params.items (trees_of x.trait_args.items) (trees_of y.trait_args.items) n) r) q
