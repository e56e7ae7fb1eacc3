-- No fault of terms lies in the rows of accepted tables.
use Rattle.std.proofs.Common.{◌≡◌, Bool, false, ◌==◌, ◌||◌, Some}
use Rattle.std.specs.Prelude.{is_none}
use Rattle.std.specs.List.{list_any}
use Rattle.goal_terms.specs.TreeOf.{tree_of_ty}
use Rattle.goal_terms.specs.declared.ids.AdtId.{AdtId}
use Rattle.goal_terms.specs.declared.ids.ClosureId.{ClosureId}
use Rattle.goal_terms.specs.declared.ids.DefId.{DefId}
use Rattle.goal_terms.specs.declared.ids.FnId.{FnId}
use Rattle.goal_terms.specs.declared.ids.FreeId.{FreeId}
use Rattle.goal_terms.specs.declared.ids.InherentId.{InherentId}
use Rattle.goal_terms.specs.declared.ids.InherentImplId.{InherentImplId}
use Rattle.goal_terms.specs.declared.ids.ItemId.{ItemId}
use Rattle.goal_terms.specs.declared.ids.OpaqueId.{OpaqueId}
use Rattle.goal_tables.specs.Clauses.{lies_in_clauses, lies_in_const_refs}
use Rattle.goal_tables.specs.Faults.{IsChecked, applies, unknown_item, wrong_argument_count, wrong_argument_kind, parameter_out_of_range, infer_in_table, never_const}
use Rattle.goal_tables.specs.RowFaults.{if_unknown, item_scope, with_alias, lies_in_option, lies_in_const_bounds, lies_in_field_info, lies_in_trait, lies_in_item, lies_in_lang, lies_in_impl, lies_in_definition, lies_in_source, lies_in_free, lies_in_opaque, lies_in_inherent_impl, lies_in_inherent, lies_in_adt, lies_in_function, lies_in_closure, lies_in_trait_rows, lies_in_impl_rows, lies_in_alias_rows, lies_in_inherent_rows, lies_in_type_rows, lies_in_rows}
use Rattle.goal_tables.specs.Rows.{trait_of, item_of, definition_of, free_of, inherent_impl_of, inherent_of, opaque_of, adt_of, function_of, closure_of}
use Rattle.goal_tables.specs.Sites.{lies_in}
use Rattle.goal_tables.specs.TraitFaults.{lang_allows_const}
use Rattle.goal_tables.specs.declared.faults.TableFault.TheVariants as fault
use Rattle.goal_tables.specs.declared.rows.AdtRow.{AdtRow}
use Rattle.goal_tables.specs.declared.rows.ClosureRow.{ClosureRow}
use Rattle.goal_tables.specs.declared.rows.DefRow.{DefRow}
use Rattle.goal_tables.specs.declared.rows.FnRow.{FnRow}
use Rattle.goal_tables.specs.declared.rows.FreeRow.{FreeRow}
use Rattle.goal_tables.specs.declared.rows.InherentImplRow.{InherentImplRow}
use Rattle.goal_tables.specs.declared.rows.InherentRow.{InherentRow}
use Rattle.goal_tables.specs.declared.rows.ItemRow.{ItemRow}
use Rattle.goal_tables.specs.declared.rows.OpaqueRow.{OpaqueRow}
use Rattle.goal_tables.specs.declared.rows.Tables.{Tables}
use Rattle.goal_tables.specs.declared.faults.TermFault.{TermFault}
use Rattle.goal_tables.specs.declared.faults.TermFault.TheVariants.{UnknownItem, WrongArgumentCount, WrongArgumentKind, ParameterOutOfRange, InferInTable, NeverConst}
use Rattle.goal_lists.proofs.AcceptedLemmas.{found_fails}
use Rattle.goal_lists.proofs.TableKindLemmas.{both_fail}

-- of tests that all fail each does
pub three_fail : (a b c : Bool) → a || b || c ≡ false → (a ≡ false) × (b ≡ false) × (c ≡ false)
three_fail a b c e = let x : (a || b ≡ false) × (c ≡ false) = both_fail (a || b) c e in ((both_fail a b x.0).0, (both_fail a b x.0).1, x.1)

pub four_fail : (a b c d : Bool) → a || b || c || d ≡ false → (a ≡ false) × (b ≡ false) × (c ≡ false) × (d ≡ false)
four_fail a b c d e =
    let x : (a || b || c ≡ false) × (d ≡ false) = both_fail (a || b || c) d e in
    let y : (a ≡ false) × (b ≡ false) × (c ≡ false) = three_fail a b c x.0 in
    (y.0, y.1, y.2, x.1)

pub five_fail : (a b c d f : Bool) → a || b || c || d || f ≡ false → (a ≡ false) × (b ≡ false) × (c ≡ false) × (d ≡ false) × (f ≡ false)
five_fail a b c d f e =
    let x : (a || b || c || d ≡ false) × (f ≡ false) = both_fail (a || b || c || d) f e in
    let y : (a ≡ false) × (b ≡ false) × (c ≡ false) × (d ≡ false) = four_fail a b c d x.0 in
    (y.0, y.1, y.2, y.3, x.1)

-- no fault lies in the rows of accepted tables
rows_fail : (t : Tables) → IsChecked t → (f : TermFault) → lies_in_rows t f ≡ false
unfolding IsChecked applies unknown_item wrong_argument_count wrong_argument_kind parameter_out_of_range infer_in_table never_const
rows_fail t ok UnknownItem = ok fault.UnknownItem
rows_fail t ok WrongArgumentCount = ok fault.WrongArgumentCount
rows_fail t ok WrongArgumentKind = ok fault.WrongArgumentKind
rows_fail t ok ParameterOutOfRange = ok fault.ParameterOutOfRange
rows_fail t ok InferInTable = ok fault.InferInTable
rows_fail t ok NeverConst = (both_fail (lies_in_rows t NeverConst) (lang_allows_const t) (ok fault.NeverConst)).0

groups_fail : (t : Tables) → IsChecked t → (f : TermFault) →
    (lies_in_trait_rows t f ≡ false) × (lies_in_impl_rows t f ≡ false) × (lies_in_alias_rows t f ≡ false)
    × (lies_in_inherent_rows t f ≡ false) × (lies_in_type_rows t f ≡ false)
unfolding lies_in_rows
groups_fail t ok f =
    five_fail (lies_in_trait_rows t f) (lies_in_impl_rows t f) (lies_in_alias_rows t f)
    (lies_in_inherent_rows t f) (lies_in_type_rows t f) (rows_fail t ok f)

-- nor in a row that is found
pub item_fails : (t : Tables) → IsChecked t → (f : TermFault) → (i : ItemId) (r : ItemRow) → item_of t i ≡ Some r → lies_in_item t f r ≡ false
unfolding lies_in_trait_rows
item_fails t ok f i r e =
    found_fails (λ q. q.id.0 == i.0) (λ q. lies_in_item t f q) t.items.items r e
    (three_fail (list_any (λ q. lies_in_trait t f q) t.traits.items) (list_any (λ q. lies_in_item t f q) t.items.items)
    (list_any (λ q. lies_in_lang t f q) t.lang_items.items) (groups_fail t ok f).0).1

-- nor in any impl
impls_and_definitions_fail : (t : Tables) → IsChecked t → (f : TermFault) →
    (list_any (λ q. lies_in_impl t f q) t.impls.items ≡ false) × (list_any (λ q. lies_in_definition t f q) t.definitions.items ≡ false)
    × (list_any (λ q. lies_in_source t f q) t.sources.items ≡ false)
unfolding lies_in_impl_rows
impls_and_definitions_fail t ok f =
    three_fail (list_any (λ q. lies_in_impl t f q) t.impls.items) (list_any (λ q. lies_in_definition t f q) t.definitions.items)
    (list_any (λ q. lies_in_source t f q) t.sources.items) (groups_fail t ok f).1

pub impls_fail : (t : Tables) → IsChecked t → (f : TermFault) → list_any (λ q. lies_in_impl t f q) t.impls.items ≡ false
impls_fail t ok f = (impls_and_definitions_fail t ok f).0

pub definition_fails : (t : Tables) → IsChecked t → (f : TermFault) → (i : DefId) (r : DefRow) → definition_of t i ≡ Some r → lies_in_definition t f r ≡ false
definition_fails t ok f i r e =
    found_fails (λ q. q.id.0 == i.0) (λ q. lies_in_definition t f q) t.definitions.items r e (impls_and_definitions_fail t ok f).1

aliases_fail : (t : Tables) → IsChecked t → (f : TermFault) →
    (list_any (λ q. lies_in_free t f q) t.free_aliases.items ≡ false) × (list_any (λ q. lies_in_opaque t f q) t.opaque_types.items ≡ false)
unfolding lies_in_alias_rows
aliases_fail t ok f =
    both_fail (list_any (λ q. lies_in_free t f q) t.free_aliases.items) (list_any (λ q. lies_in_opaque t f q) t.opaque_types.items) (groups_fail t ok f).2

pub free_fails : (t : Tables) → IsChecked t → (f : TermFault) → (i : FreeId) (r : FreeRow) → free_of t i ≡ Some r → lies_in_free t f r ≡ false
free_fails t ok f i r e = found_fails (λ q. q.id.0 == i.0) (λ q. lies_in_free t f q) t.free_aliases.items r e (aliases_fail t ok f).0

pub opaque_fails : (t : Tables) → IsChecked t → (f : TermFault) → (i : OpaqueId) (r : OpaqueRow) → opaque_of t i ≡ Some r → lies_in_opaque t f r ≡ false
opaque_fails t ok f i r e = found_fails (λ q. q.id.0 == i.0) (λ q. lies_in_opaque t f q) t.opaque_types.items r e (aliases_fail t ok f).1

pub inherent_fails : (t : Tables) → IsChecked t → (f : TermFault) → (i : InherentId) (r : InherentRow) → inherent_of t i ≡ Some r → lies_in_inherent t f r ≡ false
unfolding lies_in_inherent_rows
inherent_fails t ok f i r e =
    found_fails (λ q. q.id.0 == i.0) (λ q. lies_in_inherent t f q) t.inherent_items.items r e
    (both_fail (list_any (λ q. lies_in_inherent_impl t f q) t.inherent_impls.items) (list_any (λ q. lies_in_inherent t f q) t.inherent_items.items)
    (groups_fail t ok f).3).1

pub inherent_impl_fails : (t : Tables) → IsChecked t → (f : TermFault) → (i : InherentImplId) (r : InherentImplRow) → inherent_impl_of t i ≡ Some r → lies_in_inherent_impl t f r ≡ false
unfolding lies_in_inherent_rows
inherent_impl_fails t ok f i r e =
    found_fails (λ q. q.id.0 == i.0) (λ q. lies_in_inherent_impl t f q) t.inherent_impls.items r e
    (both_fail (list_any (λ q. lies_in_inherent_impl t f q) t.inherent_impls.items) (list_any (λ q. lies_in_inherent t f q) t.inherent_items.items)
    (groups_fail t ok f).3).0

types_fail : (t : Tables) → IsChecked t → (f : TermFault) →
    (list_any (λ q. lies_in_adt t f q) t.adts.items ≡ false) × (list_any (λ q. lies_in_function t f q) t.functions.items ≡ false)
    × (list_any (λ q. lies_in_closure t f q) t.closures.items ≡ false)
unfolding lies_in_type_rows
types_fail t ok f =
    three_fail (list_any (λ q. lies_in_adt t f q) t.adts.items) (list_any (λ q. lies_in_function t f q) t.functions.items)
    (list_any (λ q. lies_in_closure t f q) t.closures.items) (groups_fail t ok f).4

pub adt_fails : (t : Tables) → IsChecked t → (f : TermFault) → (i : AdtId) (r : AdtRow) → adt_of t i ≡ Some r → lies_in_adt t f r ≡ false
adt_fails t ok f i r e = found_fails (λ q. q.id.0 == i.0) (λ q. lies_in_adt t f q) t.adts.items r e (types_fail t ok f).0

pub function_fails : (t : Tables) → IsChecked t → (f : TermFault) → (i : FnId) (r : FnRow) → function_of t i ≡ Some r → lies_in_function t f r ≡ false
function_fails t ok f i r e = found_fails (λ q. q.id.0 == i.0) (λ q. lies_in_function t f q) t.functions.items r e (types_fail t ok f).1

pub closure_fails : (t : Tables) → IsChecked t → (f : TermFault) → (i : ClosureId) (r : ClosureRow) → closure_of t i ≡ Some r → lies_in_closure t f r ≡ false
closure_fails t ok f i r e = found_fails (λ q. q.id.0 == i.0) (λ q. lies_in_closure t f q) t.closures.items r e (types_fail t ok f).2

-- no such fault lies in the bounds that an item or an opaque type declares
pub bounds_of_item_fail : (t : Tables) → IsChecked t → (f : TermFault) → (i : ItemId) (r : ItemRow) → item_of t i ≡ Some r →
    lies_in_clauses t (with_alias (item_scope t r)) f r.bounds.items ≡ false
unfolding lies_in_item
bounds_of_item_fail t ok f i r e =
    (four_fail (lies_in_clauses t (item_scope t r) f r.own_predicates.items) (lies_in_clauses t (with_alias (item_scope t r)) f r.bounds.items)
    (lies_in_const_bounds t (with_alias (item_scope t r)) f r.const_bounds) (if_unknown f (is_none (trait_of t r.trait_id)))
    (item_fails t ok f i r e)).1

pub opaque_parts_fail : (t : Tables) → IsChecked t → (f : TermFault) → (i : OpaqueId) (r : OpaqueRow) → opaque_of t i ≡ Some r →
    (lies_in t r.params.items f (tree_of_ty r.hidden) ≡ false) × (lies_in t r.params.items f (tree_of_ty r.typeck_hidden) ≡ false)
    × (lies_in_clauses t (with_alias r.params.items) f r.bounds.items ≡ false) × (lies_in_const_bounds t (with_alias r.params.items) f r.const_bounds ≡ false)
unfolding lies_in_opaque
opaque_parts_fail t ok f i r e =
    four_fail (lies_in t r.params.items f (tree_of_ty r.hidden)) (lies_in t r.params.items f (tree_of_ty r.typeck_hidden))
    (lies_in_clauses t (with_alias r.params.items) f r.bounds.items) (lies_in_const_bounds t (with_alias r.params.items) f r.const_bounds)
    (opaque_fails t ok f i r e)

pub bounds_of_opaque_fail : (t : Tables) → IsChecked t → (f : TermFault) → (i : OpaqueId) (r : OpaqueRow) → opaque_of t i ≡ Some r →
    lies_in_clauses t (with_alias r.params.items) f r.bounds.items ≡ false
bounds_of_opaque_fail t ok f i r e = (opaque_parts_fail t ok f i r e).2

-- nor in the parts of an ADT
pub adt_parts_fail : (t : Tables) → IsChecked t → (f : TermFault) → (i : AdtId) (r : AdtRow) → adt_of t i ≡ Some r →
    (lies_in_option t r.params.items f r.tail ≡ false) × (lies_in_option t r.params.items f r.sized_constraint ≡ false)
    × (lies_in t r.params.items f (tree_of_ty r.discriminant) ≡ false) × (lies_in_const_refs t r.params.items f r.destruct_conditions.items ≡ false)
    × (lies_in_field_info t r.params.items f r.field_info ≡ false)
unfolding lies_in_adt
adt_parts_fail t ok f i r e =
    five_fail (lies_in_option t r.params.items f r.tail) (lies_in_option t r.params.items f r.sized_constraint)
    (lies_in t r.params.items f (tree_of_ty r.discriminant)) (lies_in_const_refs t r.params.items f r.destruct_conditions.items)
    (lies_in_field_info t r.params.items f r.field_info) (adt_fails t ok f i r e)
