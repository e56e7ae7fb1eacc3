-- The terms of rows of accepted tables hold no inference variable.
use Rattle.std.proofs.Common.{◌≡◌, false, ◌&&◌, ◌||◌, List, [], ◌∷◌, map, Option, Some, None}
use Rattle.std.specs.Prelude.{is_none}
use Rattle.std.specs.List.{list_any}
use Rattle.goal_terms.specs.Erased.{erased}
use Rattle.goal_terms.specs.NodeTests.{some_node}
use Rattle.goal_terms.specs.Tree.{Tree, Trees, node, alias, variable, none, more}
use Rattle.goal_terms.specs.TreeOf.{tree_of_arg, tree_of_ty, tree_of_term, tree_of_sig, trees_of}
use Rattle.goal_terms.specs.declared.answers.ParamKind.{ParamKind}
use Rattle.goal_terms.specs.declared.ids.AdtId.{AdtId}
use Rattle.goal_terms.specs.declared.ids.ClosureId.{ClosureId}
use Rattle.goal_terms.specs.declared.ids.DefId.{DefId}
use Rattle.goal_terms.specs.declared.ids.FnId.{FnId}
use Rattle.goal_terms.specs.declared.ids.FreeId.{FreeId}
use Rattle.goal_terms.specs.declared.ids.InherentId.{InherentId}
use Rattle.goal_terms.specs.declared.ids.OpaqueId.{OpaqueId}
use Rattle.goal_terms.specs.declared.terms.GenericArg.{GenericArg}
use Rattle.goal_terms.specs.declared.terms.Term.{Term}
use Rattle.goal_terms.specs.declared.terms.Ty.{Ty}
use Rattle.goal_tables.specs.Clauses.{own_fault, const_fault, lies_in_args, lies_in_trait_args, lies_in_clauses, lies_in_const_refs}
use Rattle.goal_tables.specs.Faults.{IsChecked}
use Rattle.goal_tables.specs.RowFaults.{if_unknown, if_kind, definition_scope, inherent_scope, lies_in_option, lies_in_value, container_is_unknown, lies_in_definition_value, value_has_other_kind, value_differs, lies_in_field_info, lies_in_impl, lies_in_definition, lies_in_free, lies_in_inherent, lies_in_function, lies_in_closure}
use Rattle.goal_tables.specs.Rows.{item_of, impl_of, definition_of, free_of, inherent_impl_of, inherent_of, opaque_of, adt_of, function_of, closure_of}
use Rattle.goal_tables.specs.Sites.{is_inferred, lies_here, lies_in, lies_in_row}
use Rattle.goal_tables.specs.declared.rows.AdtRow.{AdtRow}
use Rattle.goal_tables.specs.declared.rows.ClosureRow.{ClosureRow}
use Rattle.goal_tables.specs.declared.rows.DefRow.{DefRow}
use Rattle.goal_tables.specs.declared.rows.DefValue.{DefValue}
use Rattle.goal_tables.specs.declared.rows.DefValue.TheVariants as value
use Rattle.goal_tables.specs.declared.rows.FieldInfo.{FieldInfo}
use Rattle.goal_tables.specs.declared.rows.FnRow.{FnRow}
use Rattle.goal_tables.specs.declared.rows.FreeRow.{FreeRow}
use Rattle.goal_tables.specs.declared.rows.ImplRow.{ImplRow}
use Rattle.goal_tables.specs.declared.rows.InherentRow.{InherentRow}
use Rattle.goal_tables.specs.declared.rows.OpaqueRow.{OpaqueRow}
use Rattle.goal_tables.specs.declared.rows.Tables.{Tables}
use Rattle.goal_tables.specs.declared.faults.TermFault.TheVariants.{InferInTable}
use Rattle.goal_lists.specs.TraitGoals.{header_of}
use Rattle.goal_lists.specs.Words.{Each}
use Rattle.goal_kinds.proofs.ClosedTerms.{IsClosedTree, IsClosedRow, AreClosedTrees, closed-erased, closed-more}
use Rattle.goal_kinds.proofs.FaultlessRows.{three_fail, four_fail, free_fails, inherent_fails, definition_fails, opaque_parts_fail, adt_parts_fail, function_fails, closure_fails}
use Rattle.goal_lists.proofs.TableKindLemmas.{both_fail}

mutual
  unfolding lies_in lies_here is_inferred some_node

  -- a term in which no such fault lies
  pub closed-accepted : (t : Tables) (ps : List ParamKind) (u : Tree) → lies_in t ps InferInTable u ≡ false → IsClosedTree u
  closed-accepted t ps (node h ts) e =
      closed-accepted_row t ps ts (both_fail (lies_here t ps InferInTable (node h ts)) (lies_in_row t ps InferInTable ts) e).1
  closed-accepted t ps (alias k ts) e =
      closed-accepted_row t ps ts (both_fail (lies_here t ps InferInTable (alias k ts)) (lies_in_row t ps InferInTable ts) e).1
  closed-accepted t ps (variable v) e = e

  closed-accepted_row : (t : Tables) (ps : List ParamKind) (us : Trees) → lies_in_row t ps InferInTable us ≡ false → IsClosedRow us
  closed-accepted_row t ps none e = e
  closed-accepted_row t ps (more u us) e =
      let each : (lies_in t ps InferInTable u ≡ false) × (lies_in_row t ps InferInTable us ≡ false) = both_fail (lies_in t ps InferInTable u) (lies_in_row t ps InferInTable us) e in
      closed-more u us (closed-accepted t ps u each.0) (closed-accepted_row t ps us each.1)

-- the type that type checking found for an opaque type
pub closed-typeck_hidden : (t : Tables) → IsChecked t → (i : OpaqueId) (r : OpaqueRow) → opaque_of t i ≡ Some r → IsClosedTree (tree_of_ty r.typeck_hidden)
closed-typeck_hidden t ok i r e = closed-accepted t r.params.items (tree_of_ty r.typeck_hidden) (opaque_parts_fail t ok InferInTable i r e).1

-- and its hidden type
pub closed-hidden : (t : Tables) → IsChecked t → (i : OpaqueId) (r : OpaqueRow) → opaque_of t i ≡ Some r → IsClosedTree (tree_of_ty r.hidden)
closed-hidden t ok i r e = closed-accepted t r.params.items (tree_of_ty r.hidden) (opaque_parts_fail t ok InferInTable i r e).0

-- a value that may be there holds no inference variable
abbrev pub HoldsClosedTerm : Option Term → Type 0
HoldsClosedTerm None = Unit {0}
HoldsClosedTerm (Some e) = IsClosedTree (tree_of_term e)

closed-accepted_value : (t : Tables) (ps : List ParamKind) (v : Option Term) → lies_in_value t ps InferInTable v ≡ false → HoldsClosedTerm v
closed-accepted_value t ps None e = tt
closed-accepted_value t ps (Some v) e = closed-accepted t ps (tree_of_term v) e

-- the values of free aliases and inherent items
pub closed-free : (t : Tables) → IsChecked t → (i : FreeId) (r : FreeRow) → free_of t i ≡ Some r → HoldsClosedTerm r.value
unfolding lies_in_free
closed-free t ok i r e =
    closed-accepted_value t r.params.items r.value
    (three_fail (lies_in_clauses t r.params.items InferInTable r.predicates.items) (lies_in_value t r.params.items InferInTable r.value)
    (if_kind InferInTable (value_differs r.is_const r.value)) (free_fails t ok InferInTable i r e)).1

pub closed-inherent : (t : Tables) → IsChecked t → (i : InherentId) (r : InherentRow) → inherent_of t i ≡ Some r → HoldsClosedTerm r.value
unfolding lies_in_inherent
closed-inherent t ok i r e =
    closed-accepted_value t (inherent_scope t r) r.value
    (four_fail (lies_in_clauses t (inherent_scope t r) InferInTable r.predicates.items) (lies_in_value t (inherent_scope t r) InferInTable r.value)
    (if_unknown InferInTable (is_none (inherent_impl_of t r.impl_id))) (if_kind InferInTable (value_differs r.is_const r.value)) (inherent_fails t ok InferInTable i r e)).1

-- a definition's value, if it is a term, holds none
abbrev pub IsClosedValue : DefValue → Type 0
IsClosedValue value.Missing = Unit {0}
IsClosedValue (value.Term e) = IsClosedTree (tree_of_term e)
IsClosedValue value.Evaluated = Unit {0}

closed-definition_value : (t : Tables) (ps : List ParamKind) (v : DefValue) → lies_in_definition_value t ps InferInTable v ≡ false → IsClosedValue v
closed-definition_value t ps value.Missing e = tt
closed-definition_value t ps (value.Term v) e = closed-accepted t ps (tree_of_term v) e
closed-definition_value t ps value.Evaluated e = tt

pub closed-definition : (t : Tables) → IsChecked t → (i : DefId) (r : DefRow) → definition_of t i ≡ Some r → IsClosedValue r.value
unfolding lies_in_definition
closed-definition t ok i r e =
    closed-definition_value t (definition_scope t r) r.value
    (three_fail (lies_in_definition_value t (definition_scope t r) InferInTable r.value)
    (if_unknown InferInTable (container_is_unknown t r.container || is_none (item_of t r.item))) (if_kind InferInTable (value_has_other_kind t r))
    (definition_fails t ok InferInTable i r e)).0

-- a type that may be there holds none
abbrev pub HoldsClosedTy : Option Ty → Type 0
HoldsClosedTy None = Unit {0}
HoldsClosedTy (Some x) = IsClosedTree (tree_of_ty x)

closed-accepted_option : (t : Tables) (ps : List ParamKind) (o : Option Ty) → lies_in_option t ps InferInTable o ≡ false → HoldsClosedTy o
closed-accepted_option t ps None e = tt
closed-accepted_option t ps (Some x) e = closed-accepted t ps (tree_of_ty x) e

-- nor do the types that an ADT says of its field
abbrev pub HoldsClosedField : Option FieldInfo → Type 0
HoldsClosedField None = Unit {0}
HoldsClosedField (Some f) = IsClosedTree (tree_of_ty f.base) × IsClosedTree (tree_of_ty f.ty)

closed-accepted_field : (t : Tables) (ps : List ParamKind) (o : Option FieldInfo) → lies_in_field_info t ps InferInTable o ≡ false → HoldsClosedField o
closed-accepted_field t ps None e = tt
closed-accepted_field t ps (Some f) e =
    let each : (lies_in t ps InferInTable (tree_of_ty f.base) ≡ false) × (lies_in t ps InferInTable (tree_of_ty f.ty) ≡ false) =
    both_fail (lies_in t ps InferInTable (tree_of_ty f.base)) (lies_in t ps InferInTable (tree_of_ty f.ty)) e in
    (closed-accepted t ps (tree_of_ty f.base) each.0, closed-accepted t ps (tree_of_ty f.ty) each.1)

-- the types of an ADT
pub closed-tail : (t : Tables) → IsChecked t → (i : AdtId) (r : AdtRow) → adt_of t i ≡ Some r → HoldsClosedTy r.tail
closed-tail t ok i r e = closed-accepted_option t r.params.items r.tail (adt_parts_fail t ok InferInTable i r e).0

pub closed-discriminant : (t : Tables) → IsChecked t → (i : AdtId) (r : AdtRow) → adt_of t i ≡ Some r → IsClosedTree (tree_of_ty r.discriminant)
closed-discriminant t ok i r e = closed-accepted t r.params.items (tree_of_ty r.discriminant) (adt_parts_fail t ok InferInTable i r e).2

pub closed-field : (t : Tables) → IsChecked t → (i : AdtId) (r : AdtRow) → adt_of t i ≡ Some r → HoldsClosedField r.field_info
closed-field t ok i r e = closed-accepted_field t r.params.items r.field_info (adt_parts_fail t ok InferInTable i r e).4

-- the signatures of functions and closures
pub closed-function : (t : Tables) → IsChecked t → (i : FnId) (r : FnRow) → function_of t i ≡ Some r → IsClosedTree (tree_of_sig r.sig)
unfolding lies_in_function
closed-function t ok i r e =
    closed-accepted t r.params.items (tree_of_sig r.sig)
    (both_fail (lies_in t r.params.items InferInTable (tree_of_sig r.sig)) (lies_in_const_refs t r.params.items InferInTable r.const_conditions.items)
    (function_fails t ok InferInTable i r e)).0

pub closed-closure : (t : Tables) → IsChecked t → (i : ClosureId) (r : ClosureRow) → closure_of t i ≡ Some r → IsClosedTree (tree_of_sig r.sig)
unfolding lies_in_closure
closed-closure t ok i r e =
    closed-accepted t r.params.items (tree_of_sig r.sig)
    (three_fail (lies_in t r.params.items InferInTable (tree_of_sig r.sig)) (list_any (λ u. lies_in t r.params.items InferInTable (tree_of_ty u)) r.upvars.items)
    (lies_in_const_refs t r.params.items InferInTable r.const_conditions.items) (closure_fails t ok InferInTable i r e)).0

-- the arguments of an impl's header
closed-accepted_args : (t : Tables) (ps : List ParamKind) (args : List GenericArg) → lies_in_args t ps InferInTable args ≡ false → AreClosedTrees (map erased (trees_of args))
unfolding Each
closed-accepted_args t ps [] e = tt
closed-accepted_args t ps (a ∷ args) e =
    let each : (lies_in t ps InferInTable (tree_of_arg a) ≡ false) × (lies_in_args t ps InferInTable args ≡ false) =
    both_fail (lies_in t ps InferInTable (tree_of_arg a)) (lies_in_args t ps InferInTable args) e in
    (closed-erased (tree_of_arg a) (closed-accepted t ps (tree_of_arg a) each.0), closed-accepted_args t ps args each.1)

pub closed-header : (t : Tables) (r : ImplRow) → lies_in_impl t InferInTable r ≡ false → AreClosedTrees (header_of r)
unfolding lies_in_impl
closed-header t r e =
    closed-accepted_args t r.params.items r.trait_args.items
    (both_fail (own_fault t InferInTable r.trait_id r.trait_args.items) (lies_in_args t r.params.items InferInTable r.trait_args.items)
    (four_fail (lies_in_trait_args t r.params.items InferInTable r.trait_id r.trait_args.items) (lies_in_clauses t r.params.items InferInTable r.predicates.items)
    (lies_in_const_refs t r.params.items InferInTable r.const_conditions.items) (r.is_const && const_fault t InferInTable r.trait_id)
    (both_fail (lies_in_trait_args t r.params.items InferInTable r.trait_id r.trait_args.items || lies_in_clauses t r.params.items InferInTable r.predicates.items || lies_in_const_refs t r.params.items InferInTable r.const_conditions.items || (r.is_const && const_fault t InferInTable r.trait_id))
    (if_unknown InferInTable (list_any (λ i. is_none (impl_of t i)) r.more_special.items)) e).0).0).1
