-- The faults that lie in the terms and clauses of rows, and in what rows name.
use Rattle.std.specs.Prelude.{Bool, true, false, ◌&&◌, ◌||◌, not, List, [], ◌∷◌, ◌++◌, Option, Some, None, is_none}
use Rattle.std.specs.List.{list_any}
use Rattle.goal_terms.specs.Tree.{node_of}
use Rattle.goal_terms.specs.TreeOf.{tree_of_ty, tree_of_term, tree_of_sig}
use Rattle.goal_terms.specs.declared.answers.ParamKind.{ParamKind}
use Rattle.goal_terms.specs.declared.answers.ParamKind.TheVariants as kind
use Rattle.goal_terms.specs.declared.terms.Term.{Term}
use Rattle.goal_terms.specs.declared.terms.Ty.{Ty}
use Rattle.goal_tables.specs.Options.{option_holds}
use Rattle.goal_terms.specs.Kinds.{same_kind, kind_of}
use Rattle.goal_tables.specs.Rows.{trait_of, item_of, impl_of, definition_of, inherent_impl_of, adt_of}
use Rattle.goal_tables.specs.Sites.{kind_of_value, is_of_other_kind, lies_in}
use Rattle.goal_tables.specs.Clauses.{lies_in_trait_args, const_fault, lies_in_clauses, lies_in_const_refs}
use Rattle.goal_terms.specs.declared.lang.LangRow.{LangRow}
use Rattle.goal_terms.specs.declared.lang.LangTarget.{LangTarget}
use Rattle.goal_terms.specs.declared.lang.LangTarget.TheVariants as target
use Rattle.goal_tables.specs.declared.rows.TraitRow.{TraitRow}
use Rattle.goal_tables.specs.declared.rows.ItemRow.{ItemRow}
use Rattle.goal_tables.specs.declared.rows.ConstBounds.{ConstBounds}
use Rattle.goal_tables.specs.declared.rows.ImplRow.{ImplRow}
use Rattle.goal_tables.specs.declared.rows.DefRow.{DefRow}
use Rattle.goal_tables.specs.declared.rows.SourceRow.{SourceRow}
use Rattle.goal_tables.specs.declared.rows.FreeRow.{FreeRow}
use Rattle.goal_tables.specs.declared.rows.InherentImplRow.{InherentImplRow}
use Rattle.goal_tables.specs.declared.rows.InherentRow.{InherentRow}
use Rattle.goal_tables.specs.declared.rows.OpaqueRow.{OpaqueRow}
use Rattle.goal_tables.specs.declared.rows.FieldInfo.{FieldInfo}
use Rattle.goal_tables.specs.declared.rows.AdtRow.{AdtRow}
use Rattle.goal_tables.specs.declared.rows.FnRow.{FnRow}
use Rattle.goal_tables.specs.declared.rows.ClosureRow.{ClosureRow}
use Rattle.goal_tables.specs.declared.rows.Tables.{Tables}
use Rattle.goal_tables.specs.declared.rows.Container.{Container}
use Rattle.goal_tables.specs.declared.rows.Container.TheVariants as container
use Rattle.goal_tables.specs.declared.rows.DefValue.{DefValue}
use Rattle.goal_tables.specs.declared.rows.DefValue.TheVariants as value
use Rattle.goal_tables.specs.declared.rows.Source.{Source}
use Rattle.goal_tables.specs.declared.rows.Source.TheVariants as source
use Rattle.goal_tables.specs.declared.faults.TermFault as faults
use Rattle.goal_tables.specs.declared.faults.TermFault.TheVariants.{UnknownItem, WrongArgumentKind}

-- the parameters of the row of a trait, none without a row
abbrev pub params_of_trait_row : Option TraitRow → List ParamKind
params_of_trait_row None = []
params_of_trait_row (Some r) = r.params.items

-- the parameters of the row of an impl, none without a row
abbrev pub params_of_impl_row : Option ImplRow → List ParamKind
params_of_impl_row None = []
params_of_impl_row (Some r) = r.params.items

-- the parameters of the row of an inherent impl, none without a row
abbrev pub params_of_inherent_impl_row : Option InherentImplRow → List ParamKind
params_of_inherent_impl_row None = []
params_of_inherent_impl_row (Some r) = r.params.items

-- the parameters of what holds a definition
abbrev pub container_params : Tables → Container → List ParamKind
container_params t (container.Impl i) = params_of_impl_row (impl_of t i)
container_params t (container.Trait i) = params_of_trait_row (trait_of t i)

-- the parameters of an item: its trait's, then its own
abbrev pub item_scope : Tables → ItemRow → List ParamKind
item_scope t r = params_of_trait_row (trait_of t r.trait_id) ++ r.own_params.items

-- the parameters of a definition: its container's, then its own
abbrev pub definition_scope : Tables → DefRow → List ParamKind
definition_scope t r = container_params t r.container ++ r.own_params.items

-- the parameters of an inherent item: its impl's, then its own
abbrev pub inherent_scope : Tables → InherentRow → List ParamKind
inherent_scope t r = params_of_inherent_impl_row (inherent_impl_of t r.impl_id) ++ r.own_params.items

-- these parameters, and one more type for an alias
abbrev pub with_alias : List ParamKind → List ParamKind
with_alias ps = ps ++ kind.Ty ∷ []

-- whether this is the fault of an id without a row, and it applies
unfoldable pub if_unknown : faults.TermFault → Bool → Bool
if_unknown UnknownItem b = b
if_unknown _ b = false

-- whether this is the fault of a wrong kind, and it applies
unfoldable pub if_kind : faults.TermFault → Bool → Bool
if_kind WrongArgumentKind b = b
if_kind _ b = false

-- whether a fault lies in a type that may be there
abbrev pub lies_in_option : Tables → List ParamKind → faults.TermFault → Option Ty → Bool
lies_in_option t ps f ty = option_holds (λ x. lies_in t ps f (tree_of_ty x)) ty

-- whether a fault lies in a value that may be there
abbrev pub lies_in_value : Tables → List ParamKind → faults.TermFault → Option Term → Bool
lies_in_value t ps f v = option_holds (λ x. lies_in t ps f (tree_of_term x)) v

-- whether a fault lies in the const bounds of an alias
abbrev pub lies_in_const_bounds : Tables → List ParamKind → faults.TermFault → Option ConstBounds → Bool
lies_in_const_bounds t ps f None = false
lies_in_const_bounds t ps f (Some b) = lies_in_const_refs t ps f b.implied.items || lies_in_const_refs t ps f b.conditions.items

-- a trait has no self type
abbrev pub lacks_self_type : List ParamKind → Bool
lacks_self_type [] = true
lacks_self_type (p ∷ ps) = not (same_kind p kind.Ty)

-- a trait: its predicates and conditions, the items that it lists, its self type
unfoldable pub lies_in_trait : Tables → faults.TermFault → TraitRow → Bool
lies_in_trait t f r =
    lies_in_clauses t r.params.items f r.predicates.items
    || lies_in_const_refs t r.params.items f r.const_conditions.items
    || if_unknown f (list_any (λ i. is_none (item_of t i)) r.items.items)
    || if_kind f (lacks_self_type r.params.items)

-- an item: its where clauses and bounds, its trait
unfoldable pub lies_in_item : Tables → faults.TermFault → ItemRow → Bool
lies_in_item t f r =
    lies_in_clauses t (item_scope t r) f r.own_predicates.items
    || lies_in_clauses t (with_alias (item_scope t r)) f r.bounds.items
    || lies_in_const_bounds t (with_alias (item_scope t r)) f r.const_bounds
    || if_unknown f (is_none (trait_of t r.trait_id))

-- an impl: its header, where clauses and conditions; a const impl of a trait that doesn't allow const; the impls that it lists
unfoldable pub lies_in_impl : Tables → faults.TermFault → ImplRow → Bool
lies_in_impl t f r =
    lies_in_trait_args t r.params.items f r.trait_id r.trait_args.items
    || lies_in_clauses t r.params.items f r.predicates.items
    || lies_in_const_refs t r.params.items f r.const_conditions.items
    || (r.is_const && const_fault t f r.trait_id)
    || if_unknown f (list_any (λ i. is_none (impl_of t i)) r.more_special.items)

-- what holds a definition has no row
abbrev pub container_is_unknown : Tables → Container → Bool
container_is_unknown t (container.Impl i) = is_none (impl_of t i)
container_is_unknown t (container.Trait i) = is_none (trait_of t i)

-- whether a fault lies in the value of a definition
abbrev pub lies_in_definition_value : Tables → List ParamKind → faults.TermFault → DefValue → Bool
lies_in_definition_value t ps f value.Missing = false
lies_in_definition_value t ps f (value.Term e) = lies_in t ps f (tree_of_term e)
lies_in_definition_value t ps f value.Evaluated = false

-- the kind of a definition's value, if it has one
abbrev pub kind_of_definition_value : DefValue → Option ParamKind
kind_of_definition_value value.Missing = None
kind_of_definition_value (value.Term e) = Some (kind_of (node_of (tree_of_term e)))
kind_of_definition_value value.Evaluated = Some kind.Const

-- a definition's value is of another kind than its item
abbrev pub value_has_other_kind : Tables → DefRow → Bool
value_has_other_kind t r = option_holds (λ q. is_of_other_kind (kind_of_definition_value r.value) (kind_of_value q.is_const)) (item_of t r.item)

-- a definition: its value, its container and its item
unfoldable pub lies_in_definition : Tables → faults.TermFault → DefRow → Bool
lies_in_definition t f r =
    lies_in_definition_value t (definition_scope t r) f r.value
    || if_unknown f (container_is_unknown t r.container || is_none (item_of t r.item))
    || if_kind f (value_has_other_kind t r)

-- the definition that a source names has no row
abbrev pub source_is_unknown : Tables → Source → Bool
source_is_unknown t (source.Def d b) = is_none (definition_of t d)
source_is_unknown t (source.Broken n) = false

-- a source: its impl, its item and its definition
unfoldable pub lies_in_source : Tables → faults.TermFault → SourceRow → Bool
lies_in_source t f r = if_unknown f (is_none (impl_of t r.impl_id) || is_none (item_of t r.item_id) || source_is_unknown t r.source)

-- a type has no value, or a value of another kind than its row says
abbrev pub value_differs : Bool → Option Term → Bool
value_differs is_const None = not is_const
value_differs is_const (Some e) = not (same_kind (kind_of (node_of (tree_of_term e))) (kind_of_value is_const))

-- a free alias: its where clauses and its value
unfoldable pub lies_in_free : Tables → faults.TermFault → FreeRow → Bool
lies_in_free t f r =
    lies_in_clauses t r.params.items f r.predicates.items
    || lies_in_value t r.params.items f r.value
    || if_kind f (value_differs r.is_const r.value)

-- an inherent impl: its self type
unfoldable pub lies_in_inherent_impl : Tables → faults.TermFault → InherentImplRow → Bool
lies_in_inherent_impl t f r = lies_in t r.params.items f (tree_of_ty r.self_ty)

-- an inherent item: its where clauses and its value, its impl
unfoldable pub lies_in_inherent : Tables → faults.TermFault → InherentRow → Bool
lies_in_inherent t f r =
    lies_in_clauses t (inherent_scope t r) f r.predicates.items
    || lies_in_value t (inherent_scope t r) f r.value
    || if_unknown f (is_none (inherent_impl_of t r.impl_id))
    || if_kind f (value_differs r.is_const r.value)

-- an opaque type: its hidden types and bounds
unfoldable pub lies_in_opaque : Tables → faults.TermFault → OpaqueRow → Bool
lies_in_opaque t f r =
    lies_in t r.params.items f (tree_of_ty r.hidden)
    || lies_in t r.params.items f (tree_of_ty r.typeck_hidden)
    || lies_in_clauses t (with_alias r.params.items) f r.bounds.items
    || lies_in_const_bounds t (with_alias r.params.items) f r.const_bounds

-- whether a fault lies in what an ADT says of its field
abbrev pub lies_in_field_info : Tables → List ParamKind → faults.TermFault → Option FieldInfo → Bool
lies_in_field_info t ps f None = false
lies_in_field_info t ps f (Some i) = lies_in t ps f (tree_of_ty i.base) || lies_in t ps f (tree_of_ty i.ty)

-- an ADT: its types and its conditions
unfoldable pub lies_in_adt : Tables → faults.TermFault → AdtRow → Bool
lies_in_adt t f r =
    lies_in_option t r.params.items f r.tail
    || lies_in_option t r.params.items f r.sized_constraint
    || lies_in t r.params.items f (tree_of_ty r.discriminant)
    || lies_in_const_refs t r.params.items f r.destruct_conditions.items
    || lies_in_field_info t r.params.items f r.field_info

-- a function item: its signature and its conditions
unfoldable pub lies_in_function : Tables → faults.TermFault → FnRow → Bool
lies_in_function t f r =
    lies_in t r.params.items f (tree_of_sig r.sig) || lies_in_const_refs t r.params.items f r.const_conditions.items

-- a closure: its signature, what it holds, and its conditions
unfoldable pub lies_in_closure : Tables → faults.TermFault → ClosureRow → Bool
lies_in_closure t f r =
    lies_in t r.params.items f (tree_of_sig r.sig)
    || list_any (λ u. lies_in t r.params.items f (tree_of_ty u)) r.upvars.items
    || lies_in_const_refs t r.params.items f r.const_conditions.items

-- what a lang item names has no row
abbrev pub target_is_unknown : Tables → LangTarget → Bool
target_is_unknown t (target.Trait i) = is_none (trait_of t i)
target_is_unknown t (target.Item i) = is_none (item_of t i)
target_is_unknown t (target.Adt i) = is_none (adt_of t i)

-- a lang item: what it names
unfoldable pub lies_in_lang : Tables → faults.TermFault → LangRow → Bool
lies_in_lang t f r = if_unknown f (target_is_unknown t r.target)

-- whether a fault lies in a trait, an item or a lang item
unfoldable pub lies_in_trait_rows : Tables → faults.TermFault → Bool
lies_in_trait_rows t f =
    list_any (λ r. lies_in_trait t f r) t.traits.items
    || list_any (λ r. lies_in_item t f r) t.items.items
    || list_any (λ r. lies_in_lang t f r) t.lang_items.items

-- whether a fault lies in an impl, a definition or a source
unfoldable pub lies_in_impl_rows : Tables → faults.TermFault → Bool
lies_in_impl_rows t f =
    list_any (λ r. lies_in_impl t f r) t.impls.items
    || list_any (λ r. lies_in_definition t f r) t.definitions.items
    || list_any (λ r. lies_in_source t f r) t.sources.items

-- whether a fault lies in a free alias or an opaque type
unfoldable pub lies_in_alias_rows : Tables → faults.TermFault → Bool
lies_in_alias_rows t f =
    list_any (λ r. lies_in_free t f r) t.free_aliases.items
    || list_any (λ r. lies_in_opaque t f r) t.opaque_types.items

-- whether a fault lies in an inherent impl or an inherent item
unfoldable pub lies_in_inherent_rows : Tables → faults.TermFault → Bool
lies_in_inherent_rows t f =
    list_any (λ r. lies_in_inherent_impl t f r) t.inherent_impls.items
    || list_any (λ r. lies_in_inherent t f r) t.inherent_items.items

-- whether a fault lies in an ADT, a function item or a closure
unfoldable pub lies_in_type_rows : Tables → faults.TermFault → Bool
lies_in_type_rows t f =
    list_any (λ r. lies_in_adt t f r) t.adts.items
    || list_any (λ r. lies_in_function t f r) t.functions.items
    || list_any (λ r. lies_in_closure t f r) t.closures.items

-- whether a fault lies in some row
unfoldable pub lies_in_rows : Tables → faults.TermFault → Bool
lies_in_rows t f =
    lies_in_trait_rows t f
    || lies_in_impl_rows t f
    || lies_in_alias_rows t f
    || lies_in_inherent_rows t f
    || lies_in_type_rows t f
