-- The row of an id: the first that has it.
use Rattle.std.specs.Prelude.{ℕ, ◌+◌, Bool, ◌==◌, ◌&&◌, ◌||◌, List, [], length, Option, Some, None, find, filter, map}
use Rattle.std.specs.Option.{option_and_then}
use Rattle.goal_tables.specs.Places.{same_pair, has_double}
use Rattle.goal_terms.specs.declared.ids.TraitId.{TraitId}
use Rattle.goal_terms.specs.declared.ids.ItemId.{ItemId}
use Rattle.goal_terms.specs.declared.ids.ImplId.{ImplId}
use Rattle.goal_terms.specs.declared.ids.DefId.{DefId}
use Rattle.goal_terms.specs.declared.ids.FreeId.{FreeId}
use Rattle.goal_terms.specs.declared.ids.InherentId.{InherentId}
use Rattle.goal_terms.specs.declared.ids.InherentImplId.{InherentImplId}
use Rattle.goal_terms.specs.declared.ids.OpaqueId.{OpaqueId}
use Rattle.goal_terms.specs.declared.ids.AdtId.{AdtId}
use Rattle.goal_terms.specs.declared.ids.FnId.{FnId}
use Rattle.goal_terms.specs.declared.ids.ClosureId.{ClosureId}
use Rattle.goal_tables.specs.declared.rows.TraitRow.{TraitRow}
use Rattle.goal_tables.specs.declared.rows.ItemRow.{ItemRow}
use Rattle.goal_tables.specs.declared.rows.ImplRow.{ImplRow}
use Rattle.goal_tables.specs.declared.rows.DefRow.{DefRow}
use Rattle.goal_tables.specs.declared.rows.SourceRow.{SourceRow}
use Rattle.goal_tables.specs.declared.rows.FreeRow.{FreeRow}
use Rattle.goal_tables.specs.declared.rows.InherentImplRow.{InherentImplRow}
use Rattle.goal_tables.specs.declared.rows.InherentRow.{InherentRow}
use Rattle.goal_tables.specs.declared.rows.OpaqueRow.{OpaqueRow}
use Rattle.goal_tables.specs.declared.rows.AdtRow.{AdtRow}
use Rattle.goal_tables.specs.declared.rows.FnRow.{FnRow}
use Rattle.goal_tables.specs.declared.rows.ClosureRow.{ClosureRow}
use Rattle.goal_tables.specs.declared.rows.Tables.{Tables}
use Rattle.goal_terms.specs.declared.lang.LangItem.{LangItem}
use Rattle.goal_terms.specs.declared.lang.LangTarget.{LangTarget}
use Rattle.goal_terms.specs.declared.lang.LangTarget.TheVariants as target
use Rattle.goal_terms.specs.declared.lang.LangRow.{LangRow}
use Rattle.goal_terms.specs.contracts.lang.LangItemPartialEq.TheImpl as items
use Rattle.goal_terms.specs.contracts.lang.LangTargetPartialEq.TheImpl as targets

-- the row of a trait
abbrev pub trait_of : Tables → TraitId → Option TraitRow
trait_of t id = find (λ r. r.id.0 == id.0) t.traits.items

-- the row of an item
abbrev pub item_of : Tables → ItemId → Option ItemRow
item_of t id = find (λ r. r.id.0 == id.0) t.items.items

-- the row of an impl
abbrev pub impl_of : Tables → ImplId → Option ImplRow
impl_of t id = find (λ r. r.id.0 == id.0) t.impls.items

-- the row of a definition
abbrev pub definition_of : Tables → DefId → Option DefRow
definition_of t id = find (λ r. r.id.0 == id.0) t.definitions.items

-- the row of a free alias
abbrev pub free_of : Tables → FreeId → Option FreeRow
free_of t id = find (λ r. r.id.0 == id.0) t.free_aliases.items

-- the row of an inherent impl
abbrev pub inherent_impl_of : Tables → InherentImplId → Option InherentImplRow
inherent_impl_of t id = find (λ r. r.id.0 == id.0) t.inherent_impls.items

-- the row of an inherent item
abbrev pub inherent_of : Tables → InherentId → Option InherentRow
inherent_of t id = find (λ r. r.id.0 == id.0) t.inherent_items.items

-- the row of an opaque type
abbrev pub opaque_of : Tables → OpaqueId → Option OpaqueRow
opaque_of t id = find (λ r. r.id.0 == id.0) t.opaque_types.items

-- the row of an ADT
abbrev pub adt_of : Tables → AdtId → Option AdtRow
adt_of t id = find (λ r. r.id.0 == id.0) t.adts.items

-- the row of a function item
abbrev pub function_of : Tables → FnId → Option FnRow
function_of t id = find (λ r. r.id.0 == id.0) t.functions.items

-- the row of a closure
abbrev pub closure_of : Tables → ClosureId → Option ClosureRow
closure_of t id = find (λ r. r.id.0 == id.0) t.closures.items

-- the items that a trait's row lists
abbrev pub items_listed : Option TraitRow → List ItemId
items_listed None = []
items_listed (Some r) = r.items.items

-- what an impl uses for an item
abbrev pub source_of : Tables → ImplId → ItemId → Option SourceRow
source_of t impl_id item_id = find (λ r. (r.impl_id.0 == impl_id.0) && (r.item_id.0 == item_id.0)) t.sources.items

-- the impls of a trait, in the order of their rows
abbrev pub impls_of : Tables → TraitId → List ImplRow
impls_of t id = filter (λ r. r.trait_id.0 == id.0) t.impls.items

-- the items of a trait, as its row lists them
abbrev pub items_of : Tables → TraitId → List ItemId
items_of t id = items_listed (trait_of t id)

-- whether two lang items are the same
abbrev pub same_lang_item : LangItem → LangItem → Bool
same_lang_item a b = (items.ghosts).eq a b

-- whether two lang items name the same
abbrev pub same_lang_target : LangTarget → LangTarget → Bool
same_lang_target a b = (targets.ghosts).eq a b

-- the row of a lang item
abbrev pub lang_of : Tables → LangItem → Option LangRow
lang_of t item = find (λ r. same_lang_item r.item item) t.lang_items.items

-- the lang item that names something
abbrev pub lang_naming : Tables → LangTarget → Option LangRow
lang_naming t named = find (λ r. same_lang_target r.target named) t.lang_items.items

-- the trait that something names
abbrev pub trait_named : LangTarget → Option TraitId
trait_named (target.Trait id) = Some id
trait_named _ = None

-- the item that something names
abbrev pub item_named : LangTarget → Option ItemId
item_named (target.Item id) = Some id
item_named _ = None

-- the ADT that something names
abbrev pub adt_named : LangTarget → Option AdtId
adt_named (target.Adt id) = Some id
adt_named _ = None

-- the trait of a lang item
abbrev pub lang_trait_of : Tables → LangItem → Option TraitId
lang_trait_of t item = option_and_then (λ r. trait_named r.target) (lang_of t item)

-- the item of a lang item
abbrev pub lang_item_of : Tables → LangItem → Option ItemId
lang_item_of t item = option_and_then (λ r. item_named r.target) (lang_of t item)

-- the ADT of a lang item
abbrev pub lang_adt_of : Tables → LangItem → Option AdtId
lang_adt_of t item = option_and_then (λ r. adt_named r.target) (lang_of t item)

-- two rows of one list have one id
unfoldable pub doubled_id : Tables → Bool
doubled_id t =
    has_double ◌==◌ (map (λ r. r.id.0) t.traits.items)
    || has_double ◌==◌ (map (λ r. r.id.0) t.items.items)
    || has_double ◌==◌ (map (λ r. r.id.0) t.impls.items)
    || has_double ◌==◌ (map (λ r. r.id.0) t.definitions.items)
    || has_double ◌==◌ (map (λ r. r.id.0) t.free_aliases.items)
    || has_double ◌==◌ (map (λ r. r.id.0) t.opaque_types.items)
    || has_double ◌==◌ (map (λ r. r.id.0) t.inherent_impls.items)
    || has_double ◌==◌ (map (λ r. r.id.0) t.inherent_items.items)
    || has_double ◌==◌ (map (λ r. r.id.0) t.adts.items)
    || has_double ◌==◌ (map (λ r. r.id.0) t.functions.items)
    || has_double ◌==◌ (map (λ r. r.id.0) t.closures.items)

-- an impl has two sources for one item
unfoldable pub doubled_source : Tables → Bool
doubled_source t = has_double same_pair (map (λ r. (r.impl_id.0, r.item_id.0)) t.sources.items)

-- a lang item is named twice, or two lang items name one row
unfoldable pub doubled_lang : Tables → Bool
doubled_lang t =
    has_double same_lang_item (map (λ r. r.item) t.lang_items.items) || has_double same_lang_target (map (λ r. r.target) t.lang_items.items)

-- how many rows there are, in all lists
abbrev pub row_count : Tables → ℕ
row_count t =
    length t.traits.items
    + length t.items.items
    + length t.impls.items
    + length t.definitions.items
    + length t.sources.items
    + length t.free_aliases.items
    + length t.inherent_impls.items
    + length t.inherent_items.items
    + length t.opaque_types.items
    + length t.adts.items
    + length t.functions.items
    + length t.closures.items
    + length t.lang_items.items
