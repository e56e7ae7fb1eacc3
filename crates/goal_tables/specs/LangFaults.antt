-- Faults of lang items.
use Rattle.std.specs.Prelude.{Bool, true, false, ◌==◌, ◌||◌, not, List, [], ◌∷◌, length, Option, Some, None, is_none}
use Rattle.std.specs.List.{list_any}
use Rattle.std.specs.Option.{option_and_then}
use Rattle.goal_terms.specs.declared.answers.ParamKind.{ParamKind}
use Rattle.goal_terms.specs.declared.answers.ParamKind.TheVariants as kind
use Rattle.goal_tables.specs.Indexed.{lists_number}
use Rattle.goal_tables.specs.Options.{option_holds}
use Rattle.goal_tables.specs.ParamKinds.{same_kinds}
use Rattle.goal_tables.specs.Rows.{trait_of, item_of, adt_of, lang_of, lang_trait_of, lang_item_of}
use Rattle.goal_terms.specs.declared.lang.LangItem.{LangItem}
use Rattle.goal_terms.specs.declared.lang.LangItem.TheVariants as item
use Rattle.goal_terms.specs.declared.lang.LangTarget.{LangTarget}
use Rattle.goal_terms.specs.declared.lang.LangTarget.TheVariants as target
use Rattle.goal_tables.specs.declared.rows.AdtRow.{AdtRow}
use Rattle.goal_tables.specs.declared.rows.ItemRow.{ItemRow}
use Rattle.goal_tables.specs.declared.rows.TraitRow.{TraitRow}
use Rattle.goal_tables.specs.declared.rows.Tables.{Tables}

-- all lang items
abbrev pub all_lang_items : List LangItem
all_lang_items =
    item.Sized
    ∷ item.Copy
    ∷ item.Clone
    ∷ item.Fn
    ∷ item.FnMut
    ∷ item.FnOnce
    ∷ item.FnPtr
    ∷ item.Tuple
    ∷ item.Pointee
    ∷ item.DiscriminantKind
    ∷ item.Destruct
    ∷ item.Field
    ∷ item.Output
    ∷ item.Metadata
    ∷ item.Discriminant
    ∷ item.Base
    ∷ item.FieldType
    ∷ item.DynMetadata
    ∷ []

-- no row names a lang item
unfoldable pub lang_item_missing : Tables → Bool
lang_item_missing t = list_any (λ i. is_none (lang_of t i)) all_lang_items

-- the parameters of a lang item's trait, if it names a trait
unfoldable pub params_of_lang : LangItem → Option (List ParamKind)
params_of_lang item.Fn = Some (kind.Ty ∷ kind.Ty ∷ [])
params_of_lang item.FnMut = Some (kind.Ty ∷ kind.Ty ∷ [])
params_of_lang item.FnOnce = Some (kind.Ty ∷ kind.Ty ∷ [])
params_of_lang item.Output = None
params_of_lang item.Metadata = None
params_of_lang item.Discriminant = None
params_of_lang item.Base = None
params_of_lang item.FieldType = None
params_of_lang item.DynMetadata = None
params_of_lang _ = Some (kind.Ty ∷ [])

-- the lang items that name the items of a lang item's trait
unfoldable pub items_of_lang : LangItem → List LangItem
items_of_lang item.FnOnce = item.Output ∷ []
items_of_lang item.Pointee = item.Metadata ∷ []
items_of_lang item.DiscriminantKind = item.Discriminant ∷ []
items_of_lang item.Field = item.Base ∷ item.FieldType ∷ []
items_of_lang _ = []

-- the lang item that names the trait of a lang item's item, if it names an item
unfoldable pub trait_of_lang : LangItem → Option LangItem
trait_of_lang item.Output = Some item.FnOnce
trait_of_lang item.Metadata = Some item.Pointee
trait_of_lang item.Discriminant = Some item.DiscriminantKind
trait_of_lang item.Base = Some item.Field
trait_of_lang item.FieldType = Some item.Field
trait_of_lang _ = None

-- whether a lang item names an ADT
unfoldable pub is_adt_lang : LangItem → Bool
is_adt_lang item.DynMetadata = true
is_adt_lang _ = false

-- a trait doesn't list the item of a lang item
abbrev pub lacks_lang_item : Tables → TraitRow → LangItem → Bool
lacks_lang_item t q i = option_holds (λ id. not (lists_number q id.0)) (lang_item_of t i)

-- a trait lists other items than those that its lang items name
abbrev pub has_other_items : Tables → LangItem → TraitRow → Bool
has_other_items t i q = not (length q.items.items == length (items_of_lang i)) || list_any (λ j. lacks_lang_item t q j) (items_of_lang i)

-- whether a trait's parameters are other than those of a lang item's trait
abbrev pub has_other_params : List ParamKind → Option (List ParamKind) → Bool
has_other_params ps None = false
has_other_params ps (Some ks) = not (same_kinds ps ks)

-- a trait is an alias, or has other parameters or items than the trait of a lang item
unfoldable pub is_other_trait : Tables → LangItem → TraitRow → Bool
is_other_trait t i q = has_other_params q.params.items (params_of_lang i) || q.is_alias || has_other_items t i q

-- an item is of another trait than the item of a lang item
abbrev pub is_in_other_trait : Tables → LangItem → ItemRow → Bool
is_in_other_trait t i q = option_holds (λ id. not (q.trait_id.0 == id.0)) (option_and_then (lang_trait_of t) (trait_of_lang i))

-- an item is a constant, has parameters or predicates of its own, or is of another trait than the item of a lang item
unfoldable pub is_other_item : Tables → LangItem → ItemRow → Bool
is_other_item t i q =
    q.is_const || not (length q.own_params.items == 0) || not (length q.own_predicates.items == 0) || is_in_other_trait t i q

-- an ADT's parameters are other than one type
abbrev pub is_other_adt : AdtRow → Bool
is_other_adt q = not (same_kinds q.params.items (kind.Ty ∷ []))

-- what a lang item names is of another sort than the lang item, or its row doesn't fit
abbrev pub names_other : Tables → LangItem → LangTarget → Bool
names_other t i (target.Trait id) = is_none (params_of_lang i) || option_holds (is_other_trait t i) (trait_of t id)
names_other t i (target.Item id) = is_none (trait_of_lang i) || option_holds (is_other_item t i) (item_of t id)
names_other t i (target.Adt id) = not (is_adt_lang i) || option_holds is_other_adt (adt_of t id)

-- a lang item names something that doesn't fit it
unfoldable pub builtin_item_mismatch : Tables → Bool
builtin_item_mismatch t = list_any (λ r. names_other t r.item r.target) t.lang_items.items
