-- Faults of the items of traits and of the sources of impls.
use Rattle.std.specs.Prelude.{Bool, true, false, ◌==◌, ◌&&◌, ◌||◌, not, is_none}
use Rattle.std.specs.List.{list_any}
use Rattle.goal_terms.specs.declared.ids.ItemId.{ItemId}
use Rattle.goal_tables.specs.Options.{option_holds}
use Rattle.goal_tables.specs.Indexed.{lists_number, lists_twice}
use Rattle.goal_tables.specs.ParamKinds.{same_kinds}
use Rattle.goal_tables.specs.Rows.{trait_of, item_of, impl_of, definition_of, source_of, items_of, doubled_source}
use Rattle.goal_tables.specs.declared.rows.Container.{Container}
use Rattle.goal_tables.specs.declared.rows.Container.TheVariants as container
use Rattle.goal_tables.specs.declared.rows.DefRow.{DefRow}
use Rattle.goal_tables.specs.declared.rows.ImplPolarity.{ImplPolarity}
use Rattle.goal_tables.specs.declared.rows.ImplPolarity.TheVariants as polarity
use Rattle.goal_tables.specs.declared.rows.ImplRow.{ImplRow}
use Rattle.goal_tables.specs.declared.rows.ItemRow.{ItemRow}
use Rattle.goal_tables.specs.declared.rows.Source.{Source}
use Rattle.goal_tables.specs.declared.rows.Source.TheVariants as source
use Rattle.goal_tables.specs.declared.rows.SourceRow.{SourceRow}
use Rattle.goal_tables.specs.declared.rows.Tables.{Tables}
use Rattle.goal_tables.specs.declared.rows.TraitRow.{TraitRow}

-- an item that a trait lists names another trait
abbrev pub names_other_trait : Tables → TraitRow → ItemId → Bool
names_other_trait t r i = option_holds (λ q. not (q.trait_id.0 == r.id.0)) (item_of t i)

-- a trait lists an item of another trait
abbrev pub lists_other_item : Tables → TraitRow → Bool
lists_other_item t r = list_any (λ i. names_other_trait t r i) r.items.items

-- an item names a trait that doesn't list it
abbrev pub is_not_listed : Tables → ItemRow → Bool
is_not_listed t r = option_holds (λ q. not (lists_number q r.id.0)) (trait_of t r.trait_id)

-- whether an impl says that its trait holds
abbrev pub is_positive : ImplPolarity → Bool
is_positive polarity.Positive = true
is_positive polarity.Negative = false
is_positive polarity.Reservation = false

-- a positive impl has no source for an item of its trait
abbrev pub lacks_source : Tables → ImplRow → Bool
lacks_source t r = is_positive r.polarity && list_any (λ i. is_none (source_of t r.id i)) (items_of t r.trait_id)

-- an item is of another trait than an impl
abbrev pub is_of_other_trait : Tables → ImplRow → ItemId → Bool
is_of_other_trait t q i = option_holds (λ r. not (r.trait_id.0 == q.trait_id.0)) (item_of t i)

-- a source stands for an impl that isn't positive, or for an item of another trait
abbrev pub stands_elsewhere : Tables → SourceRow → Bool
stands_elsewhere t r = option_holds (λ q. not (is_positive q.polarity) || is_of_other_trait t q r.item_id) (impl_of t r.impl_id)

-- a definition stands neither in the trait of an impl nor in an impl of that trait
abbrev pub is_outside : Tables → ImplRow → Container → Bool
is_outside t q (container.Impl i) = option_holds (λ p. not (p.trait_id.0 == q.trait_id.0)) (impl_of t i)
is_outside t q (container.Trait i) = not (i.0 == q.trait_id.0)

-- a definition is of another item than its source, or stands outside the trait of the source's impl
abbrev pub is_no_source : Tables → SourceRow → DefRow → Bool
is_no_source t r d = not (d.item.0 == r.item_id.0) || option_holds (λ q. is_outside t q d.container) (impl_of t r.impl_id)

-- the definition that a source names, if any, is none for its impl and item
abbrev pub names_no_source : Tables → SourceRow → Source → Bool
names_no_source t r (source.Def d is_default) = option_holds (is_no_source t r) (definition_of t d)
names_no_source t r (source.Broken n) = false

-- the lists of items in traits don't fit the rows of the items
abbrev pub items_mismatch : Tables → Bool
items_mismatch t =
    list_any (λ r. lists_other_item t r) t.traits.items || list_any lists_twice t.traits.items || list_any (λ r. is_not_listed t r) t.items.items

-- the items of traits and the sources of impls don't fit together
unfoldable pub source_mismatch : Tables → Bool
source_mismatch t =
    items_mismatch t
    || list_any (λ r. lacks_source t r) t.impls.items
    || doubled_source t
    || list_any (λ r. stands_elsewhere t r) t.sources.items
    || list_any (λ r. names_no_source t r r.source) t.sources.items

-- a definition's own parameters have other kinds than its item's
abbrev pub own_parameters_differ : Tables → DefRow → Bool
own_parameters_differ t r = option_holds (λ q. not (same_kinds q.own_params.items r.own_params.items)) (item_of t r.item)

-- the own parameters of some definition have other kinds than its item's
unfoldable pub own_parameters_mismatch : Tables → Bool
own_parameters_mismatch t = list_any (λ r. own_parameters_differ t r) t.definitions.items
