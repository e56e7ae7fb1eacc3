-- Faults of impls.
use Rattle.std.specs.Prelude.{Bool, true, false, ◌==◌, ◌&&◌, ◌||◌, not, length, is_none, is_some}
use Rattle.std.specs.List.{list_any}
use Rattle.goal_terms.specs.declared.ids.ImplId.{ImplId}
use Rattle.goal_terms.specs.declared.ids.TraitId.{TraitId}
use Rattle.goal_tables.specs.FixedParams.{impl_has_unfixed, inherent_has_unfixed}
use Rattle.goal_tables.specs.LangFaults.{params_of_lang}
use Rattle.goal_tables.specs.Options.{option_holds}
use Rattle.goal_tables.specs.Rows.{trait_of, impl_of, items_of, lang_naming}
use Rattle.goal_tables.specs.SourceFaults.{is_positive}
use Rattle.goal_terms.specs.declared.lang.LangItem.{LangItem}
use Rattle.goal_terms.specs.declared.lang.LangItem.TheVariants as item
use Rattle.goal_terms.specs.declared.lang.LangTarget.TheVariants as target
use Rattle.goal_tables.specs.declared.rows.ImplPolarity.{ImplPolarity}
use Rattle.goal_tables.specs.declared.rows.ImplPolarity.TheVariants as polarity
use Rattle.goal_tables.specs.declared.rows.ImplRow.{ImplRow}
use Rattle.goal_tables.specs.declared.rows.Tables.{Tables}

-- whether an impl only bars a refutation
abbrev pub is_reservation : ImplPolarity → Bool
is_reservation polarity.Positive = false
is_reservation polarity.Negative = false
is_reservation polarity.Reservation = true

-- a reservation impl of a trait that has items
abbrev pub reserves_items : Tables → ImplRow → Bool
reserves_items t r = is_reservation r.polarity && not (length (items_of t r.trait_id) == 0)

-- a trait with items has a reservation impl
unfoldable pub reservation_with_items : Tables → Bool
reservation_with_items t = list_any (λ r. reserves_items t r) t.impls.items

-- whether the trait of a lang item may have impls beside its built-in ones
abbrev pub allows_impls : LangItem → Bool
allows_impls item.Copy = true
allows_impls item.Clone = true
allows_impls _ = false

-- whether a lang item names a trait, and that trait may not have impls
abbrev pub bars_impls : LangItem → Bool
bars_impls i = is_some (params_of_lang i) && not (allows_impls i)

-- whether built-in rules alone say which types have a trait
abbrev pub is_builtin_trait : Tables → TraitId → Bool
is_builtin_trait t i = option_holds (λ r. bars_impls r.item) (lang_naming t (target.Trait i))

-- whether a trait is an alias
abbrev pub is_trait_alias : Tables → TraitId → Bool
is_trait_alias t i = option_holds (λ r. r.is_alias) (trait_of t i)

-- a trait that built-in rules decide, or a trait alias, has an impl
unfoldable pub impl_of_builtin_trait : Tables → Bool
impl_of_builtin_trait t = list_any (λ r. is_builtin_trait t r.trait_id || is_trait_alias t r.trait_id) t.impls.items

-- a constant of an inherent impl has no value
unfoldable pub inherent_const_without_value : Tables → Bool
inherent_const_without_value t = list_any (λ r. r.is_const && is_none r.value) t.inherent_items.items

-- a type or const parameter of an impl doesn't stand in its header outside aliases
unfoldable pub unfixed_parameter : Tables → Bool
unfixed_parameter t = list_any impl_has_unfixed t.impls.items || list_any inherent_has_unfixed t.inherent_impls.items

-- an impl lists another that isn't positive, or of another trait
abbrev pub cannot_specialize : Tables → ImplRow → ImplId → Bool
cannot_specialize t r i = option_holds (λ q. not (is_positive q.polarity) || not (q.trait_id.0 == r.trait_id.0)) (impl_of t i)

-- an impl isn't positive, and has a list of more special ones
abbrev pub must_not_list : ImplRow → Bool
must_not_list r = not (is_positive r.polarity) && not (length r.more_special.items == 0)

-- an impl must not have its list, or one of the list cannot specialize it
abbrev pub lists_wrongly : Tables → ImplRow → Bool
lists_wrongly t r = must_not_list r || list_any (λ i. cannot_specialize t r i) r.more_special.items

-- some impl has such a list
unfoldable pub specialization_mismatch : Tables → Bool
specialization_mismatch t = list_any (λ r. lists_wrongly t r) t.impls.items
