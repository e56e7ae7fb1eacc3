-- Faults of traits.
use Rattle.std.specs.Prelude.{Bool, ◌==◌, ◌&&◌, not, List, [], ◌∷◌, length}
use Rattle.std.specs.List.{list_any}
use Rattle.std.specs.Option.{option_and_then}
use Rattle.goal_tables.specs.Options.{option_holds}
use Rattle.goal_tables.specs.Rows.{trait_of, lang_trait_of}
use Rattle.goal_terms.specs.declared.lang.LangItem.{LangItem}
use Rattle.goal_terms.specs.declared.lang.LangItem.TheVariants as item
use Rattle.goal_tables.specs.declared.rows.Tables.{Tables}

-- a trait is an auto trait
unfoldable pub auto_trait : Tables → Bool
auto_trait t = list_any (λ r. r.is_auto) t.traits.items

-- the lang items whose traits are never const
abbrev pub never_const : List LangItem
never_const = item.Sized ∷ item.FnPtr ∷ item.Tuple ∷ item.Pointee ∷ item.DiscriminantKind ∷ item.Field ∷ []

-- whether the trait of a lang item may be const
abbrev pub trait_allows_const : Tables → LangItem → Bool
trait_allows_const t i = option_holds (λ r. r.allows_const) (option_and_then (trait_of t) (lang_trait_of t i))

-- a lang trait that is never const may be const
unfoldable pub lang_allows_const : Tables → Bool
lang_allows_const t = list_any (λ i. trait_allows_const t i) never_const

-- a trait alias has items
unfoldable pub alias_with_items : Tables → Bool
alias_with_items t = list_any (λ r. r.is_alias && not (length r.items.items == 0)) t.traits.items
