-- Tables with the places of their rows.
use Rattle.std.specs.Prelude.{◌≡◌, ◌==◌, ◌||◌, ◌<◌, ◌≤◌, ℕ, Bool, List, [], ◌∷◌, length, get_or, map, filter, slice_get, Option, Some, None, Vec}
use Rattle.std.specs.HashMap.{get, HashMap}
use Rattle.std.specs.List.{list_any, All, Contains}
use Rattle.goal_tables.specs.FixedParams.{impl_has_unfixed, inherent_has_unfixed}
use Rattle.goal_tables.specs.ImplsByHead.{AreKeyLists}
use Rattle.goal_tables.specs.Places.{IsIndexOf, same_pair, has_double}
use Rattle.goal_tables.specs.Rows.{same_lang_item, same_lang_target}
use Rattle.goal_tables.specs.Specialized.{reached, specialization_cycle}
use Rattle.goal_tables.specs.declared.index.RowIndex.{RowIndex}
use Rattle.goal_tables.specs.declared.tables_index.TraitIndex.{TraitIndex}
use Rattle.goal_tables.specs.declared.tables_index.ImplIndex.{ImplIndex}
use Rattle.goal_tables.specs.declared.tables_index.SourceIndex.{SourceIndex}
use Rattle.goal_tables.specs.declared.tables_index.AliasIndex.{AliasIndex}
use Rattle.goal_tables.specs.declared.tables_index.InherentIndex.{InherentIndex}
use Rattle.goal_tables.specs.declared.tables_index.TypeIndex.{TypeIndex}
use Rattle.goal_tables.specs.declared.tables_index.TermIndex.{TermIndex}
use Rattle.goal_tables.specs.declared.tables_index.HoldIndex.{HoldIndex}
use Rattle.goal_tables.specs.declared.tables_index.LangIndex.{LangIndex}
use Rattle.goal_tables.specs.declared.tables_index.Index.{Index}
use Rattle.goal_tables.specs.declared.rows.Tables.{Tables}
use Rattle.goal_tables.specs.declared.rows.SourceRow.{SourceRow}
use Rattle.goal_terms.specs.declared.lang.LangRow.{LangRow}
use Rattle.goal_tables.specs.declared.rows.TraitRow.{TraitRow}
use Rattle.goal_tables.specs.declared.rows.ImplRow.{ImplRow}

-- the places of ids are right, and whether one stands twice
pub record IsRowIndex (ids : List ℕ) (i : RowIndex) : Type 0 where
  pub places : IsIndexOf ◌==◌ ids i.places
  pub doubled : i.doubled ≡ has_double ◌==◌ ids

-- the numbers of the items that a trait lists
abbrev pub listed_numbers : TraitRow → List ℕ
listed_numbers r = map (λ i. i.0) r.items.items

-- whether a trait lists the item of a number
abbrev pub lists_number : TraitRow → ℕ → Bool
lists_number r n = list_any (λ i. i.0 == n) r.items.items

-- an item stands twice in a trait's list
abbrev pub lists_twice : TraitRow → Bool
lists_twice r = has_double ◌==◌ (listed_numbers r)

-- for each trait the places of the items in its list
unfoldable pub AreListings : List TraitRow → List RowIndex → Type 0
AreListings [] [] = Unit {0}
AreListings [] (i ∷ is) = ⊥
AreListings (r ∷ rs) [] = ⊥
AreListings (r ∷ rs) (i ∷ is) = IsRowIndex (listed_numbers r) i × AreListings rs is

-- the places that a map has for a trait
abbrev pub list_at : {A : Type 0} → Option (Vec ℕ A) → List ℕ
list_at None = []
list_at (Some places) = places.items

-- the impls of the trait of a number, in the order of their rows
abbrev pub impls_numbered : List ImplRow → ℕ → List ImplRow
impls_numbered rows n = filter (λ r. r.trait_id.0 == n) rows

-- a map has for each trait the places of its impls
unfoldable pub AreImplLists : {A S : Type 0} → List ImplRow → HashMap ℕ (Vec ℕ A) S → Type 0
AreImplLists {A} {S} rows lists = (n : ℕ) → map (slice_get rows) (list_at (get ◌==◌ lists n)) ≡ map Some (impls_numbered rows n)

-- an impl stands at a place, and the lists lead to it from another, in no more steps than a number and one
abbrev pub IsReachedAt : Tables → ImplRow → ℕ → ℕ → Type 0
IsReachedAt t r m p = (n : ℕ) × (q : ImplRow) × (n ≤ m) × (slice_get t.impls.items p ≡ Some q) × Contains (reached t n r) q

-- an impl stands at one of some places
abbrev pub StandsAmong : List ImplRow → List ℕ → ImplRow → Type 0
StandsAmong rows places q = (p : ℕ) × Contains places p × (slice_get rows p ≡ Some q)

-- the places of the impls that are more special than one: no more than there are impls
pub record AreMoreSpecial (t : Tables) (r : ImplRow) (places : List ℕ) : Type 0 where
  pub few : length places ≤ length t.impls.items
  pub sound : (j : ℕ) → j < length places → IsReachedAt t r j (get_or places j 0)
  pub whole : (n : ℕ) → All (StandsAmong t.impls.items places) (reached t n r)

-- for each impl the places of those that are more special
unfoldable pub AreSpecialLists : {A : Type 0} → Tables → List ImplRow → List (Vec ℕ A) → Type 0
AreSpecialLists t [] [] = Unit {0}
AreSpecialLists t [] (l ∷ ls) = ⊥
AreSpecialLists t (r ∷ rs) [] = ⊥
AreSpecialLists t (r ∷ rs) (l ∷ ls) = AreMoreSpecial t r l.items × AreSpecialLists t rs ls

-- if they are listed so, by an index of the impls' numbers
abbrev pub IfSpecialLists : {A : Type 0} → Tables → RowIndex → List (Vec ℕ A) → Type 0 → Type 0
IfSpecialLists t index lists P = IsRowIndex (map (λ q. q.id.0) t.impls.items) index → AreSpecialLists t t.impls.items lists → P

-- the places of traits and items are right, and those of the items in their traits' lists
pub record IsTraitIndex (t : Tables) (i : TraitIndex) : Type 0 where
  pub traits : IsRowIndex (map (λ r. r.id.0) t.traits.items) i.traits
  pub items : IsRowIndex (map (λ r. r.id.0) t.items.items) i.items
  pub listings : AreListings t.traits.items i.listings.items

-- the places of impls and definitions are right, those of each trait's impls, also by the head of their self type, whether a parameter stands in no header, which impls are more special, and whether one is so than itself
pub record IsImplIndex (t : Tables) (i : ImplIndex) : Type 0 where
  pub impls : IsRowIndex (map (λ r. r.id.0) t.impls.items) i.impls
  pub definitions : IsRowIndex (map (λ r. r.id.0) t.definitions.items) i.definitions
  pub by_trait : AreImplLists t.impls.items i.by_trait
  pub by_head : AreKeyLists t.impls.items i.by_head
  pub unfixed : i.unfixed ≡ list_any impl_has_unfixed t.impls.items
  pub more_special : AreSpecialLists t t.impls.items i.more_special.items
  pub cyclic : i.cyclic ≡ specialization_cycle t

-- the places of sources are right, and whether an impl has two for one item
pub record IsSourceIndex (rows : List SourceRow) (i : SourceIndex) : Type 0 where
  pub places : IsIndexOf same_pair (map (λ r. (r.impl_id.0, r.item_id.0)) rows) i.places
  pub doubled : i.doubled ≡ has_double same_pair (map (λ r. (r.impl_id.0, r.item_id.0)) rows)

-- the places of free aliases and opaque types are right
pub record IsAliasIndex (t : Tables) (i : AliasIndex) : Type 0 where
  pub free_aliases : IsRowIndex (map (λ r. r.id.0) t.free_aliases.items) i.free_aliases
  pub opaque_types : IsRowIndex (map (λ r. r.id.0) t.opaque_types.items) i.opaque_types

-- the places of inherent impls and their items are right, and whether a parameter stands in no self type
pub record IsInherentIndex (t : Tables) (i : InherentIndex) : Type 0 where
  pub impls : IsRowIndex (map (λ r. r.id.0) t.inherent_impls.items) i.impls
  pub items : IsRowIndex (map (λ r. r.id.0) t.inherent_items.items) i.items
  pub unfixed : i.unfixed ≡ list_any inherent_has_unfixed t.inherent_impls.items

-- the places of ADTs, functions and closures are right
pub record IsTypeIndex (t : Tables) (i : TypeIndex) : Type 0 where
  pub adts : IsRowIndex (map (λ r. r.id.0) t.adts.items) i.adts
  pub functions : IsRowIndex (map (λ r. r.id.0) t.functions.items) i.functions
  pub closures : IsRowIndex (map (λ r. r.id.0) t.closures.items) i.closures

-- the places of lang items and of what they name are right, and whether one stands twice
pub record IsLangIndex (rows : List LangRow) (i : LangIndex) : Type 0 where
  pub items : IsIndexOf same_lang_item (map (λ r. r.item) rows) i.items
  pub targets : IsIndexOf same_lang_target (map (λ r. r.target) rows) i.targets
  pub doubled : i.doubled ≡ (has_double same_lang_item (map (λ r. r.item) rows) || has_double same_lang_target (map (λ r. r.target) rows))

-- the places of the rows that terms name are right
pub record IsTermIndex (t : Tables) (i : TermIndex) : Type 0 where
  pub of_aliases : IsAliasIndex t i.of_aliases
  pub of_inherent : IsInherentIndex t i.of_inherent
  pub of_types : IsTypeIndex t i.of_types

-- the places of the rows that say which traits hold are right
pub record IsHoldIndex (t : Tables) (i : HoldIndex) : Type 0 where
  pub of_traits : IsTraitIndex t i.of_traits
  pub of_impls : IsImplIndex t i.of_impls
  pub of_sources : IsSourceIndex t.sources.items i.of_sources

-- the index says of each id where its row stands, and of each list whether an id stands twice in it
pub record IsIndexed (t : Tables) (i : Index) : Type 0 where
  pub holds : IsHoldIndex t i.holds
  pub terms : IsTermIndex t i.terms
  pub lang : IsLangIndex t.lang_items.items i.lang
