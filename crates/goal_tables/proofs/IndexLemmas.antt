-- The parts of an index, row by row.
use Rattle.std.proofs.Common.{◌≡◌, ℕ, zero, suc, ◌<◌, ◌≤◌, Bool, true, false, cond, List, [], ◌∷◌, ◌++◌, length, map, get_or, Option, Some, None, refl, sym, ap, ap₂, ◌∙◌, append-nil, arith}
use Rattle.std.specs.Prelude.{◌==◌, ◌||◌, if◌then◌else◌, slice_get, is_some}
use Rattle.std.proofs.lemmas.List.{map_push}
use Rattle.std.proofs.lemmas.List.Elements.{filter-append}
use Rattle.std.specs.HashMap.{get}
use Rattle.std.specs.List.{list_any}
use Rattle.std.specs.Option.{option_map}
use Rattle.goal_terms.specs.declared.ids.ItemId.{ItemId}
use Rattle.goal_tables.specs.Places.{first_place, IsIndexOf}
use Rattle.goal_tables.specs.Options.{option_holds}
use Rattle.goal_tables.specs.Indexed.{IsRowIndex, AreListings, listed_numbers, lists_number, lists_twice, impls_numbered}
use Rattle.goal_tables.specs.declared.index.RowIndex.{RowIndex}
use Rattle.goal_tables.specs.declared.rows.TraitRow.{TraitRow}
use Rattle.goal_tables.specs.declared.rows.ImplRow.{ImplRow}

pub listings-step : (rs : List TraitRow) (is : List RowIndex) (r : TraitRow) (i : RowIndex) →
    AreListings rs is → IsRowIndex (listed_numbers r) i → AreListings (rs ++ r ∷ []) (is ++ i ∷ [])
unfolding AreListings
listings-step [] [] r i h k = (k, tt)
listings-step [] (j ∷ is) r i h k = absurd h
listings-step (q ∷ rs) [] r i h k = absurd h
listings-step (q ∷ rs) (j ∷ is) r i h k = (h.0, listings-step rs is r i h.1 k)

pub listings-start : AreListings [] []
unfolding AreListings
listings-start = tt

some_map : (o : Option ℕ) → is_some (option_map suc o) ≡ is_some o
some_map None = refl
some_map (Some n) = refl

place_on : (b : Bool) (o : Option ℕ) (rest : Bool) → is_some o ≡ rest → is_some (cond b (Some 0) (option_map suc o)) ≡ b || rest
place_on true o rest e = refl
place_on false o rest e = some_map o ∙ e

-- an item has a place exactly where it is listed
listed : (items : List ItemId) (n : ℕ) → is_some (first_place ◌==◌ (map (λ i. i.0) items) n) ≡ list_any (λ i. i.0 == n) items
listed [] n = refl
listed (x ∷ items) n = place_on (x.0 == n) (first_place ◌==◌ (map (λ i. i.0) items) n) (list_any (λ i. i.0 == n) items) (listed items n)

pub listed_at : (rs : List TraitRow) (is : List RowIndex) (p n : ℕ) (d : RowIndex) → AreListings rs is → p < length is →
    is_some (get ◌==◌ (get_or is p d).places n) ≡ option_holds (λ r. lists_number r n) (slice_get rs p)
unfolding AreListings IsIndexOf
listed_at [] [] p n d h l = absurd (omega arith)
listed_at [] (j ∷ is) p n d h l = absurd h
listed_at (q ∷ rs) [] p n d h l = absurd h
listed_at (q ∷ rs) (j ∷ is) zero n d h l = ap is_some (h.0.places n) ∙ listed q.items.items n
listed_at (q ∷ rs) (j ∷ is) (suc p) n d h l = listed_at rs is p n d h.1 (omega arith)

pub listed_past : (rs : List TraitRow) (is : List RowIndex) (p n : ℕ) → AreListings rs is → length is ≤ p →
    false ≡ option_holds (λ r. lists_number r n) (slice_get rs p)
unfolding AreListings
listed_past [] [] p n h l = refl
listed_past [] (j ∷ is) p n h l = absurd h
listed_past (q ∷ rs) [] p n h l = absurd h
listed_past (q ∷ rs) (j ∷ is) zero n h l = absurd (omega arith)
listed_past (q ∷ rs) (j ∷ is) (suc p) n h l = listed_past rs is p n h.1 (omega arith)

pub ruleset listing = (listed_at, listed_past)

pub some_lists_twice-doubled : (rs : List TraitRow) (is : List RowIndex) → AreListings rs is → list_any (λ i. i.doubled) is ≡ list_any lists_twice rs
unfolding AreListings
some_lists_twice-doubled [] [] h = refl
some_lists_twice-doubled [] (j ∷ is) h = absurd h
some_lists_twice-doubled (q ∷ rs) [] h = absurd h
some_lists_twice-doubled (q ∷ rs) (j ∷ is) h =
    ap (λ b. b || list_any (λ i. i.doubled) is) h.0.doubled ∙ ap (λ b. lists_twice q || b) (some_lists_twice-doubled rs is h.1)

pub ruleset doubling = (some_lists_twice-doubled)

added_on : {X : Type 0} (rows : List X) (places : List ℕ) (found : List X) (r : X) (i : ℕ) (b : Bool) → slice_get rows i ≡ Some r →
    map (slice_get rows) places ≡ map Some found → map (slice_get rows) (if b then places ++ i ∷ [] else places) ≡ map Some (found ++ cond b (r ∷ []) [])
added_on rows places found r i true here so = map_push (slice_get rows) places i ∙ ap₂ (λ xs x. xs ++ x ∷ []) so here ∙ sym (map_push Some found r)
added_on rows places found r i false here so = so ∙ ap (map Some) (sym (append-nil found))

-- one more impl is the last of its trait's
pub impls_numbered-step : (rows done : List ImplRow) (places : List ℕ) (r : ImplRow) (i n : ℕ) → slice_get rows i ≡ Some r →
    map (slice_get rows) places ≡ map Some (impls_numbered done n) →
    map (slice_get rows) (if r.trait_id.0 == n then places ++ i ∷ [] else places) ≡ map Some (impls_numbered (done ++ r ∷ []) n)
impls_numbered-step rows done places r i n here so =
    added_on rows places (impls_numbered done n) r i (r.trait_id.0 == n) here so
    ∙ ap (map Some) (sym (filter-append (λ q. q.trait_id.0 == n) done (r ∷ [])))
