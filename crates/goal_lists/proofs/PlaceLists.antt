-- Places in a list, and what stands there.
use Rattle.std.proofs.Common.{◌≡◌, ℕ, zero, suc, ◌<◌, List, [], ◌∷◌, length, map, get_or, Some, sym, ap, ◌∙◌, arith}
use Rattle.std.specs.Prelude.{slice_get}
use Rattle.std.proofs.lemmas.List.{length-map}
use Rattle.std.proofs.lemmas.Option.{slice_get_within}

-- as many elements as places
pub places-length : {X : Type 0} (rows : List X) (places : List ℕ) (found : List X) → map (slice_get rows) places ≡ map Some found →
    length places ≡ length found
places-length rows places found h = sym (length-map places (slice_get rows)) ∙ ap length h ∙ length-map found Some

-- each place is one of the list
pub place-within : {X : Type 0} (rows : List X) (places : List ℕ) (found : List X) (i : ℕ) → map (slice_get rows) places ≡ map Some found →
    i < length places → get_or places i 0 < length rows
place-within rows [] found i h l = absurd (omega arith)
place-within rows (p ∷ ps) [] i h l = absurd (cc)
place-within rows (p ∷ ps) (r ∷ rs) zero h l = slice_get_within rows p r (cc)
place-within rows (p ∷ ps) (r ∷ rs) (suc i) h l = place-within rows ps rs i (cc) (omega arith)

-- what stands at the next place is the next element
pub at-place : {X : Type 0} (rows : List X) (places : List ℕ) (found : List X) (i : ℕ) (r : X) → map (slice_get rows) places ≡ map Some found →
    i < length places → slice_get rows (get_or places i 0) ≡ Some r → r ≡ get_or found i r
at-place rows [] found i r h l here = absurd (omega arith)
at-place rows (p ∷ ps) [] i r h l here = absurd (cc)
at-place rows (p ∷ ps) (q ∷ rs) zero r h l here = cc
at-place rows (p ∷ ps) (q ∷ rs) (suc i) r h l here = at-place rows ps rs i r (cc) (omega arith) here
