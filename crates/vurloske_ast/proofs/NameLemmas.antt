use Rattle.std.proofs.Common.{◌≡◌, ℕ, ◌<◌, List, length, position, slice_get, Some, sym, ap, arith, inl, inr}
use Rattle.std.specs.Option.{option_map}
use Rattle.std.specs.Str.{bytes_eq}
use Rattle.std.specs.Cmp.Lexicographic.{bytes_decides}
use Rattle.std.proofs.lemmas.List.Quantifiers.{position-Some}
use Rattle.std.proofs.lemmas.Option.{slice_get_cases}

-- what stands at the first place where a text is found is that text
pub position-names : {X : Type 0} (text : X → List ℕ) (name : List ℕ) (xs : List X) (i : ℕ) → position (λ x. bytes_eq name (text x)) xs ≡ Some i →
    i < length xs → option_map text (slice_get xs i) ≡ Some name
position-names {X} text name xs i found within = elim (slice_get_cases xs i).1 [
  | inl (x, inside, here, read) ↦ rw here (ap Some (sym ((bytes_decides name (text x)).0 (rw read at (position-Some (λ x. bytes_eq name (text x)) xs i x found).1))))
  | inr (outside, _) ↦ absurd (omega arith)
]
