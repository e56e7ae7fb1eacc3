-- Where a key stands first.
use Rattle.std.specs.Prelude.{◌≡◌, ℕ, suc, Bool, ◌==◌, ◌&&◌, List, [], ◌∷◌, ◌||◌, false, Option, Some, None, is_some, if◌then◌else◌}
use Rattle.std.specs.Option.{option_map}
use Rattle.std.specs.HashMap.{get, HashMap}

-- the first place of a key in a list of keys
abbrev pub first_place : {K : Type 0} → (K → K → Bool) → List K → K → Option ℕ
first_place eq [] k = None
first_place eq (x ∷ xs) k = if eq x k then Some 0 else option_map suc (first_place eq xs k)

-- a map answers the first place of each key
unfoldable pub IsIndexOf : {K S : Type 0} → (K → K → Bool) → List K → HashMap K ℕ S → Type 0
IsIndexOf {K} eq keys places = (k : K) → get eq places k ≡ first_place eq keys k

-- whether two pairs of numbers are the same
abbrev pub same_pair : ℕ × ℕ → ℕ × ℕ → Bool
same_pair p q = (p.0 == q.0) && (p.1 == q.1)

-- two keys of a list are the same
abbrev pub has_double : {K : Type 0} → (K → K → Bool) → List K → Bool
has_double eq [] = false
has_double eq (x ∷ xs) = is_some (first_place eq xs x) || has_double eq xs
