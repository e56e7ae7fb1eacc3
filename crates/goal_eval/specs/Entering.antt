-- What enters a set.
use Rattle.std.specs.Prelude.{◌≡◌, ◌⊎◌, List, [], ◌∷◌, ◌++◌}
use Rattle.std.specs.List.{Contains}

-- something enters a set in order of first entry: it stands there already, or it comes last
abbrev pub Enters : {A : Type 0} → A → List A → List A → Type 0
Enters x old new = (Contains old x × (new ≡ old)) ⊎ ((Contains old x → ⊥) × (new ≡ old ++ x ∷ []))

-- it enters, or nothing does
abbrev pub EntersAtMost : {A : Type 0} → A → List A → List A → Type 0
EntersAtMost x old new = (new ≡ old) ⊎ Enters x old new
