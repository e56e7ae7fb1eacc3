-- Words on lists and on rows that may be missing.
use Rattle.std.specs.Prelude.{Bool, true, false, List, [], ◌∷◌, Option, Some, None, ◌⊎◌}

-- every element has a property
unfoldable pub Each : {A : Type 0} → (A → Type 0) → List A → Type 0
Each P [] = Unit {0}
Each P (x ∷ xs) = P x × Each P xs

-- some element has it
unfoldable pub Exists : {A : Type 0} → (A → Type 0) → List A → Type 0
Exists P [] = ⊥
Exists P (x ∷ xs) = P x ⊎ Exists P xs

-- two lists are of one length, and related in pairs
unfoldable pub Pairs : {A B : Type 0} → (A → B → Type 0) → List A → List B → Type 0
Pairs R [] [] = Unit {0}
Pairs R [] (y ∷ ys) = ⊥
Pairs R (x ∷ xs) [] = ⊥
Pairs R (x ∷ xs) (y ∷ ys) = R x y × Pairs R xs ys

-- two lists differ in length, or some pair is related
unfoldable pub SomePair : {A B : Type 0} → (A → B → Type 0) → List A → List B → Type 0
SomePair R [] [] = ⊥
SomePair R [] (y ∷ ys) = Unit {0}
SomePair R (x ∷ xs) [] = Unit {0}
SomePair R (x ∷ xs) (y ∷ ys) = R x y ⊎ SomePair R xs ys

-- a row is there, and has a property
unfoldable pub OfRow : {A : Type 0} → Option A → (A → Type 0) → Type 0
OfRow None P = ⊥
OfRow (Some r) P = P r

-- one of two claims, by a test
unfoldable pub Either : Bool → Type 0 → Type 0 → Type 0
Either true A B = A
Either false A B = B
