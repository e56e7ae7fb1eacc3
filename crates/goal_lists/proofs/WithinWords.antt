-- What holds of each, of some or of pairs of elements, carried over by a function.
use Rattle.std.proofs.Common.{◌≡◌, ◌⊎◌, inl, inr, Bool, true, false, List, [], ◌∷◌, Option, Some, None, refl}
use Rattle.goal_lists.specs.Words.{Each, Exists, Pairs, SomePair, OfRow, Either}

-- a property of every element, by one that implies it
pub each-map : {A : Type 0} {P Q : A → Type 0} → ((x : A) → P x → Q x) → (xs : List A) → Each P xs → Each Q xs
unfolding Each
each-map f [] h = tt
each-map f (x ∷ xs) h = (f x h.0, each-map f xs h.1)

-- a property of some element, by one that implies it
pub exists-map : {A : Type 0} {P Q : A → Type 0} → ((x : A) → P x → Q x) → (xs : List A) → Exists P xs → Exists Q xs
unfolding Exists
exists-map f [] h = h
exists-map f (x ∷ xs) (inl h) = inl (f x h)
exists-map f (x ∷ xs) (inr h) = inr (exists-map f xs h)

-- a relation of all pairs, by one that implies it
pub pairs-map : {A B : Type 0} {R Q : A → B → Type 0} → ((x : A) (y : B) → R x y → Q x y) → (xs : List A) (ys : List B) → Pairs R xs ys → Pairs Q xs ys
unfolding Pairs
pairs-map f [] [] h = h
pairs-map f [] (y ∷ ys) h = h
pairs-map f (x ∷ xs) [] h = h
pairs-map f (x ∷ xs) (y ∷ ys) h = (f x y h.0, pairs-map f xs ys h.1)

-- a relation of some pair, by one that implies it
pub some_pair-map : {A B : Type 0} {R Q : A → B → Type 0} → ((x : A) (y : B) → R x y → Q x y) → (xs : List A) (ys : List B) → SomePair R xs ys → SomePair Q xs ys
unfolding SomePair
some_pair-map f [] [] h = h
some_pair-map f [] (y ∷ ys) h = h
some_pair-map f (x ∷ xs) [] h = h
some_pair-map f (x ∷ xs) (y ∷ ys) (inl h) = inl (f x y h)
some_pair-map f (x ∷ xs) (y ∷ ys) (inr h) = inr (some_pair-map f xs ys h)

-- a property of a row, by one that implies it for the row that was found
pub of_row-map_found : {A : Type 0} {P Q : A → Type 0} (o : Option A) → ((r : A) → o ≡ Some r → P r → Q r) → OfRow o P → OfRow o Q
unfolding OfRow
of_row-map_found None f h = h
of_row-map_found (Some r) f h = f r refl h

-- a property of a row, by one that implies it
pub of_row-map : {A : Type 0} {P Q : A → Type 0} (o : Option A) → ((r : A) → P r → Q r) → OfRow o P → OfRow o Q
unfolding OfRow
of_row-map None f h = h
of_row-map (Some r) f h = f r h

-- one of two claims, by claims that imply each
pub either-map : (b : Bool) {A B C D : Type 0} → (A → C) → (B → D) → Either b A B → Either b C D
unfolding Either
either-map true f g h = f h
either-map false f g h = g h

-- one of two claims, by claims that imply each, and by an equal test
pub either-map_test : (b c : Bool) {A B C D : Type 0} → c ≡ b → (A → C) → (B → D) → Either b A B → Either c C D
unfolding Either
either-map_test true true e f g h = f h
either-map_test true false e f g h = absurd (cc)
either-map_test false true e f g h = absurd (cc)
either-map_test false false e f g h = g h

-- either of two claims, by claims that imply each
pub sum-map : {A B C D : Type 0} → (A → C) → (B → D) → A ⊎ B → C ⊎ D
sum-map f g (inl h) = inl (f h)
sum-map f g (inr h) = inr (g h)
