-- What holds of each and of some element of a list, where elements were left out of which one thing fails or another holds.
use Rattle.std.proofs.Common.{◌≡◌, Bool, true, false, cond, List, [], ◌∷◌, filter, refl, inl, inr}
use Rattle.goal_lists.specs.Words.{Each, Exists}

kept-out : {A : Type 0} (P : A → Type 0) (b : Bool) (x : A) (ks xs : List A) → (Exists P ks → Exists P xs) → Exists P (cond b (x ∷ ks) ks) → Exists P (x ∷ xs)
unfolding Exists
kept-out P true x ks xs f (inl p) = inl p
kept-out P true x ks xs f (inr h) = inr (f h)
kept-out P false x ks xs f h = inr (f h)

kept-in : {A : Type 0} (P : A → Type 0) (b : Bool) (x : A) (ks xs : List A) → (b ≡ false → P x → ⊥) → (Exists P xs → Exists P ks) → Exists P (x ∷ xs) → Exists P (cond b (x ∷ ks) ks)
unfolding Exists
kept-in P true x ks xs n f (inl p) = inl p
kept-in P true x ks xs n f (inr h) = inr (f h)
kept-in P false x ks xs n f (inl p) = absurd (n refl p)
kept-in P false x ks xs n f (inr h) = f h

-- what some kept element has, some element has
pub exists-kept : {A : Type 0} (P : A → Type 0) (f : A → Bool) (xs : List A) → Exists P (filter f xs) → Exists P xs
exists-kept P f [] h = h
exists-kept P f (x ∷ xs) h = kept-out P (f x) x (filter f xs) xs (exists-kept P f xs) h

-- and the other way round, where none that is left out has it
pub kept-exists : {A : Type 0} (P : A → Type 0) (f : A → Bool) → ((x : A) → f x ≡ false → P x → ⊥) → (xs : List A) → Exists P xs → Exists P (filter f xs)
kept-exists P f n [] h = h
kept-exists P f n (x ∷ xs) h = kept-in P (f x) x (filter f xs) xs (n x) (kept-exists P f n xs) h

each-in : {A : Type 0} (P : A → Type 0) (b : Bool) (x : A) (ks : List A) → P x → Each P ks → Each P (cond b (x ∷ ks) ks)
unfolding Each
each-in P true x ks p h = (p, h)
each-in P false x ks p h = h

each-out : {A : Type 0} (P : A → Type 0) (b : Bool) (x : A) (ks xs : List A) → (b ≡ false → P x) → (Each P ks → Each P xs) → Each P (cond b (x ∷ ks) ks) → Each P (x ∷ xs)
unfolding Each
each-out P true x ks xs n f h = (h.0, f h.1)
each-out P false x ks xs n f h = (n refl, f h)

-- what each element has, each kept one has
pub each-kept : {A : Type 0} (P : A → Type 0) (f : A → Bool) (xs : List A) → Each P xs → Each P (filter f xs)
unfolding Each
each-kept P f [] h = h
each-kept P f (x ∷ xs) h = each-in P (f x) x (filter f xs) h.0 (each-kept P f xs h.1)

-- and the other way round, where each that is left out has it
pub kept-each : {A : Type 0} (P : A → Type 0) (f : A → Bool) → ((x : A) → f x ≡ false → P x) → (xs : List A) → Each P (filter f xs) → Each P xs
kept-each P f n [] h = h
kept-each P f n (x ∷ xs) h = each-out P (f x) x (filter f xs) xs (n x) (kept-each P f n xs) h
