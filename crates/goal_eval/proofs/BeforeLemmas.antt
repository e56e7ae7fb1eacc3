-- What the elements of a list before a place have.
use Rattle.std.proofs.Common.{◌≡◌, ◌⊎◌, inl, inr, ℕ, zero, suc, ◌+◌, ◌<◌, ◌≤◌, List, [], ◌∷◌, length, map, get_or, sym, subst, add-one, arith, ⊎_elim}
use Rattle.goal_lists.specs.Words.{Each, Exists}

-- each element before a place has a property
abbrev pub EachBefore : {A : Type 0} → (A → Type 0) → List A → ℕ → Type 0
EachBefore P xs zero = Unit {0}
EachBefore P [] (suc n) = Unit {0}
EachBefore P (x ∷ xs) (suc n) = P x × EachBefore P xs n

-- some element before a place has it
abbrev pub SomeBefore : {A : Type 0} → (A → Type 0) → List A → ℕ → Type 0
SomeBefore P xs zero = ⊥
SomeBefore P [] (suc n) = ⊥
SomeBefore P (x ∷ xs) (suc n) = P x ⊎ SomeBefore P xs n

each-step : {A : Type 0} (P : A → Type 0) (xs : List A) (n : ℕ) (x : A) → n < length xs → x ≡ get_or xs n x → P x → EachBefore P xs n → EachBefore P xs (suc n)
each-step P [] n x l e p b = tt
each-step P (y ∷ ys) zero x l e p b = (subst P e p, tt)
each-step P (y ∷ ys) (suc n) x l e p b = (b.0, each-step P ys n x (omega arith) e p b.1)

-- one more element
pub each_before-more : {A : Type 0} (P : A → Type 0) (xs : List A) (n : ℕ) (x : A) → n < length xs → x ≡ get_or xs n x → P x → EachBefore P xs n → EachBefore P xs (n + 1)
each_before-more P xs n x l e p b = rw add-one (each-step P xs n x l e p b)

some-step : {A : Type 0} (P : A → Type 0) (xs : List A) (n : ℕ) → SomeBefore P xs n → SomeBefore P xs (suc n)
some-step P xs zero b = absurd b
some-step P [] (suc n) b = b
some-step P (y ∷ ys) (suc n) (inl p) = inl p
some-step P (y ∷ ys) (suc n) (inr b) = inr (some-step P ys n b)

-- one more element, where one before has the property
pub some_before-more : {A : Type 0} (P : A → Type 0) (xs : List A) (n : ℕ) → SomeBefore P xs n → SomeBefore P xs (n + 1)
some_before-more P xs n b = rw add-one (some-step P xs n b)

some-last : {A : Type 0} (P : A → Type 0) (xs : List A) (n : ℕ) (x : A) → n < length xs → x ≡ get_or xs n x → P x → SomeBefore P xs (suc n)
some-last P [] n x l e p = absurd (omega arith)
some-last P (y ∷ ys) zero x l e p = inl (subst P e p)
some-last P (y ∷ ys) (suc n) x l e p = inr (some-last P ys n x (omega arith) e p)

-- one more element, which has the property
pub some_before-here : {A : Type 0} (P : A → Type 0) (xs : List A) (n : ℕ) (x : A) → n < length xs → x ≡ get_or xs n x → P x → SomeBefore P xs (n + 1)
some_before-here P xs n x l e p = rw add-one (some-last P xs n x l e p)

some-apart : {A : Type 0} (P : A → Type 0) (xs : List A) (n : ℕ) (x : A) → n < length xs → x ≡ get_or xs n x → SomeBefore P xs (suc n) → SomeBefore P xs n ⊎ P x
some-apart P [] n x l e b = absurd (omega arith)
some-apart P (y ∷ ys) zero x l e (inl p) = inr (subst P (sym e) p)
some-apart P (y ∷ ys) zero x l e (inr b) = absurd b
some-apart P (y ∷ ys) (suc n) x l e (inl p) = inl (inl p)
some-apart P (y ∷ ys) (suc n) x l e (inr b) = ⊎_elim (λ q. inl (inr q)) inr (some-apart P ys n x (omega arith) e b)

-- which of one more element and those before has the property
pub some_before-apart : {A : Type 0} (P : A → Type 0) (xs : List A) (n : ℕ) (x : A) → n < length xs → x ≡ get_or xs n x → SomeBefore P xs (n + 1) → SomeBefore P xs n ⊎ P x
some_before-apart P xs n x l e b = some-apart P xs n x l e (rw add-one at b)

-- each element of the whole list
pub each_before-end : {A : Type 0} (P : A → Type 0) (xs : List A) (n : ℕ) → length xs ≤ n → EachBefore P xs n → Each P xs
unfolding Each
each_before-end P [] n l b = tt
each_before-end P (x ∷ xs) zero l b = absurd (omega arith)
each_before-end P (x ∷ xs) (suc n) l b = (b.0, each_before-end P xs n (omega arith) b.1)

-- some element of the whole list
pub some_before-whole : {A : Type 0} (P : A → Type 0) (xs : List A) (n : ℕ) → SomeBefore P xs n → Exists P xs
unfolding Exists
some_before-whole P xs zero b = absurd b
some_before-whole P [] (suc n) b = b
some_before-whole P (x ∷ xs) (suc n) (inl p) = inl p
some_before-whole P (x ∷ xs) (suc n) (inr b) = inr (some_before-whole P xs n b)

-- it stands before the end
pub some_before-end : {A : Type 0} (P : A → Type 0) (xs : List A) (n : ℕ) → length xs ≤ n → Exists P xs → SomeBefore P xs n
unfolding Exists
some_before-end P [] n l h = absurd h
some_before-end P (x ∷ xs) zero l h = absurd (omega arith)
some_before-end P (x ∷ xs) (suc n) l (inl p) = inl p
some_before-end P (x ∷ xs) (suc n) l (inr h) = inr (some_before-end P xs n (omega arith) h)

-- what each element has, the one at a place has
pub each-at : {A : Type 0} (P : A → Type 0) (xs : List A) (n : ℕ) (x : A) → n < length xs → x ≡ get_or xs n x → Each P xs → P x
unfolding Each
each-at P [] n x l e h = absurd (omega arith)
each-at P (y ∷ ys) zero x l e h = subst P (sym e) h.0
each-at P (y ∷ ys) (suc n) x l e h = each-at P ys n x (omega arith) e h.1

-- what follows where an element before a place has one property and each has another
pub some_before-each_before : {A C : Type 0} (P Q : A → Type 0) → ((x : A) → P x → Q x → C) → (xs : List A) (n : ℕ) → SomeBefore P xs n → EachBefore Q xs n → C
some_before-each_before P Q f xs zero b h = absurd b
some_before-each_before P Q f [] (suc n) b h = absurd b
some_before-each_before P Q f (x ∷ xs) (suc n) (inl p) h = f x p h.0
some_before-each_before P Q f (x ∷ xs) (suc n) (inr b) h = some_before-each_before P Q f xs n b h.1

-- a property of each element before a place, by one that implies it
pub each_before-map : {A : Type 0} (P Q : A → Type 0) → ((x : A) → P x → Q x) → (xs : List A) (n : ℕ) → EachBefore P xs n → EachBefore Q xs n
each_before-map P Q f xs zero b = tt
each_before-map P Q f [] (suc n) b = tt
each_before-map P Q f (x ∷ xs) (suc n) b = (f x b.0, each_before-map P Q f xs n b.1)

-- properties of what the elements stand for
pub each-mapped : {A B : Type 0} (f : A → B) (P : B → Type 0) (xs : List A) → Each (λ x. P (f x)) xs → Each P (map f xs)
unfolding Each
each-mapped f P [] h = h
each-mapped f P (x ∷ xs) h = (h.0, each-mapped f P xs h.1)

pub mapped-each : {A B : Type 0} (f : A → B) (P : B → Type 0) (xs : List A) → Each P (map f xs) → Each (λ x. P (f x)) xs
unfolding Each
mapped-each f P [] h = h
mapped-each f P (x ∷ xs) h = (h.0, mapped-each f P xs h.1)

pub exists-mapped : {A B : Type 0} (f : A → B) (P : B → Type 0) (xs : List A) → Exists (λ x. P (f x)) xs → Exists P (map f xs)
unfolding Exists
exists-mapped f P [] h = h
exists-mapped f P (x ∷ xs) (inl p) = inl p
exists-mapped f P (x ∷ xs) (inr h) = inr (exists-mapped f P xs h)

pub mapped-exists : {A B : Type 0} (f : A → B) (P : B → Type 0) (xs : List A) → Exists P (map f xs) → Exists (λ x. P (f x)) xs
unfolding Exists
mapped-exists f P [] h = h
mapped-exists f P (x ∷ xs) (inl p) = inl p
mapped-exists f P (x ∷ xs) (inr h) = inr (mapped-exists f P xs h)
