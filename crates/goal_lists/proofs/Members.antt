-- Lists with the same elements, however often and in whatever order: what holds of some or of each element of one does so of the other.
use Rattle.std.proofs.Common.{◌≡◌, ◌⊎◌, inl, inr, Bool, cond, true, false, List, [], ◌∷◌, ◌++◌, map, refl, sym, subst}
use Rattle.std.specs.Prelude.{filter}
use Rattle.goal_lists.specs.Words.{Each, Exists}
use Rattle.goal_lists.proofs.WithinWords.{each-map, exists-map}

-- an element stands in a list
abbrev pub IsIn : {A : Type 0} → A → List A → Type 0
IsIn x xs = Exists (λ q. q ≡ x) xs

-- all elements of a list stand in another
abbrev pub IsPartOf : {A : Type 0} → List A → List A → Type 0
IsPartOf xs ys = (x : _) → IsIn x xs → IsIn x ys

-- what some element has, an element of the list has
pub exists-element : {A : Type 0} (P : A → Type 0) (xs : List A) → Exists P xs → (x : A) × P x × IsIn x xs
unfolding Exists
exists-element P [] h = absurd h
exists-element P (x ∷ xs) (inl p) = (x, p, inl refl)
exists-element P (x ∷ xs) (inr h) = let e = exists-element P xs h in (e.0, e.1, inr e.2)

-- what each element has, an element of the list has
pub each-element : {A : Type 0} (P : A → Type 0) (xs : List A) (x : A) → Each P xs → IsIn x xs → P x
unfolding Each Exists
each-element P [] x h i = absurd i
each-element P (y ∷ ys) x h (inl e) = subst P e h.0
each-element P (y ∷ ys) x h (inr i) = each-element P ys x h.1 i

-- what all elements of a list have, each has
pub each-by_element : {A : Type 0} (P : A → Type 0) (xs : List A) → ((x : A) → IsIn x xs → P x) → Each P xs
unfolding Each Exists
each-by_element P [] f = tt
each-by_element P (x ∷ xs) f = (f x (inl refl), each-by_element P xs (λ y i. f y (inr i)))

-- what some element of a list has, some element of a list around it has; what each element has, each element of a part has
pub exists-part_of : {A : Type 0} (P : A → Type 0) (xs ys : List A) → IsPartOf xs ys → Exists P xs → Exists P ys
exists-part_of P xs ys f h = let e = exists-element P xs h in exists-map (λ q p. subst P (sym p) e.1) ys (f e.0 e.2)

pub each-part_of : {A : Type 0} (P : A → Type 0) (xs ys : List A) → IsPartOf ys xs → Each P xs → Each P ys
each-part_of P xs ys f h = each-by_element P ys (λ x i. each-element P xs x h (f x i))

-- some element of two lists in a row
exists-append_left : {A : Type 0} (P : A → Type 0) (xs ys : List A) → Exists P xs → Exists P (xs ++ ys)
unfolding Exists
exists-append_left P [] ys h = absurd h
exists-append_left P (x ∷ xs) ys (inl p) = inl p
exists-append_left P (x ∷ xs) ys (inr h) = inr (exists-append_left P xs ys h)

exists-append_right : {A : Type 0} (P : A → Type 0) (xs ys : List A) → Exists P ys → Exists P (xs ++ ys)
unfolding Exists
exists-append_right P [] ys h = h
exists-append_right P (x ∷ xs) ys h = inr (exists-append_right P xs ys h)

-- and where it stands
exists-append : {A : Type 0} (P : A → Type 0) (xs ys : List A) → Exists P (xs ++ ys) → Exists P xs ⊎ Exists P ys
unfolding Exists
exists-append P [] ys h = inr h
exists-append P (x ∷ xs) ys (inl p) = inl (inl p)
exists-append P (x ∷ xs) ys (inr h) = elim (exists-append P xs ys h) [ inl a ↦ inl (inr a) | inr b ↦ inr b ]

-- parts of lists in a row
pub part_of-append : {A : Type 0} (xs ys us vs : List A) → IsPartOf xs us → IsPartOf ys vs → IsPartOf (xs ++ ys) (us ++ vs)
part_of-append xs ys us vs f g x h =
    elim (exists-append (λ q. q ≡ x) xs ys h) [
      | inl a ↦ exists-append_left (λ q. q ≡ x) us vs (f x a)
      | inr b ↦ exists-append_right (λ q. q ≡ x) us vs (g x b)
    ]

-- a list is a part of itself, and of an equal one
pub part_of-self : {A : Type 0} (xs : List A) → IsPartOf xs xs
part_of-self xs x h = h

pub part_of-same : {A : Type 0} (xs ys : List A) → xs ≡ ys → IsPartOf xs ys
part_of-same xs ys e x h = subst (IsIn x) e h

false-true : false ≡ true → ⊥
false-true e = cc

-- what some element that passes a test has
kept-out : {A B : Type 0} (P : B → Type 0) (g : A → B) (b : Bool) (x : A) (xs : List A) {Q : Type 0} →
    Exists P (map g (cond b (x ∷ xs) xs)) → ((b ≡ true) × P (g x) → Q) → (Exists P (map g xs) → Q) → Q
unfolding Exists
kept-out P g true x xs (inl p) f k = f (refl, p)
kept-out P g true x xs (inr h) f k = k h
kept-out P g false x xs h f k = k h

kept-in : {A B : Type 0} (P : B → Type 0) (g : A → B) (b : Bool) (x : A) (xs : List A) →
    ((b ≡ true) × P (g x)) ⊎ Exists P (map g xs) → Exists P (map g (cond b (x ∷ xs) xs))
unfolding Exists
kept-in P g true x xs (inl p) = inl p.1
kept-in P g true x xs (inr h) = inr h
kept-in P g false x xs (inl p) = absurd (false-true p.0)
kept-in P g false x xs (inr h) = h

exists-filter : {A B : Type 0} (P : B → Type 0) (g : A → B) (f : A → Bool) (xs : List A) →
    Exists P (map g (filter f xs)) → Exists (λ x. (f x ≡ true) × P (g x)) xs
unfolding Exists
exists-filter P g f [] h = h
exists-filter P g f (x ∷ xs) h = kept-out P g (f x) x (filter f xs) h inl (λ k. inr (exists-filter P g f xs k))

filter-exists : {A B : Type 0} (P : B → Type 0) (g : A → B) (f : A → Bool) (xs : List A) →
    Exists (λ x. (f x ≡ true) × P (g x)) xs → Exists P (map g (filter f xs))
unfolding Exists
filter-exists P g f [] h = h
filter-exists P g f (x ∷ xs) (inl p) = kept-in P g (f x) x (filter f xs) (inl p)
filter-exists P g f (x ∷ xs) (inr h) = kept-in P g (f x) x (filter f xs) (inr (filter-exists P g f xs h))

-- of a part of a list, what passes a test is a part of what passes it
pub part_of-filter : {A B : Type 0} (g : A → B) (f : A → Bool) (xs ys : List A) → IsPartOf xs ys → IsPartOf (map g (filter f xs)) (map g (filter f ys))
part_of-filter g f xs ys p z h =
    filter-exists (λ q. q ≡ z) g f ys (exists-part_of (λ x. (f x ≡ true) × (g x ≡ z)) xs ys p (exists-filter (λ q. q ≡ z) g f xs h))

-- two lists have the same elements
abbrev pub HasSameElements : {A : Type 0} → List A → List A → Type 0
HasSameElements xs ys = IsPartOf xs ys × IsPartOf ys xs

pub same_elements-self : {A : Type 0} (xs : List A) → HasSameElements xs xs
same_elements-self xs = (part_of-self xs, part_of-self xs)

pub same_elements-path : {A : Type 0} (xs ys : List A) → xs ≡ ys → HasSameElements xs ys
same_elements-path xs ys e = (part_of-same xs ys e, part_of-same ys xs (sym e))

pub same_elements-append : {A : Type 0} (xs ys us vs : List A) → HasSameElements xs us → HasSameElements ys vs → HasSameElements (xs ++ ys) (us ++ vs)
same_elements-append xs ys us vs p q = (part_of-append xs ys us vs p.0 q.0, part_of-append us vs xs ys p.1 q.1)

pub same_elements-filter : {A B : Type 0} (g : A → B) (f : A → Bool) (xs ys : List A) →
    HasSameElements xs ys → HasSameElements (map g (filter f xs)) (map g (filter f ys))
same_elements-filter g f xs ys p = (part_of-filter g f xs ys p.0, part_of-filter g f ys xs p.1)

-- over lists with the same elements, what some or each has, by what implies it
pub exists-map_same : {A : Type 0} {P Q : A → Type 0} (xs ys : List A) → HasSameElements xs ys → ((x : A) → P x → Q x) → Exists P xs → Exists Q ys
exists-map_same {Q = Q} xs ys p f h = exists-part_of Q xs ys p.0 (exists-map f xs h)

pub each-map_same : {A : Type 0} {P Q : A → Type 0} (xs ys : List A) → HasSameElements xs ys → ((x : A) → P x → Q x) → Each P xs → Each Q ys
each-map_same {Q = Q} xs ys p f h = each-part_of Q xs ys p.1 (each-map f xs h)
