-- What outcomes say of the elements of a list together.
use Rattle.std.proofs.Common.{◌≡◌, ◌⊎◌, inl, inr, ℕ, zero, suc, ◌+◌, ◌<◌, ◌≤◌, List, [], ◌∷◌, ◌++◌, length, map, get_or, take, sym, ap, subst, ⊎_elim, add-one, arith}
use Rattle.std.specs.List.{All}
use Rattle.std.proofs.lemmas.List.{take_all, length-map}
use Rattle.goal_lists.specs.Words.{Each, Exists}
use Rattle.goal_lists.proofs.ContraryWords.{Exists-Each}
use Rattle.goal_eval.specs.Outcomes.{Says}
use Rattle.goal_lists.specs.Joined.{both, one_of}
use Rattle.goal_lists.specs.declared.outcomes.Outcome.{Outcome}
use Rattle.goal_lists.specs.declared.outcomes.Outcome.TheVariants as outcome

-- claims exchanged for others that hold where they do
pub says-same : (P Q R V : Type 0) → (P → Q) → (Q → P) → (R → V) → (V → R) → (o : Outcome) → Says P R o → Says Q V o
says-same P Q R V f g h k outcome.Holds s = f s
says-same P Q R V f g h k outcome.Refuted s = h s
says-same P Q R V f g h k outcome.Undecided s = (λ q. s.0 (g q), λ v. s.1 (k v))

-- all elements of a list and one more have a property
pub Each-push : {A : Type 0} (P : A → Type 0) (xs : List A) (x : A) → Each P xs → P x → Each P (xs ++ x ∷ [])
unfolding Each
Each-push P [] x h p = (p, tt)
Each-push P (y ∷ xs) x h p = (h.0, Each-push P xs x h.1 p)

pub Each-front : {A : Type 0} (P : A → Type 0) (xs ys : List A) → Each P (xs ++ ys) → Each P xs
unfolding Each
Each-front P [] ys h = tt
Each-front P (y ∷ xs) ys h = (h.0, Each-front P xs ys h.1)

pub Each-last : {A : Type 0} (P : A → Type 0) (xs : List A) (x : A) → Each P (xs ++ x ∷ []) → P x
unfolding Each
Each-last P [] x h = h.0
Each-last P (y ∷ xs) x h = Each-last P xs x h.1

-- some element of a list and one more has it
pub Exists-front : {A : Type 0} (P : A → Type 0) (xs ys : List A) → Exists P xs → Exists P (xs ++ ys)
unfolding Exists
Exists-front P [] ys h = absurd h
Exists-front P (y ∷ xs) ys (inl h) = inl h
Exists-front P (y ∷ xs) ys (inr h) = inr (Exists-front P xs ys h)

pub Exists-last : {A : Type 0} (P : A → Type 0) (xs : List A) (x : A) → P x → Exists P (xs ++ x ∷ [])
unfolding Exists
Exists-last P [] x p = inl p
Exists-last P (y ∷ xs) x p = inr (Exists-last P xs x p)

pub Exists-split : {A : Type 0} (P : A → Type 0) (xs : List A) (x : A) → Exists P (xs ++ x ∷ []) → Exists P xs ⊎ P x
unfolding Exists
Exists-split P [] x (inl p) = inr p
Exists-split P [] x (inr p) = absurd p
Exists-split P (y ∷ xs) x (inl h) = inl (inl h)
Exists-split P (y ∷ xs) x (inr h) = ⊎_elim (λ q. inl (inr q)) (λ p. inr p) (Exists-split P xs x h)

-- all of some questions, and one more
pub all-more : {A : Type 0} (P R : A → Type 0) → ((x : A) → P x → R x → ⊥) → (xs : List A) (x : A) (found next : Outcome) →
    Says (Each P xs) (Exists R xs) found → Says (P x) (R x) next → Says (Each P (xs ++ x ∷ [])) (Exists R (xs ++ x ∷ [])) (both found next)
all-more P R contrary xs x outcome.Refuted next f n = Exists-front R xs (x ∷ []) f
all-more P R contrary xs x outcome.Holds outcome.Holds f n = Each-push P xs x f n
all-more P R contrary xs x outcome.Holds outcome.Refuted f n = Exists-last R xs x n
all-more P R contrary xs x outcome.Holds outcome.Undecided f n =
    (λ h. n.0 (Each-last P xs x h), λ h. ⊎_elim (λ q. Exists-Each R P (λ y r p. contrary y p r) xs q f) n.1 (Exists-split R xs x h))
all-more P R contrary xs x outcome.Undecided outcome.Refuted f n = Exists-last R xs x n
all-more P R contrary xs x outcome.Undecided outcome.Holds f n =
    (λ h. f.0 (Each-front P xs (x ∷ []) h), λ h. ⊎_elim f.1 (contrary x n) (Exists-split R xs x h))
all-more P R contrary xs x outcome.Undecided outcome.Undecided f n =
    (λ h. f.0 (Each-front P xs (x ∷ []) h), λ h. ⊎_elim f.1 n.1 (Exists-split R xs x h))

-- one of some questions, and one more
pub some-more : {A : Type 0} (P R : A → Type 0) → ((x : A) → P x → R x → ⊥) → (xs : List A) (x : A) (found next : Outcome) →
    Says (Exists P xs) (Each R xs) found → Says (P x) (R x) next → Says (Exists P (xs ++ x ∷ [])) (Each R (xs ++ x ∷ [])) (one_of found next)
some-more P R contrary xs x outcome.Holds next f n = Exists-front P xs (x ∷ []) f
some-more P R contrary xs x outcome.Refuted outcome.Refuted f n = Each-push R xs x f n
some-more P R contrary xs x outcome.Refuted outcome.Holds f n = Exists-last P xs x n
some-more P R contrary xs x outcome.Refuted outcome.Undecided f n =
    (λ h. ⊎_elim (λ q. Exists-Each P R contrary xs q f) n.0 (Exists-split P xs x h), λ h. n.1 (Each-last R xs x h))
some-more P R contrary xs x outcome.Undecided outcome.Holds f n = Exists-last P xs x n
some-more P R contrary xs x outcome.Undecided outcome.Refuted f n =
    (λ h. ⊎_elim f.0 (λ p. contrary x p n) (Exists-split P xs x h), λ h. f.1 (Each-front R xs (x ∷ []) h))
some-more P R contrary xs x outcome.Undecided outcome.Undecided f n =
    (λ h. ⊎_elim f.0 n.0 (Exists-split P xs x h), λ h. f.1 (Each-front R xs (x ∷ []) h))

-- the elements before the next place are those before a place and the one there
take-next : {A B : Type 0} (f : A → B) (xs : List A) (i : ℕ) (x : A) → i < length xs → x ≡ get_or xs i x →
    take (suc i) (map f xs) ≡ take i (map f xs) ++ f x ∷ []
take-next f [] i x h e = absurd (omega arith)
take-next f (y ∷ xs) zero x h e = ap (λ z. f z ∷ []) (sym e)
take-next f (y ∷ xs) (suc i) x h e = ap (λ zs. f y ∷ zs) (take-next f xs i x (omega arith) e)

pub take-push : {A B : Type 0} (f : A → B) (xs : List A) (i : ℕ) (x : A) → i < length xs → x ≡ get_or xs i x →
    take (i + 1) (map f xs) ≡ take i (map f xs) ++ f x ∷ []
take-push f xs i x h e = rw add-one (take-next f xs i x h e)

pub take-whole : {A B : Type 0} (f : A → B) (xs : List A) (i : ℕ) → length xs ≤ i → take i (map f xs) ≡ map f xs
take-whole f xs i h = take_all i (map f xs) (omega (arith, length-map xs f))

-- what some element before a place has, some element has
pub Exists-taken : {A : Type 0} (P : A → Type 0) (i : ℕ) (xs : List A) → Exists P (take i xs) → Exists P xs
unfolding Exists
Exists-taken P zero xs h = absurd h
Exists-taken P (suc i) [] h = absurd h
Exists-taken P (suc i) (x ∷ xs) (inl h) = inl h
Exists-taken P (suc i) (x ∷ xs) (inr h) = inr (Exists-taken P i xs h)

-- a fact of all elements, at a place
pub All-at : {A : Type 0} (P : A → Type 0) (xs : List A) (i : ℕ) (x : A) → All P xs → i < length xs → x ≡ get_or xs i x → P x
All-at P xs i x h l e = subst P (sym e) (h i x l)
