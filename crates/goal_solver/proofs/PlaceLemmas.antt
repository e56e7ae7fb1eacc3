-- Places that stand in one of two lists.
use Rattle.std.proofs.Common.{◌≡◌, ◌≢◌, inl, inr, ℕ, zero, suc, ◌+◌, ◌<◌, ◌≤◌, List, [], ◌∷◌, ◌++◌, length, get_or, Some, refl, sym, ap, ◌∙◌, subst, arith}
use Rattle.std.specs.List.{Contains}
use Rattle.std.specs.Prelude.{slice_get}
use Rattle.goal_terms.specs.declared.answers.GoalSource.{GoalSource}
use Rattle.goal_terms.specs.declared.predicates.Goal.{Goal}
use Rattle.goal_terms.specs.declared.predicates.Predicate.{Predicate}
use Rattle.goal_solver.specs.AddedGoals.{same_place, count_of, one_below, AreSplit, JoinsUnless}
use Rattle.goal_solver.specs.State.{AreTaken}
use Rattle.goal_solver.specs.Stored.{IsSet}
use Rattle.goal_solver.proofs.StoredLemmas.{some-is, place-contains, contains-get}

-- a number is zero or not
pub by-zero : (n : ℕ) (P : Type 0) → (n ≡ 0 → P) → (0 < n → P) → P
by-zero zero P f g = f refl
by-zero (suc n) P f g = g (omega arith)

-- two places are the same or not
pub same-itself : (i : ℕ) → same_place i i ≡ 1
unfolding same_place
same-itself zero = refl
same-itself (suc i) = same-itself i

pub same-is : (i j : ℕ) → 0 < same_place i j → i ≡ j
unfolding same_place
same-is zero zero h = refl
same-is zero (suc j) h = absurd (omega (arith, h))
same-is (suc i) zero h = absurd (omega (arith, h))
same-is (suc i) (suc j) h = ap suc (same-is i j h)

pub same-once : (i j : ℕ) → same_place i j ≤ 1
unfolding same_place
same-once zero zero = omega arith
same-once zero (suc j) = omega arith
same-once (suc i) zero = omega arith
same-once (suc i) (suc j) = same-once i j

pub one-below : (i n : ℕ) → i < n → one_below i n ≡ 1
unfolding one_below
one-below i zero h = absurd (omega (arith, h))
one-below zero (suc n) h = refl
one-below (suc i) (suc n) h = one-below i n (omega (arith, h))

pub is-below : (i n : ℕ) → 0 < one_below i n → i < n
unfolding one_below
is-below i zero h = absurd (omega (arith, h))
is-below zero (suc n) h = omega arith
is-below (suc i) (suc n) h = omega (arith, is-below i n h)

pub one_below-once : (i n : ℕ) → one_below i n ≤ 1
unfolding one_below
one_below-once i zero = omega arith
one_below-once zero (suc n) = omega arith
one_below-once (suc i) (suc n) = one_below-once i n

-- counts of joined lists
pub count-joined : (i : ℕ) (xs ys : List ℕ) → count_of i (xs ++ ys) ≡ count_of i xs + count_of i ys
unfolding count_of
count-joined i [] ys = omega arith
count-joined i (x ∷ xs) ys = omega (arith, count-joined i xs ys)

pub count-one : (i x : ℕ) (xs : List ℕ) → count_of i (x ∷ xs) ≡ same_place i x + count_of i xs
unfolding count_of
count-one i x xs = refl

pub count-none : (i : ℕ) → count_of i [] ≡ 0
unfolding count_of
count-none i = refl

pub count-pushed : (i : ℕ) (xs : List ℕ) (x : ℕ) → count_of i (xs ++ x ∷ []) ≡ count_of i xs + same_place i x
count-pushed i xs x = omega (arith, count-joined i xs (x ∷ []), count-one i x [], count-none i)

-- a listed place stands somewhere
pub count-at : (xs : List ℕ) (k i : ℕ) → slice_get xs k ≡ Some i → 0 < count_of i xs
unfolding count_of
count-at [] k i e = absurd (cc)
count-at (x ∷ xs) zero i e = omega (arith, same-itself i, ap (same_place i) (some-is x i e))
count-at (x ∷ xs) (suc k) i e = omega (arith, count-at xs k i e)

pub counted-at : (xs : List ℕ) (i : ℕ) → 0 < count_of i xs → (k : ℕ) × (slice_get xs k ≡ Some i)
unfolding count_of
counted-at [] i h = absurd (omega (arith, h))
counted-at (x ∷ xs) i h =
    by-zero (same_place i x) ((k : ℕ) × (slice_get (x ∷ xs) k ≡ Some i))
    (λ e. let r = counted-at xs i (omega (arith, h, e)) in (suc r.0, r.1))
    (λ e. (0, ap Some (sym (same-is i x e))))

pub contains-counted : (xs : List ℕ) (i : ℕ) → Contains xs i → 0 < count_of i xs
contains-counted xs i c = count-at xs c.0 i (contains-get xs i c)

pub counted-contains : (xs : List ℕ) (i : ℕ) → 0 < count_of i xs → Contains xs i
counted-contains xs i h = let r = counted-at xs i h in place-contains xs r.0 i r.1

pub uncounted : (xs : List ℕ) (i : ℕ) → (Contains xs i → ⊥) → count_of i xs ≡ 0
uncounted xs i absent = by-zero (count_of i xs) (count_of i xs ≡ 0) (λ e. e) (λ e. absurd (absent (counted-contains xs i e)))

-- a list that isn't empty has a place
pub some-counted : (xs : List ℕ) → 0 < length xs → (x : ℕ) × (0 < count_of x xs)
unfolding count_of
some-counted [] h = absurd (omega (arith, h))
some-counted (x ∷ xs) h = (x, omega (arith, same-itself x))

-- what stands once is a set
pub set-counted : (xs : List ℕ) → ((i : ℕ) → count_of i xs ≤ 1) → IsSet xs
unfolding count_of
set-counted [] h i j x y p q r = absurd (cc)
set-counted (z ∷ zs) h zero zero x y p q r = refl
set-counted (z ∷ zs) h zero (suc j) x y p q r =
    absurd (omega (arith, h z, same-itself z, count-at zs j z (q ∙ ap Some (sym r ∙ sym (some-is z x p)))))
set-counted (z ∷ zs) h (suc i) zero x y p q r =
    absurd (omega (arith, h z, same-itself z, count-at zs i z (p ∙ ap Some (r ∙ sym (some-is z y q)))))
set-counted (z ∷ zs) h (suc i) (suc j) x y p q r = ap suc (set-counted zs (λ k. omega (arith, h k)) i j x y p q r)

-- a set has everything once
suc-is : (i j : ℕ) → suc i ≡ suc j → i ≡ j
suc-is i j e = omega (arith, e)

set-tail : (z : ℕ) (zs : List ℕ) → IsSet (z ∷ zs) → IsSet zs
set-tail z zs h i j x y p q r = suc-is i j (h (suc i) (suc j) x y p q r)

zero-suc : (i : ℕ) → zero ≡ suc i → ⊥
zero-suc i e = omega (arith, e)

pub counted-set : (xs : List ℕ) → IsSet xs → (i : ℕ) → count_of i xs ≤ 1
unfolding count_of
counted-set [] h i = omega arith
counted-set (z ∷ zs) h i =
    by-zero (count_of i zs) (same_place i z + count_of i zs ≤ 1)
    (λ e. omega (arith, e, same-once i z))
    (λ e. by-zero (same_place i z) (same_place i z + count_of i zs ≤ 1)
    (λ f. omega (arith, f, counted-set zs (set-tail z zs h) i))
    (λ f. let at = counted-at zs i e in absurd (zero-suc at.0 (h zero (suc at.0) z i refl at.1 (sym (same-is i z f))))))

-- a list without the first place that is the same as one
chosen : ℕ → ℕ → List ℕ → List ℕ → List ℕ
chosen zero j js rest = j ∷ rest
chosen (suc n) j js rest = js

without : ℕ → List ℕ → List ℕ
without i [] = []
without i (j ∷ js) = chosen (same_place i j) j js (without i js)

is-one : (i j : ℕ) → 0 < same_place i j → same_place i j ≡ 1
is-one i j e = omega (arith, e, same-once i j)

length-without : (i : ℕ) (xs : List ℕ) → 0 < count_of i xs → suc (length (without i xs)) ≡ length xs
unfolding count_of chosen without same_place
length-without i [] h = absurd (omega (arith, h))
length-without i (x ∷ xs) h =
    by-zero (same_place i x) (suc (length (without i (x ∷ xs))) ≡ suc (length xs))
    (λ e. ap (λ m. suc (length (chosen m x xs (without i xs)))) e ∙ ap suc (length-without i xs (omega (arith, h, e))))
    (λ e. ap (λ m. suc (length (chosen m x xs (without i xs)))) (is-one i x e))

other : (i j : ℕ) → (i ≡ j → ⊥) → same_place i j ≡ 0
other i j h = by-zero (same_place i j) (same_place i j ≡ 0) (λ e. e) (λ e. absurd (h (same-is i j e)))

plus-none : {n m : ℕ} → n ≡ 0 → m ≡ n + m
plus-none e = omega (arith, e)

count-without : (i j : ℕ) (xs : List ℕ) → (i ≡ j → ⊥) → count_of i (without j xs) ≡ count_of i xs
unfolding count_of chosen without same_place
count-without i j [] h = refl
count-without i j (x ∷ xs) h =
    by-zero (same_place j x) (count_of i (without j (x ∷ xs)) ≡ same_place i x + count_of i xs)
    (λ e. ap (λ m. count_of i (chosen m x xs (without j xs))) e ∙ ap (λ m. same_place i x + m) (count-without i j xs h))
    (λ e. ap (λ m. count_of i (chosen m x xs (without j xs))) (is-one j x e) ∙ plus-none (other i x (λ f. h (f ∙ sym (same-is j x e)))))

-- a list that has each of so many places is no shorter
pub full : (n : ℕ) (xs : List ℕ) → ((i : ℕ) → i < n → 0 < count_of i xs) → n ≤ length xs
full zero xs h = omega arith
full (suc n) xs h =
    let fewer : (i : ℕ) → i < n → 0 < count_of i (without n xs) =
    (λ i l. omega (arith, count-without i n xs (λ e. omega (arith, l, e)), h i (omega (arith, l)))) in
    omega (arith, length-without n xs (h n (omega arith)), full n (without n xs) fewer)

-- one place of those that are left is taken, or left
pub split-taken : (n x : ℕ) (taken taken2 left rest : List ℕ) → taken2 ≡ taken ++ x ∷ [] → AreSplit n taken (left ++ x ∷ rest) → AreSplit n taken2 (left ++ rest)
split-taken n x taken taken2 left rest e h i =
    omega (arith, ap (count_of i) e, h i, count-pushed i taken x, count-joined i left (x ∷ rest), count-one i x rest, count-joined i left rest)

pub split-left : (n x : ℕ) (taken left left2 rest : List ℕ) → left2 ≡ left ++ x ∷ [] → AreSplit n taken (left ++ x ∷ rest) → AreSplit n taken (left2 ++ rest)
split-left n x taken left left2 rest e h i =
    omega (arith, ap (λ xs. count_of i (xs ++ rest)) e, h i, count-joined i (left ++ x ∷ []) rest, count-pushed i left x, count-joined i left (x ∷ rest), count-one i x rest)

-- what is split are the places that were taken, and no others
pub taken-split : (goals : List (GoalSource × Goal Predicate)) (taken pending : List ℕ) → AreSplit (length goals) taken pending → AreTaken goals taken
taken-split goals taken pending h = record {
  within = λ k d l. is-below _ (length goals) (omega (arith, h (get_or taken k d), count-at taken k (get_or taken k d) (place-of taken k d l)));
  once = set-counted taken (λ i. omega (arith, h i, one_below-once i (length goals)));
} where
  place-of : (xs : List ℕ) (k d : ℕ) → k < length xs → slice_get xs k ≡ Some (get_or xs k d)
  place-of [] k d l = absurd (omega (arith, l))
  place-of (x ∷ xs) zero d l = refl
  place-of (x ∷ xs) (suc k) d l = place-of xs k d (omega (arith, l))

-- where none is left, all are taken
pub all-taken : (n : ℕ) (taken rest : List ℕ) → rest ≡ [] → AreSplit n taken rest → n ≤ length taken
all-taken n taken rest e h =
    full n taken (λ i l. omega (arith, h i, ap (count_of i) e, count-none i, one-below i n l))

-- the places so far that aren't taken
pub record AreListed (taken places : List ℕ) (k : ℕ) : Type 0 where
  pub so_far : (i : ℕ) → i < k → count_of i taken + count_of i places ≡ 1
  pub none : (i : ℕ) → k ≤ i → count_of i places ≡ 0

pub listed-none : (taken : List ℕ) → AreListed taken [] 0
listed-none taken = record { so_far = λ i l. absurd (omega (arith, l)); none = λ i l. count-none i }

apart : (i k : ℕ) → same_place i k ≡ 0 → i ≢ k
apart i k e f = omega (arith, same-itself i, ap (same_place i) f, e)

-- the next place is taken, or listed
pub listed-taken : (taken places : List ℕ) (k : ℕ) → IsSet taken → Contains taken k → AreListed taken places k → AreListed taken places (k + 1)
listed-taken taken places k once c h = record {
  so_far = λ i l.
      by-zero (same_place i k) (count_of i taken + count_of i places ≡ 1)
      (λ e. h.so_far i (omega (arith, l, apart i k e)))
      (λ e. omega (arith, ap (λ j. count_of j taken) (same-is i k e), h.none i (omega (arith, same-is i k e)), counted-set taken once k, contains-counted taken k c));
  none = λ i l. h.none i (omega (arith, l));
}

pub listed-more : (taken places after : List ℕ) (k : ℕ) → (Contains taken k → ⊥) → after ≡ places ++ k ∷ [] → AreListed taken places k → AreListed taken after (k + 1)
listed-more taken places after k absent p h = record {
  so_far = λ i l.
      by-zero (same_place i k) (count_of i taken + count_of i after ≡ 1)
      (λ e. omega (arith, ap (count_of i) p, count-pushed i places k, e, h.so_far i (omega (arith, l, apart i k e))))
      (λ e. omega (arith, ap (count_of i) p, count-pushed i places k, is-one i k e, h.none i (omega (arith, same-is i k e)), ap (λ j. count_of j taken) (same-is i k e), uncounted taken k absent));
  none = λ i l. omega (arith, ap (count_of i) p, count-pushed i places k, h.none i (omega (arith, l)), other i k (λ e. omega (arith, e, l)));
}

pub listed-next : (taken places after : List ℕ) (k : ℕ) → IsSet taken → JoinsUnless taken k places after → AreListed taken places k → AreListed taken after (k + 1)
listed-next taken places after k once j h = elim j [
  | inl x ↦ subst (λ xs. AreListed taken xs (k + 1)) (sym x.1) (listed-taken taken places k once x.0 h)
  | inr x ↦ listed-more taken places after k x.0 x.1 h
]

beyond : (i n : ℕ) → one_below i n ≡ 0 → n ≤ i
unfolding one_below
beyond i zero f = omega arith
beyond zero (suc n) f = absurd (omega (arith, f))
beyond (suc i) (suc n) f = omega (arith, beyond i n f)

-- all that aren't taken are listed
pub listed-all : (goals : List (GoalSource × Goal Predicate)) (taken places : List ℕ) (k : ℕ) → AreTaken goals taken → length goals ≡ k → AreListed taken places k → AreSplit (length goals) taken places
listed-all goals taken places k t e h i =
    by-zero (one_below i (length goals)) (count_of i taken + count_of i places ≡ one_below i (length goals))
    (λ f. omega (arith, f, h.none i (omega (arith, e, beyond i (length goals) f)), absent f))
    (λ f. h.so_far i (omega (arith, e, is-below i (length goals) f)) ∙ sym (one-below i (length goals) (is-below i (length goals) f))) where
      absent : one_below i (length goals) ≡ 0 → count_of i taken ≡ 0
      absent f = uncounted taken i (λ c. absurd (omega (arith, beyond i (length goals) f, t.within c.0 i c.1, c.2)))
