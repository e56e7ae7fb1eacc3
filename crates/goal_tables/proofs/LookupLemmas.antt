-- A row is found at the first place of its id.
use Rattle.std.proofs.Common.{◌≡◌, ℕ, suc, ◌<◌, Bool, true, false, cond, List, [], ◌∷◌, length, map, Option, Some, None, refl, sym, ap, ◌∙◌, subst, arith}
use Rattle.std.specs.Prelude.{find, slice_get}
use Rattle.std.specs.Option.{option_map, option_and_then, ForSome}
use Rattle.std.specs.HashMap.{get, HashMap}
use Rattle.goal_tables.specs.Places.{first_place, IsIndexOf}

one_on : {R : Type 0} (b : Bool) (x : R) (rows : List R) (o : Option ℕ) (later : Option R) →
    option_and_then (slice_get rows) o ≡ later →
    option_and_then (slice_get (x ∷ rows)) (cond b (Some 0) (option_map suc o)) ≡ cond b (Some x) later
one_on true x rows o later e = refl
one_on false x rows None later e = e
one_on false x rows (Some n) later e = e

-- the row at the first place of a key is the first row with it
find-place : {R K : Type 0} (eq : K → K → Bool) (f : R → K) (rows : List R) (k : K) →
    option_and_then (slice_get rows) (first_place eq (map f rows) k) ≡ find (λ r. eq (f r) k) rows
find-place eq f [] k = refl
find-place eq f (r ∷ rows) k =
    one_on (eq (f r) k) r rows (first_place eq (map f rows) k) (find (λ x. eq (f x) k) rows) (find-place eq f rows k)

one_within : {R : Type 0} (b : Bool) (x : R) (rows : List R) (o : Option ℕ) →
    ForSome o (λ n. n < length rows) → ForSome (cond b (Some 0) (option_map suc o)) (λ n. n < length (x ∷ rows))
one_within true x rows o h = λ n e. let p : 0 ≡ n = cc in omega arith
one_within false x rows None h = λ n e. absurd (cc)
one_within false x rows (Some m) h = λ n e. let p : suc m ≡ n = cc in let q : m < length rows = h m refl in omega arith

within-place : {R K : Type 0} (eq : K → K → Bool) (f : R → K) (rows : List R) (k : K) →
    ForSome (first_place eq (map f rows) k) (λ n. n < length rows)
within-place eq f [] k = λ n e. absurd (cc)
within-place eq f (r ∷ rows) k = one_within (eq (f r) k) r rows (first_place eq (map f rows) k) (within-place eq f rows k)

pub find-index : {R K S : Type 0} (eq : K → K → Bool) (f : R → K) (rows : List R) (places : HashMap K ℕ S) (k : K) →
    IsIndexOf eq (map f rows) places → option_and_then (slice_get rows) (get eq places k) ≡ find (λ r. eq (f r) k) rows
unfolding IsIndexOf
find-index eq f rows places k h = ap (option_and_then (slice_get rows)) (h k) ∙ find-place eq f rows k

pub within-index : {R K S : Type 0} (eq : K → K → Bool) (f : R → K) (rows : List R) (places : HashMap K ℕ S) (k : K) →
    IsIndexOf eq (map f rows) places → ForSome (get eq places k) (λ n. n < length rows)
unfolding IsIndexOf
within-index eq f rows places k h = subst (λ o. ForSome o (λ n. n < length rows)) (sym (h k)) (within-place eq f rows k)

pub ruleset finding = (find-index, within-index)
