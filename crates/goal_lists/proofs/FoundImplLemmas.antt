-- The row of an impl's id, over accepted tables.
use Rattle.std.proofs.Common.{◌≡◌, ◌⊎◌, ◌==◌, inl, inr, ◌<◌, ℕ, zero, suc, Bool, true, false, cond, List, [], ◌∷◌, length, map, get_or, Option, Some, None, is_some, refl, sym, ap, ◌∙◌, eq-eqb, arith}
use Rattle.std.specs.Prelude.{find, if◌then◌else◌}
use Rattle.std.specs.Option.{option_map}
use Rattle.std.proofs.lemmas.Bool.Decides.{eqb_tells}
use Rattle.goal_tables.specs.Faults.{IsChecked}
use Rattle.goal_tables.specs.Places.{first_place, has_double}
use Rattle.goal_tables.specs.Rows.{impl_of}
use Rattle.goal_tables.specs.declared.rows.ImplRow.{ImplRow}
use Rattle.goal_tables.specs.declared.rows.Tables.{Tables}
use Rattle.goal_lists.proofs.AnswerLaws.{impls-not_doubled}
use Rattle.goal_lists.proofs.TableKindLemmas.{both_fail}

-- a key that stands in a list has a place there
placed : (b : Bool) (o : Option ℕ) → (b ≡ true) ⊎ (is_some o ≡ true) → is_some (if b then Some 0 else option_map suc o) ≡ true
placed true o h = refl
placed false o (inl e) = absurd (cc)
placed false (Some n) (inr e) = refl
placed false None (inr e) = e

-- an element's number stands in the list of all numbers
number-there : {X : Type 0} (f : X → ℕ) (xs : List X) (n : ℕ) (x : X) (k : ℕ) → n < length xs → x ≡ get_or xs n x → f x ≡ k → is_some (first_place ◌==◌ (map f xs) k) ≡ true
number-there f [] n x k l at e = absurd (omega arith)
number-there f (y ∷ xs) zero x k l at e = placed (f y == k) (first_place ◌==◌ (map f xs) k) (inl (eq-eqb (f y) k (ap f (sym at) ∙ e)))
number-there f (y ∷ xs) (suc n) x k l at e = placed (f y == k) (first_place ◌==◌ (map f xs) k) (inr (number-there f xs n x k (omega arith) at e))

-- where no numbers are doubled, each element is found by its own
found-by_number : {X : Type 0} (f : X → ℕ) (xs : List X) (n : ℕ) (x : X) → has_double ◌==◌ (map f xs) ≡ false → n < length xs → x ≡ get_or xs n x →
    find (λ y. f y == f x) xs ≡ Some x
found-by_number f [] n x d l at = absurd (omega arith)
found-by_number f (y ∷ xs) zero x d l at =
    ap (λ b. cond b (Some y) (find (λ z. f z == f x) xs)) (eq-eqb (f y) (f x) (ap f (sym at))) ∙ ap (λ z. Some z) (sym at)
found-by_number f (y ∷ xs) (suc n) x d l at = elim (eqb_tells (f y) (f x)) [
  | inl p ↦
      let none : is_some (first_place ◌==◌ (map f xs) (f y)) ≡ false = (both_fail _ _ d).0 in
      let some : is_some (first_place ◌==◌ (map f xs) (f y)) ≡ true = number-there f xs n x (f y) (omega arith) at (sym p.1) in
      absurd (cc)
  | inr p ↦
      ap (λ b. cond b (Some y) (find (λ z. f z == f x) xs)) p.0 ∙ found-by_number f xs n x (both_fail (is_some (first_place ◌==◌ (map f xs) (f y))) _ d).1 (omega arith) at
]

-- the row of an impl's id, over accepted tables
pub impl-found : (t : Tables) → IsChecked t → (n : ℕ) (r : ImplRow) → n < length t.impls.items → r ≡ get_or t.impls.items n r → impl_of t r.id ≡ Some r
impl-found t checked n r l at = found-by_number (λ q. q.id.0) t.impls.items n r (impls-not_doubled t checked) l at
