-- Where a key stands first, from a place on.
use Rattle.std.proofs.Common.{◌≡◌, ℕ, suc, ◌+◌, ◌<◌, Bool, true, false, List, [], ◌∷◌, length, drop, get_or, Option, Some, None, refl, sym, ap, ◌∙◌, add-zero, drop-cons, arith}
use Rattle.std.proofs.lemmas.List.{drop_all}
use Rattle.std.specs.Prelude.{◌||◌, is_some, if◌then◌else◌}
use Rattle.std.specs.Option.{option_map}
use Rattle.goal_tables.specs.Places.{first_place, has_double}

-- the first place from i on, counted from the start
unfoldable pub place_from : {K : Type 0} → (K → K → Bool) → List K → ℕ → K → Option ℕ
place_from eq keys i k = option_map (λ n. i + n) (first_place eq (drop i keys) k)

map_zero : (o : Option ℕ) → option_map (λ n. 0 + n) o ≡ o
map_zero None = refl
map_zero (Some n) = ap Some (omega arith)

pub place_from-start : {K : Type 0} (eq : K → K → Bool) (keys : List K) (k : K) → place_from eq keys 0 k ≡ first_place eq keys k
unfolding place_from
place_from-start eq keys k = map_zero (first_place eq keys k)

pub place_from-end : {K : Type 0} (eq : K → K → Bool) (keys : List K) (i : ℕ) (k : K) → length keys ≡ i → place_from eq keys i k ≡ None
unfolding place_from
place_from-end {K} eq keys i k e =
    let p : drop i keys ≡ [] = drop_all i keys (omega arith) in
    ap (λ xs. option_map (λ n. i + n) (first_place eq xs k)) p

map_twice : (i j : ℕ) (o : Option ℕ) → i ≡ j + 1 → option_map (λ n. j + n) (option_map suc o) ≡ option_map (λ n. i + n) o
map_twice i j None e = refl
map_twice i j (Some n) e = ap Some (omega arith)

choice : (b : Bool) (i j : ℕ) (o : Option ℕ) → i ≡ j + 1 →
    option_map (λ n. j + n) (if b then Some 0 else option_map suc o) ≡ (if b then Some j else option_map (λ n. i + n) o)
choice true i j o e = ap Some (add-zero j)
choice false i j o e = map_twice i j o e

pub place_from-step : {K : Type 0} (eq : K → K → Bool) (keys : List K) (i j : ℕ) (x k : K) →
    x ≡ get_or keys j x → j < length keys → i ≡ j + 1 →
    place_from eq keys j k ≡ (if eq x k then Some j else place_from eq keys i k)
unfolding place_from
place_from-step {K} eq keys i j x k e h same =
    let after : suc j ≡ i = omega arith in
    let here : drop j keys ≡ x ∷ drop i keys =
    drop-cons keys j x h ∙ ap (λ y. y ∷ drop (suc j) keys) (sym e) ∙ ap (λ n. x ∷ drop n keys) after in
    ap (λ xs. option_map (λ n. j + n) (first_place eq xs k)) here ∙ choice (eq x k) i j (first_place eq (drop i keys) k) same

-- whether a key stands twice from i on
unfoldable pub double_from : {K : Type 0} → (K → K → Bool) → List K → ℕ → Bool
double_from eq keys i = has_double eq (drop i keys)

pub double_from-start : {K : Type 0} (eq : K → K → Bool) (keys : List K) → double_from eq keys 0 ≡ has_double eq keys
unfolding double_from
double_from-start eq keys = refl

pub double_from-end : {K : Type 0} (eq : K → K → Bool) (keys : List K) (i : ℕ) → length keys ≡ i → double_from eq keys i ≡ false
unfolding double_from
double_from-end {K} eq keys i e =
    let p : drop i keys ≡ [] = drop_all i keys (omega arith) in
    ap (has_double eq) p

some_map : (i : ℕ) (o : Option ℕ) → is_some (option_map (λ n. i + n) o) ≡ is_some o
some_map i None = refl
some_map i (Some n) = refl

pub double_from-step : {K : Type 0} (eq : K → K → Bool) (keys : List K) (i j : ℕ) (x : K) →
    x ≡ get_or keys j x → j < length keys → i ≡ j + 1 →
    double_from eq keys j ≡ is_some (place_from eq keys i x) || double_from eq keys i
unfolding place_from double_from
double_from-step {K} eq keys i j x e h same =
    let after : suc j ≡ i = omega arith in
    let here : drop j keys ≡ x ∷ drop i keys =
    drop-cons keys j x h ∙ ap (λ y. y ∷ drop (suc j) keys) (sym e) ∙ ap (λ n. x ∷ drop n keys) after in
    ap (has_double eq) here ∙ ap (λ b. b || has_double eq (drop i keys)) (sym (some_map i (first_place eq (drop i keys) x)))
