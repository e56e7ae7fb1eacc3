-- The places of the elements that pass a test, and two such lists as one.
use Rattle.std.proofs.Common.{◌≡◌, ℕ, zero, suc, ◌+◌, ◌<◌, ◌≤◌, Bool, true, false, cond, List, [], ◌∷◌, ◌++◌, length, map, filter, drop, take, get_or, Some, refl, sym, ap, ap₂, ◌∙◌, append-nil, append_assoc, arith}
use Rattle.std.specs.Prelude.{◌&&◌, ◌||◌, if◌then◌else◌, slice_get}
use Rattle.std.specs.List.{All}
use Rattle.std.proofs.Math.Dec.{ltb}
use Rattle.std.proofs.lemmas.Bool.{lt-ltb, ltb-true, false≢true}
use Rattle.std.proofs.lemmas.List.{length-take-le, take_more, drop_all, drop_more}
use Rattle.std.proofs.lemmas.List.Elements.{All-cons, All-nil, All-head, All-weaker}
use Rattle.goal_tables.specs.ImplsByHead.{places_from, places_of}

-- one more element
pushed : (n m : ℕ) (b c : Bool) (ps qs : List ℕ) → qs ≡ ps ++ (if c then m ∷ [] else []) → (if b then n ∷ qs else qs) ≡ (if b then n ∷ ps else ps) ++ (if c then m ∷ [] else [])
pushed n m true c ps qs e = ap (λ xs. n ∷ xs) e
pushed n m false c ps qs e = e

places_from-push : {X : Type 0} (n m : ℕ) (p : X → Bool) (xs : List X) (x : X) → m ≡ n + length xs →
    places_from n p (xs ++ x ∷ []) ≡ places_from n p xs ++ (if p x then m ∷ [] else [])
unfolding places_from
places_from-push n m p [] x e = let same : n ≡ m = omega arith in ap (λ k. if p x then k ∷ [] else []) same
places_from-push n m p (y ∷ xs) x e =
    pushed n m (p y) (p x) (places_from (suc n) p xs) (places_from (suc n) p (xs ++ x ∷ [])) (places_from-push (suc n) m p xs x (omega arith))

places_of-push : {X : Type 0} (p : X → Bool) (xs : List X) (x : X) (m : ℕ) → m ≡ length xs → places_of p (xs ++ x ∷ []) ≡ places_of p xs ++ (if p x then m ∷ [] else [])
places_of-push p xs x m e = places_from-push 0 m p xs x (omega arith)

at_end : (b : Bool) (ps : List ℕ) (m : ℕ) → (if b then ps ++ m ∷ [] else ps) ≡ ps ++ (if b then m ∷ [] else [])
at_end true ps m = refl
at_end false ps m = sym (append-nil ps)

-- one more row of a list, whose place comes behind those so far
pub place-more : {X : Type 0} (p : X → Bool) (rows : List X) (i : ℕ) (d : X) (ps qs : List ℕ) → i < length rows → ps ≡ places_of p (take i rows) →
    qs ≡ (if p (get_or rows i d) then ps ++ i ∷ [] else ps) → qs ≡ places_of p (take (i + 1) rows)
place-more p rows i d ps qs l e f =
    f ∙ at_end (p (get_or rows i d)) ps i ∙ ap (λ xs. xs ++ (if p (get_or rows i d) then i ∷ [] else [])) e
    ∙ sym (places_of-push p (take i rows) (get_or rows i d) i (sym (length-take-le i rows (omega arith)))) ∙ ap (places_of p) (sym (take_more rows i d l))

-- what stands at a place, whatever would stand past the end
pub same_at : {X : Type 0} (xs : List X) (i : ℕ) (d e : X) → i < length xs → get_or xs i d ≡ get_or xs i e
same_at [] i d e l = absurd (omega arith)
same_at (x ∷ xs) zero d e l = refl
same_at (x ∷ xs) (suc i) d e l = same_at xs i d e (omega arith)

-- places from a later place on
moved : (n : ℕ) (b : Bool) (ps qs : List ℕ) → qs ≡ map suc ps → (if b then suc n ∷ qs else qs) ≡ map suc (if b then n ∷ ps else ps)
moved n true ps qs e = ap (λ xs. suc n ∷ xs) e
moved n false ps qs e = e

places_from-suc : {X : Type 0} (n : ℕ) (p : X → Bool) (xs : List X) → places_from (suc n) p xs ≡ map suc (places_from n p xs)
unfolding places_from
places_from-suc n p [] = refl
places_from-suc n p (x ∷ xs) = moved n (p x) (places_from (suc n) p xs) (places_from (suc (suc n)) p xs) (places_from-suc (suc n) p xs)

-- what stands at the places
behind : {X : Type 0} (x : X) (xs : List X) (ps : List ℕ) → map (slice_get (x ∷ xs)) (map suc ps) ≡ map (slice_get xs) ps
behind x xs [] = refl
behind x xs (p ∷ ps) = ap (λ os. slice_get xs p ∷ os) (behind x xs ps)

kept : {X : Type 0} (x : X) (xs ks : List X) (b : Bool) (ps : List ℕ) → map (slice_get (x ∷ xs)) ps ≡ map Some ks →
    map (slice_get (x ∷ xs)) (if b then 0 ∷ ps else ps) ≡ map Some (cond b (x ∷ ks) ks)
kept x xs ks true ps e = ap (λ os. Some x ∷ os) e
kept x xs ks false ps e = e

pub places_of-elements : {X : Type 0} (p : X → Bool) (xs : List X) → map (slice_get xs) (places_of p xs) ≡ map Some (filter p xs)
unfolding places_from
places_of-elements p [] = refl
places_of-elements p (x ∷ xs) =
    kept x xs (filter p xs) (p x) (places_from 1 p xs)
    (ap (map (slice_get (x ∷ xs))) (places_from-suc 0 p xs) ∙ behind x xs (places_of p xs) ∙ places_of-elements p xs)

-- tests that say the same
pub places_from-same : {X : Type 0} (n : ℕ) (p q : X → Bool) (xs : List X) → ((x : X) → p x ≡ q x) → places_from n p xs ≡ places_from n q xs
unfolding places_from
places_from-same n p q [] e = refl
places_from-same n p q (x ∷ xs) e = ap₂ (λ b ps. if b then n ∷ ps else ps) (e x) (places_from-same (suc n) p q xs e)

-- all are at least where they begin
above : (n : ℕ) (b : Bool) (ps : List ℕ) → All (λ a. suc n ≤ a) ps → All (λ a. n ≤ a) (if b then n ∷ ps else ps)
above n true ps h = All-cons (λ a. n ≤ a) n ps (omega arith) (All-weaker (λ a. suc n ≤ a) (λ a. n ≤ a) (λ a k. omega arith) ps h)
above n false ps h = All-weaker (λ a. suc n ≤ a) (λ a. n ≤ a) (λ a k. omega arith) ps h

places_from-above : {X : Type 0} (n : ℕ) (p : X → Bool) (xs : List X) → All (λ a. n ≤ a) (places_from n p xs)
unfolding places_from
places_from-above n p [] = All-nil (λ a. n ≤ a)
places_from-above n p (x ∷ xs) = above n (p x) (places_from (suc n) p xs) (places_from-above (suc n) p xs)

-- two lists as one, the lesser first
unfoldable pub merged_behind : ℕ → (List ℕ → List ℕ) → List ℕ → List ℕ
merged_behind a rest [] = a ∷ rest []
merged_behind a rest (b ∷ rs) = if ltb b a then b ∷ merged_behind a rest rs else a ∷ rest (b ∷ rs)

unfoldable pub merged : List ℕ → List ℕ → List ℕ
merged [] rs = rs
merged (a ∷ ls) rs = merged_behind a (merged ls) rs

not_less : (a b : ℕ) (t : Bool) → ltb b a ≡ t → a ≤ b → t ≡ false
not_less a b true e l = let h : b < a = ltb-true b a e in absurd (omega arith)
not_less a b false e l = refl

merged-first : (a b : ℕ) (ls rs : List ℕ) → a ≤ b → merged (a ∷ ls) (b ∷ rs) ≡ a ∷ merged ls (b ∷ rs)
unfolding merged merged_behind
merged-first a b ls rs l = ap (λ t. if t then b ∷ merged_behind a (merged ls) rs else a ∷ merged ls (b ∷ rs)) (not_less a b (ltb b a) refl l)

merged-second : (a b : ℕ) (ls rs : List ℕ) → b < a → merged (a ∷ ls) (b ∷ rs) ≡ b ∷ merged (a ∷ ls) rs
unfolding merged merged_behind
merged-second a b ls rs l = ap (λ t. if t then b ∷ merged_behind a (merged ls) rs else a ∷ merged ls (b ∷ rs)) (lt-ltb b a l)

merged-head : (a : ℕ) (ls rs : List ℕ) → ((b : ℕ) (us : List ℕ) → rs ≡ b ∷ us → a ≤ b) → merged (a ∷ ls) rs ≡ a ∷ merged ls rs
unfolding merged merged_behind
merged-head a ls [] h = refl
merged-head a ls (b ∷ rs) h = merged-first a b ls rs (h b rs refl)

first_above : (n : ℕ) (rs : List ℕ) → All (λ b. suc n ≤ b) rs → (b : ℕ) (us : List ℕ) → rs ≡ b ∷ us → n ≤ b
first_above n [] h b us e = absurd (cc)
first_above n (r ∷ rs) h b us e = let l : suc n ≤ r = All-head (λ c. suc n ≤ c) r rs h in let same : r ≡ b = cc in omega (arith, same)

merged-later : (b : ℕ) (ls rs : List ℕ) → All (λ a. suc b ≤ a) ls → merged ls (b ∷ rs) ≡ b ∷ merged ls rs
unfolding merged
merged-later b [] rs h = refl
merged-later b (a ∷ ls) rs h = let l : suc b ≤ a = All-head (λ c. suc b ≤ c) a ls h in merged-second a b ls rs (omega arith)

-- the places of elements that pass one of two tests, never both
one_more : (n : ℕ) (x y : Bool) (ls rs cs : List ℕ) → x && y ≡ false → All (λ a. suc n ≤ a) ls → All (λ b. suc n ≤ b) rs → merged ls rs ≡ cs →
    merged (if x then n ∷ ls else ls) (if y then n ∷ rs else rs) ≡ (if x || y then n ∷ cs else cs)
one_more n true true ls rs cs e h k m = absurd (false≢true (sym e))
one_more n true false ls rs cs e h k m = merged-head n ls rs (first_above n rs k) ∙ ap (λ xs. n ∷ xs) m
one_more n false true ls rs cs e h k m = merged-later n ls rs h ∙ ap (λ xs. n ∷ xs) m
one_more n false false ls rs cs e h k m = m

merged-from : {X : Type 0} (n : ℕ) (p q : X → Bool) (xs : List X) → ((x : X) → p x && q x ≡ false) → merged (places_from n p xs) (places_from n q xs) ≡ places_from n (λ x. p x || q x) xs
unfolding places_from merged
merged-from n p q [] e = refl
merged-from n p q (x ∷ xs) e =
    one_more n (p x) (q x) (places_from (suc n) p xs) (places_from (suc n) q xs) (places_from (suc n) (λ y. p y || q y) xs) (e x)
    (places_from-above (suc n) p xs) (places_from-above (suc n) q xs) (merged-from (suc n) p q xs e)

pub merged-places : {X : Type 0} (p q : X → Bool) (xs : List X) (ls rs : List ℕ) → ((x : X) → p x && q x ≡ false) → ls ≡ places_of p xs → rs ≡ places_of q xs →
    merged ls rs ≡ places_of (λ x. p x || q x) xs
merged-places p q xs ls rs e f g = ap₂ merged f g ∙ merged-from 0 p q xs e

-- the next of two lists
head_at : (rs : List ℕ) (j a e : ℕ) → (j < length rs → a ≤ get_or rs j e) → (b : ℕ) (us : List ℕ) → drop j rs ≡ b ∷ us → a ≤ b
head_at [] zero a e h b us q = absurd (cc)
head_at [] (suc j) a e h b us q = absurd (cc)
head_at (r ∷ rs) zero a e h b us q = let same : r ≡ b = cc in let l : a ≤ r = h (omega arith) in omega (arith, same)
head_at (r ∷ rs) (suc j) a e h b us q = head_at rs j a e (λ l. h (omega arith)) b us q

left_next : (ls rs : List ℕ) (i j : ℕ) → i < length ls → (j < length rs → get_or ls i 0 ≤ get_or rs j 0) →
    merged (drop i ls) (drop j rs) ≡ get_or ls i 0 ∷ merged (drop (i + 1) ls) (drop j rs)
left_next ls rs i j h k =
    ap (λ xs. merged xs (drop j rs)) (drop_more ls i 0 h) ∙ merged-head (get_or ls i 0) (drop (i + 1) ls) (drop j rs) (head_at rs j (get_or ls i 0) 0 k)

right_next : (ls rs : List ℕ) (i j : ℕ) → i < length ls → j < length rs → get_or rs j 0 < get_or ls i 0 →
    merged (drop i ls) (drop j rs) ≡ get_or rs j 0 ∷ merged (drop i ls) (drop (j + 1) rs)
right_next ls rs i j h k l =
    ap₂ merged (drop_more ls i 0 h) (drop_more rs j 0 k) ∙ merged-second (get_or ls i 0) (get_or rs j 0) (drop (i + 1) ls) (drop (j + 1) rs) l
    ∙ ap (λ xs. get_or rs j 0 ∷ merged xs (drop (j + 1) rs)) (sym (drop_more ls i 0 h))

-- one more of the list that is made
grown : (made so_far all ms ns : List ℕ) (a : ℕ) → so_far ++ ms ≡ all → ms ≡ a ∷ ns → made ≡ so_far ++ a ∷ [] → made ++ ns ≡ all
grown made so_far all ms ns a e f g = ap (λ xs. xs ++ ns) g ∙ append_assoc so_far (a ∷ []) ns ∙ ap (λ xs. so_far ++ xs) (sym f) ∙ e

pub merged-left : (made so_far all ls rs : List ℕ) (i j : ℕ) → so_far ++ merged (drop i ls) (drop j rs) ≡ all → i < length ls → (j < length rs → get_or ls i 0 ≤ get_or rs j 0) →
    made ≡ so_far ++ get_or ls i 0 ∷ [] → made ++ merged (drop (i + 1) ls) (drop j rs) ≡ all
merged-left made so_far all ls rs i j e h k g = grown made so_far all (merged (drop i ls) (drop j rs)) (merged (drop (i + 1) ls) (drop j rs)) (get_or ls i 0) e (left_next ls rs i j h k) g

pub merged-right : (made so_far all ls rs : List ℕ) (i j : ℕ) → so_far ++ merged (drop i ls) (drop j rs) ≡ all → i < length ls → (j < length rs) × (get_or rs j 0 < get_or ls i 0) →
    made ≡ so_far ++ get_or rs j 0 ∷ [] → made ++ merged (drop i ls) (drop (j + 1) rs) ≡ all
merged-right made so_far all ls rs i j e h k g = grown made so_far all (merged (drop i ls) (drop j rs)) (merged (drop i ls) (drop (j + 1) rs)) (get_or rs j 0) e (right_next ls rs i j h k.0 k.1) g

-- where the left list has come to its end
pub merged-end : (made so_far all ls rs : List ℕ) (i j : ℕ) → so_far ++ merged (drop i ls) (drop j rs) ≡ all → length ls ≤ i → made ≡ so_far ++ drop j rs → made ≡ all
unfolding merged
merged-end made so_far all ls rs i j e l f = f ∙ ap (λ xs. so_far ++ merged xs (drop j rs)) (sym (drop_all i ls l)) ∙ e
