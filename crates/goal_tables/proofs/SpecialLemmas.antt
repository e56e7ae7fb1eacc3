-- The search for the impls that are more special than one, step by step.
use Rattle.std.proofs.Common.{◌≡◌, ℕ, zero, suc, ◌+◌, ◌-◌, ◌<◌, ◌≤◌, Bool, true, false, List, [], ◌∷◌, ◌++◌, length, take, set, get_or, map, Option, Some, None, ◌⊎◌, inl, inr, refl, sym, ap, ◌∙◌, subst, append_assoc, append-nil, length-append, length-set, get_or-set_other, arith}
use Rattle.std.specs.Prelude.{slice_get, find, ◌==◌, ◌||◌, ◌≢◌, Vec}
use Rattle.std.specs.List.{All, Contains, list_any}
use Rattle.std.proofs.lemmas.List.{take_more, length_push, get_or_append_left, get_or-append-add, get_or_default}
use Rattle.std.proofs.lemmas.List.Elements.{All-nil, All-cons, All-head, All-tail, All-from_get_or, All-append, All-weaker, All-contains, Contains-append_left, Contains-append_right, Contains-push}
use Rattle.std.proofs.lemmas.List.Folds.{Any-from_list_any, list_any-from_Any, list_any_more}
use Rattle.std.proofs.lemmas.Bool.{eqb-true, eqb-false}
use Rattle.std.proofs.lemmas.Option.{get_or_from_slice_get, slice_get_within}
use Rattle.goal_terms.specs.declared.ids.ImplId.{ImplId}
use Rattle.goal_tables.specs.Options.{option_holds}
use Rattle.goal_tables.specs.Indexed.{IsReachedAt, StandsAmong, AreMoreSpecial, AreSpecialLists}
use Rattle.goal_tables.specs.Rows.{impl_of}
use Rattle.goal_tables.specs.SpecialSearch.{unmarked, IsSearch, IsOfList, Finds, Follows}
use Rattle.goal_tables.specs.Specialized.{if_row, rows_named, listed_by, listed_by_all, reached, leads_back}
use Rattle.goal_tables.specs.declared.rows.ImplRow.{ImplRow}
use Rattle.goal_tables.specs.declared.rows.Tables.{Tables}
use Rattle.goal_tables.specs.declared.specialized.Search.{Search}

-- a mark that is set is missing no more
unmarked-set : (bs : List Bool) (p : ℕ) → p < length bs → get_or bs p false ≡ false → unmarked (set bs p true) + 1 ≡ unmarked bs
unfolding unmarked
unmarked-set [] p h e = absurd (omega arith)
unmarked-set (true ∷ bs) zero h e = absurd (cc)
unmarked-set (false ∷ bs) zero h e = omega arith
unmarked-set (true ∷ bs) (suc p) h e = unmarked-set bs p (omega arith) e
unmarked-set (false ∷ bs) (suc p) h e = let same = unmarked-set bs p (omega arith) e in omega arith

-- no mark is set at first
pub unmarked-all : (rows : List ImplRow) → unmarked (map (λ r. false) rows) ≡ length rows
unfolding unmarked
unmarked-all [] = refl
unmarked-all (r ∷ rows) = ap suc (unmarked-all rows)

none-marked : (rows : List ImplRow) (p : ℕ) → get_or (map (λ (r : ImplRow). false) rows) p false ≡ false
none-marked [] p = refl
none-marked (r ∷ rows) zero = refl
none-marked (r ∷ rows) (suc p) = none-marked rows p

marks-length : (rows : List ImplRow) → length (map (λ (r : ImplRow). false) rows) ≡ length rows
marks-length [] = refl
marks-length (r ∷ rows) = ap suc (marks-length rows)

pub search-start : (rows : List ImplRow) (s : Search) → s.marks.items ≡ map (λ r. false) rows → IsSearch (length rows) s
search-start rows s e = record {
  length = ap length e ∙ marks-length rows;
  marked = λ p m. absurd (let clear : true ≡ false = sym m ∙ ap (λ bs. get_or bs p false) e ∙ none-marked rows p in cc);
}

-- an impl that stands at one of some places stands at one of more
stands-more : (rows : List ImplRow) (places new : List ℕ) (q : ImplRow) → StandsAmong rows places q → StandsAmong rows (places ++ new) q
stands-more rows places new q h = (h.0, Contains-append_left places new h.0 h.1, h.2)

all-stand-more : (rows : List ImplRow) (places new more : List ℕ) (qs : List ImplRow) → more ≡ places ++ new → All (StandsAmong rows places) qs → All (StandsAmong rows more) qs
all-stand-more rows places new more qs e h =
    subst (λ ps. All (StandsAmong rows ps) qs) (sym e) (All-weaker (StandsAmong rows places) (StandsAmong rows (places ++ new)) (stands-more rows places new) qs h)

-- a search that finds nothing new
pub finds-nothing : (t : Tables) (s : Search) → IsSearch (length t.impls.items) s → Finds t [] s s
finds-nothing t s h = record {
  valid = h;
  new = [];
  found = sym (append-nil s.found.items);
  balance = refl;
  sound = All-nil (IsOfList t []);
  whole = All-nil (StandsAmong t.impls.items s.found.items);
}

-- one that finds an impl again
marked-on : (marks : List Bool) (found : List ℕ) (p m : ℕ) → p < length marks → ((k : ℕ) → get_or marks k false ≡ true → Contains found k) →
    get_or (set marks p true) m false ≡ true → (p ≡ m) ⊎ (p ≢ m) → Contains (found ++ p ∷ []) m
marked-on marks found p m l h e (inl same) = subst (Contains (found ++ p ∷ [])) same (Contains-push found p)
marked-on marks found p m l h e (inr other) = Contains-append_left found (p ∷ []) m (h m (sym (get_or-set_other marks p m true false (λ same. other (sym same))) ∙ e))

same-or-not : (p m : ℕ) (b : Bool) → (p == m) ≡ b → (p ≡ m) ⊎ (p ≢ m)
same-or-not p m true e = inl (eqb-true p m e)
same-or-not p m false e = inr (eqb-false p m e)

-- one that finds a new impl
pub finds-new : (t : Tables) (s u : Search) (p : ℕ) (q : ImplRow) → IsSearch (length t.impls.items) s → p < length s.marks.items → get_or s.marks.items p false ≡ false →
    slice_get t.impls.items p ≡ Some q → u.found.items ≡ s.found.items ++ p ∷ [] → u.marks.items ≡ set s.marks.items p true → Finds t (q ∷ []) s u
finds-new t s u p q h l clear e found marks =
    let first : Contains (q ∷ []) q = (0, omega arith, refl) in
    let here : Contains u.found.items p = subst (λ ps. Contains ps p) (sym found) (Contains-push s.found.items p) in
    let more : length u.found.items ≡ length s.found.items + 1 = ap length found ∙ length_push s.found.items p in
    let less : unmarked u.marks.items + 1 ≡ unmarked s.marks.items = ap (λ bs. unmarked bs + 1) marks ∙ unmarked-set s.marks.items p l clear in
    record {
      valid = record {
        length = ap length marks ∙ length-set s.marks.items p true ∙ h.length;
        marked = λ m b. subst (λ ps. Contains ps m) (sym found) (marked-on s.marks.items s.found.items p m l h.marked (sym (ap (λ bs. get_or bs m false) marks) ∙ b) (same-or-not p m (p == m) refl));
      };
      new = p ∷ [];
      found = found;
      balance = omega (arith, more, less);
      sound = All-cons (IsOfList t (q ∷ [])) p [] (q, e, first) (All-nil (IsOfList t (q ∷ [])));
      whole = All-cons (StandsAmong t.impls.items u.found.items) q [] (p, here, e) (All-nil (StandsAmong t.impls.items u.found.items));
    }

-- what two searches find, one after the other
pub finds-then : (t : Tables) (qs rs : List ImplRow) (s u v : Search) → Finds t qs s u → Finds t rs u v → Finds t (qs ++ rs) s v
finds-then t qs rs s u v h k = record {
  valid = k.valid;
  new = h.new ++ k.new;
  found = k.found ∙ ap (λ ps. ps ++ k.new) h.found ∙ append_assoc s.found.items h.new k.new;
  balance = k.balance ∙ h.balance;
  sound = All-append (IsOfList t (qs ++ rs)) h.new k.new
      (All-weaker (IsOfList t qs) (IsOfList t (qs ++ rs)) (λ p w. (w.0, w.1, Contains-append_left qs rs w.0 w.2)) h.new h.sound)
      (All-weaker (IsOfList t rs) (IsOfList t (qs ++ rs)) (λ p w. (w.0, w.1, Contains-append_right qs rs w.0 w.2)) k.new k.sound);
  whole = All-append (StandsAmong t.impls.items v.found.items) qs rs (all-stand-more t.impls.items u.found.items k.new v.found.items qs k.found h.whole) k.whole;
}

rows_named-push : (t : Tables) (is : List ImplId) (i : ImplId) → rows_named t (is ++ i ∷ []) ≡ rows_named t is ++ if_row (impl_of t i)
unfolding rows_named
rows_named-push t [] i = append-nil (if_row (impl_of t i))
rows_named-push t (j ∷ is) i =
    ap (λ qs. if_row (impl_of t j) ++ qs) (rows_named-push t is i) ∙ sym (append_assoc (if_row (impl_of t j)) (rows_named t is) (if_row (impl_of t i)))

pub rows_named-none : (t : Tables) → rows_named t [] ≡ []
unfolding rows_named
rows_named-none t = refl

missing : (rows : List ImplRow) (p : ℕ) → p < length rows → slice_get rows p ≡ None → ⊥
missing [] p l e = omega (arith, l)
missing (r ∷ rows) zero l e = cc
missing (r ∷ rows) (suc p) l e = missing rows p (omega arith) e

-- what is so of the row at a place is so of the row that was looked for
pub row-at : (F : List ImplRow → Type 0) (rows : List ImplRow) (p : ℕ) (o : Option ImplRow) → p < length rows → slice_get rows p ≡ o →
    ((q : ImplRow) → slice_get rows p ≡ Some q → F (q ∷ [])) → F (if_row o)
row-at F rows p None l e h = absurd (missing rows p l e)
row-at F rows p (Some q) l e h = h q e

-- one more impl of a list is found
pub finds-more : (t : Tables) (is : List ImplId) (k : ℕ) (i : ImplId) (s u v : Search) → k < length is → i ≡ get_or is k i →
    Finds t (rows_named t (take k is)) s u → Finds t (if_row (impl_of t i)) u v → Finds t (rows_named t (take (k + 1) is)) s v
finds-more t is k i s u v l e h g =
    let taken : take (k + 1) is ≡ take k is ++ i ∷ [] = take_more is k i l ∙ ap (λ j. take k is ++ j ∷ []) (sym e) in
    subst (λ js. Finds t (rows_named t js) s v) (sym taken)
    (subst (λ qs. Finds t qs s v) (sym (rows_named-push t (take k is) i)) (finds-then t (rows_named t (take k is)) (if_row (impl_of t i)) s u v h g))

contained-below : (t : Tables) (rs : List ImplRow) (q x : ImplRow) → Contains rs q → Contains (listed_by t q) x → Contains (listed_by_all t rs) x
unfolding listed_by_all
contained-below t [] q x h k = absurd (omega (arith, h.1))
contained-below t (r ∷ rs) q x (zero, l, e) k =
    Contains-append_left (listed_by t r) (listed_by_all t rs) x (subst (λ w. Contains (listed_by t w) x) (sym e) k)
contained-below t (r ∷ rs) q x (suc n, l, e) k = Contains-append_right (listed_by t r) (listed_by_all t rs) x (contained-below t rs q x (n, omega arith, e) k)

all-below : (t : Tables) (P : ImplRow → Type 0) (rs : List ImplRow) → All (λ r. All P (listed_by t r)) rs → All P (listed_by_all t rs)
unfolding listed_by_all
all-below t P [] h = All-nil P
all-below t P (r ∷ rs) h =
    All-append P (listed_by t r) (listed_by_all t rs) (All-head (λ q. All P (listed_by t q)) r rs h) (all-below t P rs (All-tail (λ q. All P (listed_by t q)) r rs h))

-- the first turn: what an impl lists
pub follows-start : (t : Tables) (r : ImplRow) (s u : Search) → s.found.items ≡ [] → unmarked s.marks.items ≡ length t.impls.items → Finds t (listed_by t r) s u → Follows t r 0 u
unfolding reached
follows-start t r s u none clear h =
    let found : u.found.items ≡ h.new = h.found ∙ ap (λ ps. ps ++ h.new) none in
    let start : length s.found.items ≡ 0 = ap length none in
    record {
      valid = h.valid;
      balance = omega (arith, h.balance, start, clear);
      within = omega arith;
      sound = λ j l.
          let w : IsOfList t (listed_by t r) (get_or u.found.items j 0) = subst (λ ps. All (IsOfList t (listed_by t r)) ps) (sym found) h.sound j 0 l in
          (0, w.0, omega arith, w.1, w.2);
      listed = h.whole;
      followed = λ j q l e. absurd (omega (arith, l));
    }

same-row : (a b : ImplRow) (o : Option ImplRow) → o ≡ Some a → o ≡ Some b → a ≡ b
same-row a b o e f = let same : Some a ≡ Some b = sym e ∙ f in cc

sound-later : (t : Tables) (r q : ImplRow) (i : ℕ) (s u : Search) → Follows t r i s → i < length s.found.items → slice_get t.impls.items (get_or s.found.items i 0) ≡ Some q →
    (h : Finds t (listed_by t q) s u) → (j : ℕ) → j < length u.found.items → (j < length s.found.items) ⊎ (length s.found.items ≤ j) → IsReachedAt t r j (get_or u.found.items j 0)
unfolding reached
sound-later t r q i s u f l e h j m (inl before) =
    let same : get_or u.found.items j 0 ≡ get_or s.found.items j 0 = ap (λ ps. get_or ps j 0) h.found ∙ get_or_append_left s.found.items h.new 0 j before in
    subst (IsReachedAt t r j) (sym same) (f.sound j before)
sound-later t r q i s u f l e h j m (inr after) =
    let k = j - length s.found.items in
    let at : length s.found.items + k ≡ j = omega arith in
    let long : length u.found.items ≡ length s.found.items + length h.new = ap length h.found ∙ length-append s.found.items h.new in
    let inside : k < length h.new = omega (arith, long) in
    let same : get_or u.found.items j 0 ≡ get_or h.new k 0 =
    ap (λ ps. get_or ps j 0) h.found ∙ ap (λ n. get_or (s.found.items ++ h.new) n 0) (sym at) ∙ get_or-append-add s.found.items h.new k 0 in
    let new : IsOfList t (listed_by t q) (get_or h.new k 0) = h.sound k 0 inside in
    let from = f.sound i l in
    let row : from.1 ≡ q = same-row from.1 q (slice_get t.impls.items (get_or s.found.items i 0)) from.3 e in
    subst (IsReachedAt t r j) (sym same)
    (suc from.0, new.0, omega (arith, from.2), new.1, contained-below t (reached t from.0 r) q new.0 (subst (Contains (reached t from.0 r)) row from.4) new.2)

before-or-after : (j n : ℕ) → (j < n) ⊎ (n ≤ j)
before-or-after j zero = inr (omega arith)
before-or-after zero (suc n) = inl (omega arith)
before-or-after (suc j) (suc n) = elim (before-or-after j n) [ inl l ↦ inl (omega arith) | inr l ↦ inr (omega arith) ]

followed-later : (t : Tables) (r q : ImplRow) (i : ℕ) (s u : Search) → Follows t r i s → i < length s.found.items → slice_get t.impls.items (get_or s.found.items i 0) ≡ Some q →
    (h : Finds t (listed_by t q) s u) → (j : ℕ) (x : ImplRow) → j < i + 1 → slice_get t.impls.items (get_or u.found.items j 0) ≡ Some x → (j < i) ⊎ (i ≤ j) →
    All (StandsAmong t.impls.items u.found.items) (listed_by t x)
followed-later t r q i s u f l e h j x m g (inl before) =
    let inside : j < length s.found.items = omega arith in
    let same : get_or u.found.items j 0 ≡ get_or s.found.items j 0 = ap (λ ps. get_or ps j 0) h.found ∙ get_or_append_left s.found.items h.new 0 j inside in
    all-stand-more t.impls.items s.found.items h.new u.found.items (listed_by t x) h.found (f.followed j x before (sym (ap (slice_get t.impls.items) same) ∙ g))
followed-later t r q i s u f l e h j x m g (inr after) =
    let at : j ≡ i = omega arith in
    let inside : j < length s.found.items = omega arith in
    let same : get_or u.found.items j 0 ≡ get_or s.found.items i 0 =
    ap (λ ps. get_or ps j 0) h.found ∙ get_or_append_left s.found.items h.new 0 j inside ∙ ap (λ n. get_or s.found.items n 0) at in
    subst (λ w. All (StandsAmong t.impls.items u.found.items) (listed_by t w))
    (same-row q x (slice_get t.impls.items (get_or s.found.items i 0)) e (sym (ap (slice_get t.impls.items) same) ∙ g)) h.whole

-- one more turn: what the next of the impls lists that were found
pub follows-step : (t : Tables) (r q : ImplRow) (i : ℕ) (s u : Search) → Follows t r i s → i < length s.found.items → slice_get t.impls.items (get_or s.found.items i 0) ≡ Some q →
    Finds t (listed_by t q) s u → Follows t r (i + 1) u
follows-step t r q i s u f l e h =
    let long : length u.found.items ≡ length s.found.items + length h.new = ap length h.found ∙ length-append s.found.items h.new in
    record {
      valid = h.valid;
      balance = h.balance ∙ f.balance;
      within = omega (arith, long);
      sound = λ j m. sound-later t r q i s u f l e h j m (before-or-after j (length s.found.items));
      listed = all-stand-more t.impls.items s.found.items h.new u.found.items (listed_by t r) h.found f.listed;
      followed = λ j x m g. followed-later t r q i s u f l e h j x m g (before-or-after j i);
    }

whole-at : (t : Tables) (r : ImplRow) (i : ℕ) (s : Search) → Follows t r i s → length s.found.items ≤ i → (n : ℕ) → All (StandsAmong t.impls.items s.found.items) (reached t n r)
unfolding reached
whole-at t r i s f l zero = f.listed
whole-at t r i s f l (suc n) =
    all-below t (StandsAmong t.impls.items s.found.items) (reached t n r)
    (All-weaker (StandsAmong t.impls.items s.found.items) (λ q. All (StandsAmong t.impls.items s.found.items) (listed_by t q))
    (λ q w.
    let at = w.1 in
    let inside : at.0 < i = omega (arith, at.1) in
    let same : get_or s.found.items at.0 0 ≡ w.0 = get_or_default s.found.items at.0 0 w.0 at.1 ∙ at.2 in
    f.followed at.0 q inside (ap (slice_get t.impls.items) same ∙ w.2)) (reached t n r) (whole-at t r i s f l n))

-- when all that was found was followed
pub follows-end : (t : Tables) (r : ImplRow) (i : ℕ) (s : Search) → Follows t r i s → length s.found.items ≤ i → AreMoreSpecial t r s.found.items
follows-end t r i s f l = record {
  few = omega (arith, f.balance);
  sound = f.sound;
  whole = whole-at t r i s f l;
}

none-reached : (t : Tables) (r : ImplRow) → r.more_special.items ≡ [] → (n : ℕ) → reached t n r ≡ []
unfolding reached rows_named listed_by_all
none-reached t r e zero = ap (rows_named t) e
none-reached t r e (suc n) = ap (listed_by_all t) (none-reached t r e n)

-- an impl that lists nothing
pub nothing-listed : (t : Tables) (r : ImplRow) → r.more_special.items ≡ [] → AreMoreSpecial t r []
nothing-listed t r e = record {
  few = omega arith;
  sound = λ j l. absurd (omega (arith, l));
  whole = λ n. subst (All (StandsAmong t.impls.items [])) (sym (none-reached t r e n)) (All-nil (StandsAmong t.impls.items []));
}

pub specials-start : (A : Type 0) (t : Tables) → AreSpecialLists {A = A} t [] []
unfolding AreSpecialLists
specials-start A t = tt

pub specials-step : {A : Type 0} (t : Tables) (rs : List ImplRow) (ls : List (Vec ℕ A)) (r : ImplRow) (l : Vec ℕ A) → AreSpecialLists t rs ls → AreMoreSpecial t r l.items →
    AreSpecialLists t (rs ++ r ∷ []) (ls ++ l ∷ [])
unfolding AreSpecialLists
specials-step t [] [] r l h k = (k, tt)
specials-step t [] (m ∷ ls) r l h k = absurd h
specials-step t (q ∷ rs) [] r l h k = absurd h
specials-step t (q ∷ rs) (m ∷ ls) r l h k = (h.0, specials-step t rs ls r l h.1 k)

pub specials-length : {A : Type 0} (t : Tables) (rs : List ImplRow) (ls : List (Vec ℕ A)) → AreSpecialLists t rs ls → length ls ≡ length rs
unfolding AreSpecialLists
specials-length t [] [] h = refl
specials-length t [] (m ∷ ls) h = absurd h
specials-length t (q ∷ rs) [] h = absurd h
specials-length t (q ∷ rs) (m ∷ ls) h = ap suc (specials-length t rs ls h.1)

-- the list at the place of an impl is its list
pub special-at : {A : Type 0} (t : Tables) (rs : List ImplRow) (ls : List (Vec ℕ A)) (p : ℕ) (r : ImplRow) (d : Vec ℕ A) → AreSpecialLists t rs ls → slice_get rs p ≡ Some r →
    AreMoreSpecial t r (get_or ls p d).items
unfolding AreSpecialLists
special-at t [] [] p r d h e = absurd (cc)
special-at t [] (m ∷ ls) p r d h e = absurd h
special-at t (q ∷ rs) [] p r d h e = absurd h
special-at t (q ∷ rs) (m ∷ ls) zero r d h e = let same : q ≡ r = cc in subst (λ w. AreMoreSpecial t w m.items) same h.0
special-at t (q ∷ rs) (m ∷ ls) (suc p) r d h e = special-at t rs ls p r d h.1 e

-- the places of more special impls are within the rows
places-within : (t : Tables) (r : ImplRow) (places : List ℕ) → AreMoreSpecial t r places → All (λ p. p < length t.impls.items) places
places-within t r places h = All-from_get_or (λ p. p < length t.impls.items) places 0 (λ i l. let at = h.sound i l in slice_get_within t.impls.items (get_or places i 0) at.1 at.3)

-- so are those of each list
pub specials-within : {A : Type 0} (t : Tables) (rs : List ImplRow) (ls : List (Vec ℕ A)) (p : ℕ) (d : Vec ℕ A) → AreSpecialLists t rs ls → p < length ls →
    All (λ p. p < length t.impls.items) (get_or ls p d).items
unfolding AreSpecialLists
specials-within t [] [] p d h l = absurd (omega arith)
specials-within t [] (x ∷ ls) p d h l = absurd h
specials-within t (r ∷ rs) [] p d h l = absurd h
specials-within t (r ∷ rs) (x ∷ ls) zero d h l = places-within t r x.items h.0
specials-within t (r ∷ rs) (x ∷ ls) (suc p) d h l = specials-within t rs ls p d h.1 (omega arith)

or-left : (a b : Bool) → a ≡ true → a || b ≡ true
or-left a b e = ap (λ c. c || b) e

or-right : (a b : Bool) → b ≡ true → a || b ≡ true
or-right true b e = refl
or-right false b e = e

or-cases : (a b : Bool) → a || b ≡ true → (a ≡ true) ⊎ (b ≡ true)
or-cases true b e = inl refl
or-cases false b e = inr e

any-from : (f : ImplRow → Bool) (qs : List ImplRow) (q : ImplRow) → Contains qs q → f q ≡ true → list_any f qs ≡ true
any-from f qs q c e = list_any-from_Any f qs (c.0, q, c.1, c.2, e)

leads-from : (t : Tables) (r q : ImplRow) (n m : ℕ) → n < m → Contains (reached t n r) q → (q.id.0 == r.id.0) ≡ true → leads_back t m r ≡ true
unfolding leads_back
leads-from t r q n zero l c e = absurd (omega (arith, l))
leads-from t r q n (suc m) l c e = elim (before-or-after n m) [
  | inl before ↦ or-right (list_any (λ x. x.id.0 == r.id.0) (reached t m r)) (leads_back t m r) (leads-from t r q n m before c e)
  | inr after ↦ (let same : n ≡ m = omega (arith, l) in
      or-left (list_any (λ x. x.id.0 == r.id.0) (reached t m r)) (leads_back t m r)
      (any-from (λ x. x.id.0 == r.id.0) (reached t m r) q (subst (λ k. Contains (reached t k r) q) same c) e))
]

leads-to : (t : Tables) (r : ImplRow) (m : ℕ) → leads_back t m r ≡ true → (n : ℕ) × (q : ImplRow) × Contains (reached t n r) q × ((q.id.0 == r.id.0) ≡ true)
unfolding leads_back
leads-to t r zero e = absurd (cc)
leads-to t r (suc m) e = elim (or-cases (list_any (λ x. x.id.0 == r.id.0) (reached t m r)) (leads_back t m r) e) [
  | inl here ↦ (let w = Any-from_list_any (λ x. x.id.0 == r.id.0) (reached t m r) here in (m, w.1, (w.0, w.2, w.3), w.4))
  | inr later ↦ leads-to t r m later
]

one-place : (i : ImplId) (o : Option ImplRow) → option_holds (λ q. q.id.0 == i.0) o ≡ true →
    (q : ImplRow) × (o ≡ Some q) × ((q.id.0 == i.0) ≡ true)
one-place i None h = absurd (cc)
one-place i (Some q) h = (q, refl, h)

both-ways : (a b : Bool) → (a ≡ true → b ≡ true) → (b ≡ true → a ≡ true) → a ≡ b
both-ways true b h k = sym (h refl)
both-ways false true h k = k refl
both-ways false false h k = refl

-- an impl leads back to itself where it stands among those that are more special
pub leads-same : (t : Tables) (r : ImplRow) (places : List ℕ) → AreMoreSpecial t r places →
    list_any (λ p. option_holds (λ q. q.id.0 == r.id.0) (slice_get t.impls.items p)) places ≡ leads_back t (length t.impls.items) r
leads-same t r places h =
    let test : ℕ → Bool = λ p. option_holds (λ q. q.id.0 == r.id.0) (slice_get t.impls.items p) in
    both-ways (list_any test places) (leads_back t (length t.impls.items) r)
    (λ e.
    let w = Any-from_list_any test places e in
    let found = one-place r.id (slice_get t.impls.items w.1) w.4 in
    let at = h.sound w.0 w.2 in
    let place : get_or places w.0 0 ≡ w.1 = get_or_default places w.0 0 w.1 w.2 ∙ w.3 in
    let row : at.1 ≡ found.0 = same-row at.1 found.0 (slice_get t.impls.items (get_or places w.0 0)) at.3 (ap (slice_get t.impls.items) place ∙ found.1) in
    leads-from t r at.1 at.0 (length t.impls.items) (omega (arith, at.2, w.2, h.few)) at.4 (ap (λ q. q.id.0 == r.id.0) row ∙ found.2))
    (λ e.
    let w = leads-to t r (length t.impls.items) e in
    let stands = All-contains (StandsAmong t.impls.items places) (reached t w.0 r) w.1 (h.whole w.0) w.2 in
    list_any-from_Any test places (stands.1.0, stands.0, stands.1.1, stands.1.2, ap (option_holds (λ q. q.id.0 == r.id.0)) stands.2 ∙ w.3))

row-there : (rows : List ImplRow) (i : ℕ) → i < length rows → (r : ImplRow) × (slice_get rows i ≡ Some r)
row-there [] i l = absurd (omega arith)
row-there (r ∷ rows) zero l = (r, refl)
row-there (r ∷ rows) (suc i) l = row-there rows i (omega arith)

-- one more impl is tested
pub any-turn : (f : ImplRow → Bool) (rows : List ImplRow) (i : ℕ) (b found : Bool) → i < length rows → b ≡ list_any f (take i rows) →
    ((r : ImplRow) → slice_get rows i ≡ Some r → found ≡ f r) → b || found ≡ list_any f (take (i + 1) rows)
any-turn f rows i b found l e h =
    let at = row-there rows i l in
    ap (λ c. c || found) e ∙ ap (λ c. list_any f (take i rows) || c) (h at.0 at.1 ∙ ap f (sym (get_or_from_slice_get rows i at.0 at.0 at.1))) ∙ sym (list_any_more f rows i at.0 l)
