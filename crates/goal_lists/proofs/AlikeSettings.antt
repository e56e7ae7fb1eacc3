-- Settings that are alike: with the impls in another order, and in another mode where nothing depends on the mode.
use Rattle.std.proofs.Common.{◌≡◌, ◌⊎◌, ◌==◌, ◌||◌, inl, inr, ℕ, suc, Bool, true, false, cond, List, [], ◌∷◌, map, Option, Some, None, is_some, Vec, Global, refl, sym, ap, ◌∙◌, subst, eq-eqb, eqb-true}
use Rattle.std.specs.Prelude.{find, if◌then◌else◌}
use Rattle.std.specs.Option.{option_map}
use Rattle.std.specs.List.{list_any}
use Rattle.goal_terms.specs.declared.ids.DefId.{DefId}
use Rattle.goal_terms.specs.declared.ids.OpaqueId.{OpaqueId}
use Rattle.goal_terms.specs.declared.modes.TypingMode.{TypingMode}
use Rattle.goal_terms.specs.declared.modes.TypingMode.TheVariants as mode
use Rattle.goal_tables.specs.Places.{first_place, has_double}
use Rattle.goal_tables.specs.declared.rows.ImplRow.{ImplRow}
use Rattle.goal_tables.specs.declared.rows.OpaqueRow.{OpaqueRow}
use Rattle.goal_tables.specs.declared.rows.Source.{Source}
use Rattle.goal_tables.specs.declared.rows.Source.TheVariants as source
use Rattle.goal_tables.specs.declared.rows.SourceRow.{SourceRow}
use Rattle.goal_lists.specs.Laws.{IsAlike}
use Rattle.goal_lists.specs.Settings.{Setting, is_coherence, is_headline}
use Rattle.goal_lists.specs.Words.{Exists}
use Rattle.goal_lists.proofs.Members.{IsIn, HasSameElements}

-- of two tests of which one holds in none, none holds
or-false : (a b : Bool) → a || b ≡ false → (a ≡ false) × (b ≡ false)
or-false true b e = absurd (cc)
or-false false b e = (refl, e)

-- a key that stands in a list has a place there
place-step : (b : Bool) (o : Option ℕ) → (b ≡ true) ⊎ (is_some o ≡ true) → is_some (if b then Some 0 else option_map suc o) ≡ true
place-step true o h = refl
place-step false o (inl e) = absurd (cc)
place-step false None (inr e) = e
place-step false (Some n) (inr e) = refl

place-there : {A : Type 0} (f : A → ℕ) (xs : List A) (q : A) (k : ℕ) → IsIn q xs → f q ≡ k → is_some (first_place ◌==◌ (map f xs) k) ≡ true
unfolding Exists
place-there f [] q k i e = absurd i
place-there f (x ∷ xs) q k (inl s) e = place-step (f x == k) (first_place ◌==◌ (map f xs) k) (inl (eq-eqb (f x) k (ap f s ∙ e)))
place-there f (x ∷ xs) q k (inr i) e = place-step (f x == k) (first_place ◌==◌ (map f xs) k) (inr (place-there f xs q k i e))

-- in a list without doubled numbers, elements of one number are the same
same-number : {A : Type 0} (f : A → ℕ) (xs : List A) → has_double ◌==◌ (map f xs) ≡ false → (r q : A) → IsIn r xs → IsIn q xs → f r ≡ f q → r ≡ q
unfolding Exists
same-number f [] d r q i j e = absurd i
same-number f (x ∷ xs) d r q (inl s) (inl t) e = sym s ∙ t
same-number f (x ∷ xs) d r q (inl s) (inr j) e =
    let n : is_some (first_place ◌==◌ (map f xs) (f x)) ≡ false = (or-false _ _ d).0 in
    let y : is_some (first_place ◌==◌ (map f xs) (f x)) ≡ true = place-there f xs q (f x) j (sym e ∙ ap f (sym s)) in
    absurd (cc)
same-number f (x ∷ xs) d r q (inr i) (inl t) e =
    let n : is_some (first_place ◌==◌ (map f xs) (f x)) ≡ false = (or-false _ _ d).0 in
    let y : is_some (first_place ◌==◌ (map f xs) (f x)) ≡ true = place-there f xs r (f x) i (e ∙ ap f (sym t)) in
    absurd (cc)
same-number f (x ∷ xs) d r q (inr i) (inr j) e = same-number f xs (or-false (is_some (first_place ◌==◌ (map f xs) (f x))) _ d).1 r q i j e

-- the element that is found stands in the list and passes, and none passes where none is found
found-at : {A : Type 0} (t : A → Bool) (x : A) (xs : List A) (r : A) (b : Bool) → t x ≡ b → (find t xs ≡ Some r → IsIn r xs × (t r ≡ true)) →
    cond b (Some x) (find t xs) ≡ Some r → IsIn r (x ∷ xs) × (t r ≡ true)
unfolding Exists
found-at t x xs r true e later h = let s : x ≡ r = cc in (inl s, ap t (sym s) ∙ e)
found-at t x xs r false e later h = (inr (later h).0, (later h).1)

pub found : {A : Type 0} (t : A → Bool) (xs : List A) (r : A) → find t xs ≡ Some r → IsIn r xs × (t r ≡ true)
found t [] r h = absurd (cc)
found t (x ∷ xs) r h = found-at t x xs r (t x) refl (found t xs r) h

not_found-at : {A : Type 0} (t : A → Bool) (x : A) (xs : List A) (b : Bool) → t x ≡ b → (find t xs ≡ None → (r : A) → IsIn r xs → t r ≡ false) →
    cond b (Some x) (find t xs) ≡ None → (r : A) → IsIn r (x ∷ xs) → t r ≡ false
unfolding Exists
not_found-at t x xs true e later h r i = absurd (cc)
not_found-at t x xs false e later h r (inl s) = ap t (sym s) ∙ e
not_found-at t x xs false e later h r (inr i) = later h r i

not_found : {A : Type 0} (t : A → Bool) (xs : List A) → find t xs ≡ None → (r : A) → IsIn r xs → t r ≡ false
unfolding Exists
not_found t [] h r i = absurd i
not_found t (x ∷ xs) h r i = not_found-at t x xs (t x) refl (not_found t xs) h r i

-- lists with the same elements, of which one alone passes a test, have the same first that passes
find-same_at : {A : Type 0} (t : A → Bool) (xs ys : List A) → HasSameElements xs ys → ((r q : A) → IsIn r xs → IsIn q xs → t r ≡ true → t q ≡ true → r ≡ q) →
    (o p : Option A) → find t ys ≡ o → find t xs ≡ p → o ≡ p
find-same_at t xs ys s one None None e f = refl
find-same_at t xs ys s one None (Some q) e f =
    let h = found t xs q f in
    let n : t q ≡ false = not_found t ys e q (s.0 q h.0) in
    let y : t q ≡ true = h.1 in
    absurd (cc)
find-same_at t xs ys s one (Some r) None e f =
    let h = found t ys r e in
    let n : t r ≡ false = not_found t xs f r (s.1 r h.0) in
    let y : t r ≡ true = h.1 in
    absurd (cc)
find-same_at t xs ys s one (Some r) (Some q) e f =
    let h = found t ys r e in
    let k = found t xs q f in
    ap Some (one r q (s.1 r h.0) k.0 h.1 k.1)

find-same : {A : Type 0} (f : A → ℕ) (k : ℕ) (xs ys : List A) → HasSameElements xs ys → has_double ◌==◌ (map f xs) ≡ false →
    find (λ r. f r == k) ys ≡ find (λ r. f r == k) xs
find-same f k xs ys s d =
    find-same_at (λ r. f r == k) xs ys s (λ r q i j e g. same-number f xs d r q i j (eqb-true (f r) k e ∙ sym (eqb-true (f q) k g))) _ _ refl refl

-- a setting with the same impls in another order is alike, if no id of an impl is doubled
pub alike-reordered : (S : Setting) (v : Vec ImplRow Global) → HasSameElements S.tables.impls.items v.items →
    has_double ◌==◌ (map (λ r. r.id.0) S.tables.impls.items) ≡ false → IsAlike S v S.mode
alike-reordered S v s d = record {
  among = s.0;
  among_back = s.1;
  same_impl = λ i. find-same (λ r. r.id.0) i.0 S.tables.impls.items v.items s d;
  same_coherence = refl;
  same_opens = λ i r e. refl;
  same_checked = λ i r e. refl;
  same_reveals = λ i r e. refl;
  same_defaults = λ i j r x e f. refl;
  same_hidden_defaults = λ i j r x e f. refl;
}

-- in tables without opaque types nothing is revealed, whatever the mode
no_opaque : (rows : List OpaqueRow) (i : OpaqueId) (r : OpaqueRow) → rows ≡ [] → find (λ q. q.id.0 == i.0) rows ≡ Some r → ⊥
no_opaque rows i r e h = let n : None ≡ Some r = subst (λ qs. find (λ q. q.id.0 == i.0) qs ≡ Some r) e h in cc

-- where no element passes a test, none in the list does
none_passes : {A : Type 0} (t : A → Bool) (xs : List A) → list_any t xs ≡ false → (x : A) → IsIn x xs → t x ≡ false
unfolding Exists
none_passes t [] h x i = absurd i
none_passes t (y ∷ ys) h x (inl s) = ap t (sym s) ∙ (or-false (t y) (list_any t ys) h).0
none_passes t (y ∷ ys) h x (inr i) = none_passes t ys (or-false (t y) (list_any t ys) h).1 x i

-- a source is no default, if none is by a test that each default passes
no_default : (t : Source → Bool) → ((d : DefId) → t (source.Def d true) ≡ true) → (rows : List SourceRow) → list_any (λ r. t r.source) rows ≡ false →
    (q : SourceRow) (d : DefId) → IsIn q rows → q.source ≡ source.Def d true → ⊥
no_default t each rows h q d i e =
    let n : t q.source ≡ false = none_passes (λ r. t r.source) rows h q i in
    let y : t q.source ≡ true = ap t e ∙ each d in
    let p : false ≡ true = sym n ∙ y in
    cc

-- a setting in another mode is alike, if both or neither are of coherence, there are no opaque types, and no impl uses a default, by a test that each default passes
pub alike-any_mode : (S : Setting) (m : TypingMode) (t : Source → Bool) → is_coherence m ≡ is_coherence S.mode → ((d : DefId) → t (source.Def d true) ≡ true) →
    S.tables.opaque_types.items ≡ [] → list_any (λ r. t r.source) S.tables.sources.items ≡ false → IsAlike S S.tables.impls m
alike-any_mode S m t coherence passes bare h = record {
  among = λ r i. i;
  among_back = λ r i. i;
  same_impl = λ i. refl;
  same_coherence = coherence;
  same_opens = λ i r e. absurd (no_opaque S.tables.opaque_types.items i r bare e);
  same_checked = λ i r e. absurd (no_opaque S.tables.opaque_types.items i r bare e);
  same_reveals = λ i r e. absurd (no_opaque S.tables.opaque_types.items i r bare e);
  same_defaults = λ i j q d e f. absurd (no_default t passes S.tables.sources.items h q d (found _ S.tables.sources.items q e).0 f);
  same_hidden_defaults = λ i j q d e f. absurd (no_default t passes S.tables.sources.items h q d (found _ S.tables.sources.items q e).0 f);
}

-- no mode of the headline is of coherence
headline-coherent : (m : TypingMode) → is_headline m ≡ true → is_coherence m ≡ false
headline-coherent mode.Coherence h = sym h
headline-coherent (mode.Analysis ids) h = refl
headline-coherent (mode.Borrowck ids) h = refl
headline-coherent (mode.PostBorrowckAnalysis ids) h = refl
headline-coherent mode.PostAnalysis h = refl
headline-coherent mode.ErasedNotCoherence h = refl

pub headlines-coherent : (m k : TypingMode) → is_headline m ≡ true → is_headline k ≡ true → is_coherence k ≡ is_coherence m
headlines-coherent m k h i = headline-coherent k i ∙ sym (headline-coherent m h)
