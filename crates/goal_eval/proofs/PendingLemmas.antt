-- What comparisons of terms leave to be compared.
use Rattle.std.proofs.Common.{◌≡◌, ◌≢◌, ◌↔◌, ◌<◌, ◌≤◌, ◌+◌, ◌⊎◌, ℕ, zero, suc, true, max, List, [], ◌∷◌, ◌++◌, length, map, drop, get_or, refl, sym, ap, ◌∙◌, subst, inl, inr, arith}
use Rattle.std.specs.Prelude.{Result, Ok, Err, IfOk}
use Rattle.goal_interner.specs.TableMeaning.{tree_at, AreBelow}
use Rattle.std.proofs.lemmas.List.{length-map, drop_all, drop_more, get_or-map}
use Rattle.std.proofs.lemmas.List.Elements.{All-head, All-tail}
use Rattle.goal_terms.proofs.WalkLemmas.{parts_of-compared}
use Rattle.goal_terms.specs.Erased.{erased}
use Rattle.goal_terms.specs.Tree.{Tree, parts_of}
use Rattle.goal_terms.specs.declared.compare.Regions.TheVariants.{Forgotten}
use Rattle.goal_interner.specs.declared.term_nodes.TermId.{TermId}
use Rattle.goal_lists.specs.Interned.{erased_at, erased_all}
use Rattle.goal_lists.specs.Level.{Level}
use Rattle.goal_lists.specs.Levels.{level}
use Rattle.goal_lists.specs.Settings.{Setting}
use Rattle.goal_lists.specs.Words.{Each, Exists, Pairs, SomePair}
use Rattle.goal_eval.specs.Outcomes.{Says}
use Rattle.goal_lists.specs.Joined.{both}
use Rattle.goal_eval.specs.Pending.{Stands, Fails, AllEqual, SomeUnequal, Relates, HaveOneHead, NeedForms, AreOfOneKind, IsOpen, Adds}
use Rattle.goal_lists.specs.declared.outcomes.Outcome.{Outcome}
use Rattle.goal_lists.specs.declared.outcomes.Outcome.TheVariants.{Holds, Refuted, Undecided}
use Rattle.goal_eval.specs.declared.relate.pairs.Pending.{Pending}
use Rattle.goal_eval.specs.declared.relate.pairs.TermPair.{TermPair}
use Rattle.goal_eval.proofs.TopLemmas.{compares}
use Rattle.goal_eval.proofs.PartKinds.{alias-sort}

-- a number above all of these numbers
abbrev pub ceiling : List TermId → ℕ
ceiling [] = 0
ceiling (x ∷ xs) = max (suc x.0) (ceiling xs)

pub below-ceiling : (ids : List TermId) (i : ℕ) (d : TermId) → i < length ids → (get_or ids i d).0 < ceiling ids
below-ceiling [] i d l = absurd (omega arith)
below-ceiling (x ∷ xs) zero d l = omega arith
below-ceiling (x ∷ xs) (suc i) d l = let h : (get_or xs i d).0 < ceiling xs = below-ceiling xs i d (omega arith) in omega arith

pub ceiling-below : (count : ℕ) (ids : List TermId) → AreBelow count ids → ceiling ids ≤ count
ceiling-below count [] below = omega arith
ceiling-below count (x ∷ xs) below =
    let first : x.0 < count = All-head (λ (i : TermId). i.0 < count) x xs below in
    let rest : ceiling xs ≤ count = ceiling-below count xs (All-tail (λ (i : TermId). i.0 < count) x xs below) in
    omega arith

-- what was left and the question whether two lists are equal come to what is left and that question from a place on
abbrev pub Leaves : List Tree → Pending → Pending → ℕ → List TermId → List TermId → Type 0
Leaves T old new i ls rs =
    (S : Setting) (n : ℕ)
    → ((AllEqual (level S n) T old.outcome old.pairs.items × Pairs (level S n).equal (erased_all T ls) (erased_all T rs))
    ↔ (AllEqual (level S n) T new.outcome new.pairs.items × Pairs (level S n).equal (drop i (erased_all T ls)) (drop i (erased_all T rs))))
    × ((SomeUnequal (level S n) T old.outcome old.pairs.items ⊎ SomePair (level S n).unequal (erased_all T ls) (erased_all T rs))
    ↔ (SomeUnequal (level S n) T new.outcome new.pairs.items ⊎ SomePair (level S n).unequal (drop i (erased_all T ls)) (drop i (erased_all T rs))))

-- a question is added to an outcome
pub all-met : (P R X : Type 0) → (P → R → ⊥) → (o q : Outcome) → Says P R q → ((Stands o × X) × P) ↔ (Stands (both o q) × X)
all-met P R X apart Holds Holds s = (λ x. (tt, x.0.1), λ x. ((tt, x.1), s))
all-met P R X apart Holds Refuted s = (λ x. absurd (apart x.1 s), λ x. absurd x.0)
all-met P R X apart Holds Undecided s = (λ x. absurd (s.0 x.1), λ x. absurd x.0)
all-met P R X apart Refuted q s = (λ x. absurd x.0.0, λ x. absurd x.0)
all-met P R X apart Undecided Holds s = (λ x. absurd x.0.0, λ x. absurd x.0)
all-met P R X apart Undecided Refuted s = (λ x. absurd x.0.0, λ x. absurd x.0)
all-met P R X apart Undecided Undecided s = (λ x. absurd x.0.0, λ x. absurd x.0)

-- what was there is left where the question isn't refuted
kept-left : (F R Y : Type 0) → (R → ⊥) → ((F ⊎ Y) ⊎ R) ↔ (F ⊎ Y)
kept-left F R Y never = (λ x. elim x [ inl y ↦ y | inr r ↦ absurd (never r) ], λ x. inl x)

pub some-met : (P R Y : Type 0) → (P → R → ⊥) → (o q : Outcome) → Says P R q → ((Fails o ⊎ Y) ⊎ R) ↔ (Fails (both o q) ⊎ Y)
some-met P R Y apart Holds Holds s = kept-left ⊥ R Y (λ r. apart s r)
some-met P R Y apart Holds Refuted s = (λ x. inl tt, λ x. inr s)
some-met P R Y apart Holds Undecided s = kept-left ⊥ R Y s.1
some-met P R Y apart Refuted q s = (λ x. inl tt, λ x. inl (inl tt))
some-met P R Y apart Undecided Holds s = kept-left ⊥ R Y (λ r. apart s r)
some-met P R Y apart Undecided Refuted s = (λ x. inl tt, λ x. inr s)
some-met P R Y apart Undecided Undecided s = kept-left ⊥ R Y s.1

-- a settled question is added
pub adds-settled : (T : List Tree) (old : Pending) (l r : TermId) (q : Outcome) →
    ((S : Setting) (n : ℕ) → Says ((level S n).equal (erased_at T l) (erased_at T r)) ((level S n).unequal (erased_at T l) (erased_at T r)) q) →
    (o : Outcome) → o ≡ both old.outcome q →
    Adds T old (record old { outcome = o }) (λ L. L.equal (erased_at T l) (erased_at T r)) (λ L. L.unequal (erased_at T l) (erased_at T r))
adds-settled T old l r q says o e S n =
    let apart : (level S n).equal (erased_at T l) (erased_at T r) → (level S n).unequal (erased_at T l) (erased_at T r) → ⊥ =
    (compares S n).apart (erased_at T l) (erased_at T r) in
    let X : Type 0 = Each (Relates (level S n).equal T) old.pairs.items in
    let Y : Type 0 = Exists (Relates (level S n).unequal T) old.pairs.items in
    subst (λ z. (((Stands old.outcome × X) × (level S n).equal (erased_at T l) (erased_at T r)) ↔ (Stands z × X))
    × (((Fails old.outcome ⊎ Y) ⊎ (level S n).unequal (erased_at T l) (erased_at T r)) ↔ (Fails z ⊎ Y))) (sym e)
    (all-met _ _ X apart old.outcome q (says S n), some-met _ _ Y apart old.outcome q (says S n))

-- one more element
module _ {A : Type 0} (P : A → Type 0) where
  each-push : (xs : List A) (x : A) → Each P xs → P x → Each P (xs ++ x ∷ [])
  unfolding Each
  each-push [] x h p = (p, tt)
  each-push (y ∷ xs) x h p = (h.0, each-push xs x h.1 p)

  each-but : (xs : List A) (x : A) → Each P (xs ++ x ∷ []) → Each P xs
  unfolding Each
  each-but [] x h = tt
  each-but (y ∷ xs) x h = (h.0, each-but xs x h.1)

  each-last : (xs : List A) (x : A) → Each P (xs ++ x ∷ []) → P x
  unfolding Each
  each-last [] x h = h.0
  each-last (y ∷ xs) x h = each-last xs x h.1

  exists-push : (xs : List A) (x : A) → Exists P xs ⊎ P x → Exists P (xs ++ x ∷ [])
  unfolding Exists
  exists-push [] x (inl h) = absurd h
  exists-push [] x (inr p) = inl p
  exists-push (y ∷ xs) x (inl (inl h)) = inl h
  exists-push (y ∷ xs) x (inl (inr h)) = inr (exists-push xs x (inl h))
  exists-push (y ∷ xs) x (inr p) = inr (exists-push xs x (inr p))

  exists-pushed : (xs : List A) (x : A) → Exists P (xs ++ x ∷ []) → Exists P xs ⊎ P x
  unfolding Exists
  exists-pushed [] x (inl h) = inr h
  exists-pushed [] x (inr h) = absurd h
  exists-pushed (y ∷ xs) x (inl h) = inl (inl h)
  exists-pushed (y ∷ xs) x (inr h) = elim (exists-pushed xs x h) [ inl e ↦ inl (inr e) | inr p ↦ inr p ]

-- a pair of terms is added
pub adds-pair : (T : List Tree) (old new : Pending) (l r : TermId) → new.outcome ≡ old.outcome → new.pairs.items ≡ old.pairs.items ++ (record { left = l; right = r }) ∷ [] →
    Adds T old new (λ L. L.equal (erased_at T l) (erased_at T r)) (λ L. L.unequal (erased_at T l) (erased_at T r))
adds-pair T old new l r e f S n =
    let p : TermPair = record { left = l; right = r } in
    let Z : Outcome → List TermPair → Type 0 = λ o xs.
    ((AllEqual (level S n) T old.outcome old.pairs.items × (level S n).equal (erased_at T l) (erased_at T r)) ↔ AllEqual (level S n) T o xs)
    × ((SomeUnequal (level S n) T old.outcome old.pairs.items ⊎ (level S n).unequal (erased_at T l) (erased_at T r)) ↔ SomeUnequal (level S n) T o xs) in
    let E : TermPair → Type 0 = Relates (level S n).equal T in
    let U : TermPair → Type 0 = Relates (level S n).unequal T in
    let here : Z old.outcome (old.pairs.items ++ p ∷ []) = (
      (
        λ x. (x.0.0, each-push E old.pairs.items p x.0.1 x.1),
        λ x. ((x.0, each-but E old.pairs.items p x.1), each-last E old.pairs.items p x.1),
      ),
      (
        λ x. elim x [
          | inl y ↦ elim y [ inl z ↦ inl z | inr z ↦ inr (exists-push U old.pairs.items p (inl z)) ]
          | inr u ↦ inr (exists-push U old.pairs.items p (inr u))
        ],
        λ x. elim x [
          | inl z ↦ inl (inl z)
          | inr z ↦ elim (exists-pushed U old.pairs.items p z) [ inl y ↦ inl (inr y) | inr u ↦ inr u ]
        ],
      ),
    ) in
    subst (λ o. Z o new.pairs.items) (sym e) (subst (λ xs. Z old.outcome xs) (sym f) here)

-- the same question in other words
pub adds-as : (T : List Tree) (old new : Pending) (P R Q V : Level → Type 0) →
    ((S : Setting) (n : ℕ) → Q (level S n) → P (level S n)) → ((S : Setting) (n : ℕ) → P (level S n) → Q (level S n)) →
    ((S : Setting) (n : ℕ) → V (level S n) → R (level S n)) → ((S : Setting) (n : ℕ) → R (level S n) → V (level S n)) →
    Adds T old new P R → Adds T old new Q V
adds-as T old new P R Q V qp pq vr rv adds S n = (
  (λ x. (adds S n).0.0 (x.0, qp S n x.1), λ x. let y : AllEqual (level S n) T old.outcome old.pairs.items × P (level S n) = (adds S n).0.1 x in (y.0, pq S n y.1)),
  (
    λ x. (adds S n).1.0 (elim x [ inl y ↦ inl y | inr v ↦ inr (vr S n v) ]),
    λ x. elim ((adds S n).1.1 x) [ inl y ↦ inl y | inr w ↦ inr (rv S n w) ],
  ),
)

all_at : (T : List Tree) (ids : List TermId) → erased_all T ids ≡ map erased (map (tree_at T) ids)
all_at T [] = refl
all_at T (id ∷ ids) = ap (λ ts. erased_at T id ∷ ts) (all_at T ids)

-- the parts of a term without lifetimes
pub parts-at : (T : List Tree) (id : TermId) (ids : List TermId) → map (tree_at T) ids ≡ parts_of (tree_at T id) → erased_all T ids ≡ parts_of (erased_at T id)
parts-at T id ids e = all_at T ids ∙ ap (map erased) e ∙ sym (parts_of-compared Forgotten (tree_at T id))

-- the question whether two terms of one constructor are equal is that of their parts
pub adds-parts : (T : List Tree) (old new : Pending) (l r : TermId) (ls rs : List TermId) → HaveOneHead (erased_at T l) (erased_at T r) →
    map (tree_at T) ls ≡ parts_of (tree_at T l) → map (tree_at T) rs ≡ parts_of (tree_at T r) →
    Adds T old new (λ L. Pairs L.equal (erased_all T ls) (erased_all T rs)) (λ L. SomePair L.unequal (erased_all T ls) (erased_all T rs)) →
    Adds T old new (λ L. L.equal (erased_at T l) (erased_at T r)) (λ L. L.unequal (erased_at T l) (erased_at T r))
adds-parts T old new l r ls rs one e f adds =
    let t : Tree = erased_at T l in
    let u : Tree = erased_at T r in
    let parts : Adds T old new (λ L. Pairs L.equal (parts_of t) (parts_of u)) (λ L. SomePair L.unequal (parts_of t) (parts_of u)) =
    subst (λ xs. Adds T old new (λ L. Pairs L.equal xs (parts_of u)) (λ L. SomePair L.unequal xs (parts_of u))) (parts-at T l ls e)
    (subst (λ xs. Adds T old new (λ L. Pairs L.equal (erased_all T ls) xs) (λ L. SomePair L.unequal (erased_all T ls) xs)) (parts-at T r rs f) adds) in
    adds-as T old new (λ L. Pairs L.equal (parts_of t) (parts_of u)) (λ L. SomePair L.unequal (parts_of t) (parts_of u))
    (λ L. L.equal t u) (λ L. L.unequal t u)
    (λ S n. (compares S n).parts_equal t u one) (λ S n. (compares S n).equal_by_parts t u one)
    (λ S n. (compares S n).parts_unequal t u one) (λ S n. (compares S n).unequal_by_parts t u one) parts

pub adds-parts_ok : {X Y : Type 0} (result : Result X Y) (T : List Tree) (old new : Pending) (l r : TermId) (ls rs : List TermId) → HaveOneHead (erased_at T l) (erased_at T r) →
    map (tree_at T) ls ≡ parts_of (tree_at T l) → map (tree_at T) rs ≡ parts_of (tree_at T r) →
    IfOk result (λ u. Adds T old new (λ L. Pairs L.equal (erased_all T ls) (erased_all T rs)) (λ L. SomePair L.unequal (erased_all T ls) (erased_all T rs))) →
    IfOk result (λ u. Adds T old new (λ L. L.equal (erased_at T l) (erased_at T r)) (λ L. L.unequal (erased_at T l) (erased_at T r)))
adds-parts_ok (Ok x) T old new l r ls rs one e f adds = adds-parts T old new l r ls rs one e f adds
adds-parts_ok (Err x) T old new l r ls rs one e f adds = tt

-- a pair of arguments, of which one is an alias, is open
pub open-pair : (T : List Tree) (l r : TermId) → AreOfOneKind T l r → NeedForms (erased_at T l) (erased_at T r) → IsOpen T (record { left = l; right = r })
open-pair T l r alike needs =
    let one : alike.0 ≡ true = alias-sort (tree_at T l) (tree_at T r) alike.0 alike.1.1 alike.2.1 needs.0 in
    ((alike.1.0, alike.1.1 ∙ one), (alike.2.0, alike.2.1 ∙ one), needs)

-- lists of two lengths
module _ {A B : Type 0} (R : A → B → Type 0) where
  pairs-lengths : (xs : List A) (ys : List B) → Pairs R xs ys → length xs ≡ length ys
  unfolding Pairs
  pairs-lengths [] [] p = refl
  pairs-lengths [] (y ∷ ys) p = absurd p
  pairs-lengths (x ∷ xs) [] p = absurd p
  pairs-lengths (x ∷ xs) (y ∷ ys) p = ap suc (pairs-lengths xs ys p.1)

  some-lengths : (xs : List A) (ys : List B) → length xs ≢ length ys → SomePair R xs ys
  unfolding SomePair
  some-lengths [] [] n = n refl
  some-lengths [] (y ∷ ys) n = tt
  some-lengths (x ∷ xs) [] n = tt
  some-lengths (x ∷ xs) (y ∷ ys) n = inr (some-lengths xs ys (λ e. n (ap suc e)))

  pairs-none : Pairs R [] []
  unfolding Pairs
  pairs-none = tt

  some-none : SomePair R [] [] → ⊥
  unfolding SomePair
  some-none x = x

  pairs-more : (x : A) (y : B) (xs : List A) (ys : List B) → Pairs R (x ∷ xs) (y ∷ ys) ↔ (R x y × Pairs R xs ys)
  unfolding Pairs
  pairs-more x y xs ys = (λ p. p, λ p. p)

  some-more : (x : A) (y : B) (xs : List A) (ys : List B) → SomePair R (x ∷ xs) (y ∷ ys) ↔ (R x y ⊎ SomePair R xs ys)
  unfolding SomePair
  some-more x y xs ys = (λ p. p, λ p. p)

  pairs-from : (zs : List A) (ws : List B) (x : A) (y : B) (xs : List A) (ys : List B) → zs ≡ x ∷ xs → ws ≡ y ∷ ys → Pairs R zs ws ↔ (R x y × Pairs R xs ys)
  pairs-from zs ws x y xs ys e f =
      subst (λ zs. Pairs R zs ws ↔ (R x y × Pairs R xs ys)) (sym e) (subst (λ ws. Pairs R (x ∷ xs) ws ↔ (R x y × Pairs R xs ys)) (sym f) (pairs-more x y xs ys))

  some-from : (zs : List A) (ws : List B) (x : A) (y : B) (xs : List A) (ys : List B) → zs ≡ x ∷ xs → ws ≡ y ∷ ys → SomePair R zs ws ↔ (R x y ⊎ SomePair R xs ys)
  some-from zs ws x y xs ys e f =
      subst (λ zs. SomePair R zs ws ↔ (R x y ⊎ SomePair R xs ys)) (sym e) (subst (λ ws. SomePair R (x ∷ xs) ws ↔ (R x y ⊎ SomePair R xs ys)) (sym f) (some-more x y xs ys))

-- lists of two lengths are unequal
pub adds-lengths : (T : List Tree) (old : Pending) (ls rs : List TermId) → length rs ≢ length ls →
    Adds T old (record old { outcome = Refuted }) (λ L. Pairs L.equal (erased_all T ls) (erased_all T rs)) (λ L. SomePair L.unequal (erased_all T ls) (erased_all T rs))
adds-lengths T old ls rs differ S n =
    let apart : length (erased_all T ls) ≢ length (erased_all T rs) =
    λ e. differ (sym (length-map rs (erased_at T)) ∙ sym e ∙ length-map ls (erased_at T)) in (
      (λ x. absurd (apart (pairs-lengths (level S n).equal _ _ x.1)), λ x. absurd x.0),
      (λ x. inl tt, λ x. inr (some-lengths (level S n).unequal _ _ apart)),
    )

-- what is left of a list from a place on
drop-at : (T : List Tree) (ids : List TermId) (i : ℕ) (d : TermId) → i < length ids →
    drop i (erased_all T ids) ≡ erased_at T (get_or ids i d) ∷ drop (i + 1) (erased_all T ids)
drop-at T ids i d l =
    drop_more (erased_all T ids) i (erased_at T d) (subst (λ n. i < n) (sym (length-map ids (erased_at T))) l)
    ∙ ap (λ t. t ∷ drop (i + 1) (erased_all T ids)) (get_or-map (erased_at T) ids i d (erased_at T d) l)

drop-end : (T : List Tree) (ids : List TermId) (i : ℕ) → length ids ≤ i → drop i (erased_all T ids) ≡ []
drop-end T ids i l = drop_all i (erased_all T ids) (subst (λ n. n ≤ i) (sym (length-map ids (erased_at T))) l)

-- one more question, in plain words
more-all : (O C N P Q X : Type 0) → (O ↔ (C × X)) → (X ↔ (P × Q)) → ((C × P) ↔ N) → O ↔ (N × Q)
more-all O C N P Q X was split add = (
  λ o. let y : C × X = was.0 o in let z : P × Q = split.0 y.1 in (add.0 (y.0, z.0), z.1),
  λ x. let w : C × P = add.1 x.0 in was.1 (w.0, split.1 (w.1, x.1)),
)

more-some : (O C N P Q X : Type 0) → (O ↔ (C ⊎ X)) → (X ↔ (P ⊎ Q)) → ((C ⊎ P) ↔ N) → O ↔ (N ⊎ Q)
more-some O C N P Q X was split add = (
  λ o. elim (was.0 o) [
    | inl c ↦ inl (add.0 (inl c))
    | inr x ↦ elim (split.0 x) [ inl p ↦ inl (add.0 (inr p)) | inr q ↦ inr q ]
  ],
  λ x. elim x [
    | inl n ↦ elim (add.1 n) [ inl c ↦ was.1 (inl c) | inr p ↦ was.1 (inr (split.1 (inl p))) ]
    | inr q ↦ was.1 (inr (split.1 (inr q)))
  ],
)

-- one more place
pub leaves-more : (T : List Tree) (old now next : Pending) (i : ℕ) (ls rs : List TermId) (d : TermId) → i < length ls → i < length rs →
    Leaves T old now i ls rs →
    Adds T now next (λ L. L.equal (erased_at T (get_or ls i d)) (erased_at T (get_or rs i d))) (λ L. L.unequal (erased_at T (get_or ls i d)) (erased_at T (get_or rs i d))) →
    Leaves T old next (i + 1) ls rs
leaves-more T old now next i ls rs d k m h adds S n =
    let E : Tree → Tree → Type 0 = (level S n).equal in
    let U : Tree → Tree → Type 0 = (level S n).unequal in (
      more-all _ _ _ _ _ _ (h S n).0 (pairs-from E _ _ _ _ _ _ (drop-at T ls i d k) (drop-at T rs i d m)) (adds S n).0,
      more-some _ _ _ _ _ _ (h S n).1 (some-from U _ _ _ _ _ _ (drop-at T ls i d k) (drop-at T rs i d m)) (adds S n).1,
    )

-- after the last
pub leaves-end : (T : List Tree) (old new : Pending) (i : ℕ) (ls rs : List TermId) → length ls ≤ i → length rs ≤ i → Leaves T old new i ls rs →
    Adds T old new (λ L. Pairs L.equal (erased_all T ls) (erased_all T rs)) (λ L. SomePair L.unequal (erased_all T ls) (erased_all T rs))
leaves-end T old new i ls rs k m h S n =
    let E : Tree → Tree → Type 0 = (level S n).equal in
    let U : Tree → Tree → Type 0 = (level S n).unequal in
    let e : drop i (erased_all T ls) ≡ [] = drop-end T ls i k in
    let f : drop i (erased_all T rs) ≡ [] = drop-end T rs i m in (
      (
        λ x. ((h S n).0.0 x).0,
        λ x. (h S n).0.1 (x, subst (λ zs. Pairs E zs (drop i (erased_all T rs))) (sym e) (subst (Pairs E []) (sym f) (pairs-none E))),
      ),
      (
        λ x. elim ((h S n).1.0 x) [ inl y ↦ y | inr z ↦ absurd (some-none U (subst (SomePair U []) f (subst (λ zs. SomePair U zs (drop i (erased_all T rs))) e z))) ],
        λ x. (h S n).1.1 (inl x),
      ),
    )

-- once something is refuted
pub leaves-refuted : (T : List Tree) (old new : Pending) (i : ℕ) (ls rs : List TermId) → new.outcome ≡ Refuted → Leaves T old new i ls rs →
    Adds T old new (λ L. Pairs L.equal (erased_all T ls) (erased_all T rs)) (λ L. SomePair L.unequal (erased_all T ls) (erased_all T rs))
leaves-refuted T old new i ls rs e h S n = (
  (λ x. absurd (subst Stands e ((h S n).0.0 x).0.0), λ x. absurd (subst Stands e x.0)),
  (λ x. inl (subst Fails (sym e) tt), λ x. (h S n).1.1 (inl (inl (subst Fails (sym e) tt)))),
)
