-- Lists whose elements are apart, and keys.
use Rattle.std.proofs.Common.{◌≡◌, ℕ, zero, suc, ◌<◌, ◌⊎◌, inl, inr, Bool, List, [], ◌∷◌, ◌++◌, length, map, take, Some, None, refl, sym, ap, ◌∙◌, subst, arith}
use Rattle.std.specs.Prelude.{Option, ◌↔◌, IsTrue, slice_get, slice_index_or}
use Rattle.std.specs.Cmp.Derive.Mapped.{pointwise-map}
use Rattle.std.specs.Cmp.Lexicographic.{pointwise, pointwise_decides}
use Rattle.std.specs.List.{Contains}
use Rattle.goal_terms.specs.SameLaws.{same_tree-true, same_tree-refl}
use Rattle.goal_terms.specs.SameTree.{same_tree}
use Rattle.goal_terms.specs.TreeOf.{tree_of_arg}
use Rattle.goal_terms.specs.declared.answers.OpaqueTypeKey.{OpaqueTypeKey}
use Rattle.goal_terms.specs.declared.terms.GenericArg.{GenericArg}
use Rattle.goal_terms.specs.declared.terms.Ty.{Ty}
use Rattle.goal_infer.proofs.UndoLemmas.{item-within}
use Rattle.goal_solver.specs.Stored.{AreApart, IsSet, IsSameKey, HasOneTypeAKey}

-- nothing is not something
abbrev is_something : {A : Type 0} → Option A → Type 0
is_something None = ⊥
is_something (Some x) = Unit {0}

pub none-is-some : {A : Type 0} (x : A) → None ≡ Some x → ⊥
none-is-some x e = subst is_something (sym e) tt

-- what an option holds
abbrev something : {A : Type 0} → A → Option A → A
something d None = d
something d (Some x) = x

pub some-is : {A : Type 0} (x y : A) → Some x ≡ Some y → x ≡ y
some-is x y e = ap (something x) e

-- a place of a lengthened list is one of the list, or the last
get-push : {A : Type 0} (xs : List A) (x y : A) (i : ℕ) → slice_get (xs ++ x ∷ []) i ≡ Some y → (slice_get xs i ≡ Some y) ⊎ ((i ≡ length xs) × (x ≡ y))
get-push [] x y zero e = inr (refl, some-is x y e)
get-push [] x y (suc i) e = absurd (none-is-some y e)
get-push (z ∷ zs) x y zero e = inl e
get-push (z ∷ zs) x y (suc i) e = elim (get-push zs x y i e) [ inl p ↦ inl p | inr p ↦ inr (ap suc p.0, p.1) ]

-- a place of a beginning is one of the list
get-take : {A : Type 0} (n : ℕ) (xs : List A) (i : ℕ) (x : A) → slice_get (take n xs) i ≡ Some x → slice_get xs i ≡ Some x
get-take zero xs i x e = absurd (none-is-some x e)
get-take (suc n) [] i x e = e
get-take (suc n) (y ∷ ys) zero x e = e
get-take (suc n) (y ∷ ys) (suc i) x e = get-take n ys i x e

-- what stands at a place of a list is in it
pub get-index : {A : Type 0} (xs : List A) (i : ℕ) (y : A) → slice_get xs i ≡ Some y → (d : A) → slice_index_or xs i d ≡ y
get-index [] i y e d = absurd (none-is-some y e)
get-index (z ∷ zs) zero y e d = some-is z y e
get-index (z ∷ zs) (suc i) y e d = get-index zs i y e d

pub place-contains : {A : Type 0} (xs : List A) (i : ℕ) (y : A) → slice_get xs i ≡ Some y → Contains xs y
place-contains xs i y e = (i, item-within xs i y e, get-index xs i y e y)

-- and the other way round
pub contains-place : {A : Type 0} (xs : List A) (i : ℕ) (x : A) → i < length xs → slice_index_or xs i x ≡ x → slice_get xs i ≡ Some x
contains-place [] i x h e = absurd (omega arith)
contains-place (z ∷ zs) zero x h e = ap Some e
contains-place (z ∷ zs) (suc i) x h e = contains-place zs i x (omega arith) e

pub contains-get : {A : Type 0} (xs : List A) (x : A) (c : Contains xs x) → slice_get xs c.0 ≡ Some x
contains-get xs x c = contains-place xs c.0 x c.1 c.2

-- elements that are apart stay so when the list is cut
pub apart-taken : {A : Type 0} (R : A → A → Type 0) (n : ℕ) (xs ys : List A) → ys ≡ take n xs → AreApart R xs → AreApart R ys
apart-taken R n xs ys e h i j x y p q r =
    h i j x y (get-take n xs i x (ap (λ zs. slice_get zs i) (sym e) ∙ p)) (get-take n xs j y (ap (λ zs. slice_get zs j) (sym e) ∙ q)) r

-- and when one is added that is related to none
pub apart-pushed : {A : Type 0} (R : A → A → Type 0) (xs ys : List A) (x : A) → ((a b : A) → R a b → R b a) → ys ≡ xs ++ x ∷ [] →
    ((i : ℕ) (y : A) → slice_get xs i ≡ Some y → R y x → ⊥) → AreApart R xs → AreApart R ys
apart-pushed R xs ys x turned e fresh h i j a b p q r =
    elim (get-push xs x a i (ap (λ zs. slice_get zs i) (sym e) ∙ p)) [
      | inl u ↦ elim (get-push xs x b j (ap (λ zs. slice_get zs j) (sym e) ∙ q)) [
        | inl v ↦ h i j a b u v r
        | inr v ↦ absurd (fresh i a u (subst (R a) (sym v.1) r))
      ]
      | inr u ↦ elim (get-push xs x b j (ap (λ zs. slice_get zs j) (sym e) ∙ q)) [
        | inl v ↦ absurd (fresh j b v (subst (R b) (sym u.1) (turned a b r)))
        | inr v ↦ u.0 ∙ sym v.0
      ]
    ]

-- so a set stays one
pub set-pushed : {A : Type 0} (xs ys : List A) (x : A) → ys ≡ xs ++ x ∷ [] → (Contains xs x → ⊥) → IsSet xs → IsSet ys
set-pushed {A} xs ys x e fresh h =
    apart-pushed (λ (a b : A). a ≡ b) xs ys x (λ a b r. sym r) e (λ i y p r. fresh (subst (Contains xs) r (place-contains xs i y p))) h

-- and each key keeps one type
pub keys-pushed : (es fs : List (OpaqueTypeKey × Ty)) (e : OpaqueTypeKey × Ty) → fs ≡ es ++ e ∷ [] →
    ((i : ℕ) (d : OpaqueTypeKey × Ty) → slice_get es i ≡ Some d → IsSameKey d.0 e.0 → ⊥) → HasOneTypeAKey es → HasOneTypeAKey fs
keys-pushed es fs e h fresh g =
    apart-pushed (λ (a b : OpaqueTypeKey × Ty). IsSameKey a.0 b.0) es fs e (λ a b r. (sym r.0, sym r.1)) h fresh g

-- `==` of arguments decides whether their trees are the same
pub args-decided : (xs ys : List GenericArg) (r : Bool) → r ≡ pointwise (λ a b. same_tree (tree_of_arg a) (tree_of_arg b)) xs ys →
    IsTrue r ↔ (map tree_of_arg xs ≡ map tree_of_arg ys)
args-decided xs ys r e =
    let d = pointwise_decides {E = same_tree} (λ t u. (same_tree-true t u, λ h. ap (same_tree t) (sym h) ∙ same_tree-refl t)) (map tree_of_arg xs) (map tree_of_arg ys) in
    (λ h. d.0 (pointwise-map tree_of_arg same_tree xs ys ∙ sym e ∙ h), λ h. e ∙ sym (pointwise-map tree_of_arg same_tree xs ys) ∙ d.1 h)
