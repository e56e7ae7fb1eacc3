-- Sets, and hidden types with one type a key.
use Rattle.std.specs.Prelude.{◌≡◌, ℕ, List, map, Some, slice_get}
use Rattle.goal_terms.specs.TreeOf.{tree_of_arg}
use Rattle.goal_terms.specs.declared.answers.OpaqueTypeKey.{OpaqueTypeKey}
use Rattle.goal_terms.specs.declared.terms.Ty.{Ty}

-- no two places hold elements that are related
abbrev pub AreApart : {A : Type 0} → (A → A → Type 0) → List A → Type 0
AreApart {A} R xs = (i j : ℕ) (x y : A) → slice_get xs i ≡ Some x → slice_get xs j ≡ Some y → R x y → i ≡ j

-- nothing stands twice
abbrev pub IsSet : {A : Type 0} → List A → Type 0
IsSet {A} xs = AreApart {A = A} (λ x y. x ≡ y) xs

-- two keys are identical, lifetimes too
abbrev pub IsSameKey : OpaqueTypeKey → OpaqueTypeKey → Type 0
IsSameKey a b = (a.def_id ≡ b.def_id) × (map tree_of_arg a.args.items ≡ map tree_of_arg b.args.items)

-- each key has one type
abbrev pub HasOneTypeAKey : List (OpaqueTypeKey × Ty) → Type 0
HasOneTypeAKey es = AreApart (λ (e f : OpaqueTypeKey × Ty). IsSameKey e.0 f.0) es
