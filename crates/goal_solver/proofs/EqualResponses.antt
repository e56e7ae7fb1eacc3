-- Lists of values and of entries that `==` finds the same have the same trees.
use Rattle.std.proofs.Common.{◌≡◌, ℕ, Bool, true, false, ◌&&◌, eqb, eq-eqb, List, [], ◌∷◌, map, refl, sym, ap, ap₂, ◌∙◌, true≢false, rules}
use Rattle.std.specs.Prelude.{◌↔◌, IsTrue}
use Rattle.std.specs.Cmp.Lexicographic.{pointwise}
use Rattle.std.proofs.lemmas.Bool.{eqb-true, and_from}
use Rattle.std.proofs.lemmas.Slice.Eq.{slice_eq-Decides}
use Rattle.goal_terms.specs.SameLaws.{same_tree-true, same_tree-refl}
use Rattle.goal_terms.specs.SameTree.{same_tree}
use Rattle.goal_terms.specs.Tree.{Tree}
use Rattle.goal_terms.specs.TreeOf.{tree_of_arg, tree_of_term, tree_of_ty}
use Rattle.goal_terms.specs.declared.answers.OpaqueTypeKey.{OpaqueTypeKey}
use Rattle.goal_terms.specs.declared.ids.OpaqueId.{OpaqueId}
use Rattle.goal_terms.specs.declared.terms.GenericArg.{GenericArg}
use Rattle.goal_terms.specs.declared.terms.Term.{Term}
use Rattle.goal_terms.specs.declared.terms.Ty.{Ty}
use Rattle.goal_terms.specs.contracts.answers.VarKindPartialEq.TheImpl as kinds
use Rattle.goal_terms.specs.contracts.terms.RegionPartialEq.TheImpl as regions
use Rattle.goal_terms.specs.declared.answers.VarKind.{VarKind}
use Rattle.goal_terms.specs.declared.answers.VarKind.TheVariants as kind
use Rattle.goal_terms.specs.declared.terms.Region.{Region}
use Rattle.goal_terms.specs.declared.terms.Region.TheVariants as region
use Rattle.goal_solver.specs.MergedRules.{value_tree, entry_tree}

both-parts : (a b : Bool) → a && b ≡ true → (a ≡ true) × (b ≡ true)
both-parts true b e = (refl, e)
both-parts false b e = absurd (true≢false (sym e))

-- a test that decides whether two elements have one image decides so of lists
images-same : {A B : Type 0} (E : A → A → Bool) (f : A → B) → ((x y : A) → E x y ≡ true → f x ≡ f y) → (xs ys : List A) → pointwise E xs ys ≡ true → map f xs ≡ map f ys
images-same E f h [] [] e = refl
images-same E f h [] (y ∷ ys) e = absurd (true≢false (sym e))
images-same E f h (x ∷ xs) [] e = absurd (true≢false (sym e))
images-same E f h (x ∷ xs) (y ∷ ys) e =
    let both = both-parts (E x y) (pointwise E xs ys) e in ap₂ (λ a bs. a ∷ bs) (h x y both.0) (images-same E f h xs ys both.1)

same-images : {A B : Type 0} (E : A → A → Bool) (f : A → B) → ((x y : A) → f x ≡ f y → E x y ≡ true) → (xs ys : List A) → map f xs ≡ map f ys → pointwise E xs ys ≡ true
same-images E f h [] [] e = refl
same-images E f h [] (y ∷ ys) e = absurd (cc)
same-images E f h (x ∷ xs) [] e = absurd (cc)
same-images E f h (x ∷ xs) (y ∷ ys) e =
    let first : f x ≡ f y = cc in
    let others : map f xs ≡ map f ys = cc in
    and_from (E x y) (pointwise E xs ys) (h x y first) (same-images E f h xs ys others)

same-trees : (t u : Tree) → t ≡ u → same_tree t u ≡ true
same-trees t u e = ap (λ x. same_tree t x) (sym e) ∙ same_tree-refl t

decided : {A B : Type 0} (E : A → A → Bool) (f : A → B) → ((x y : A) → E x y ≡ true → f x ≡ f y) → ((x y : A) → f x ≡ f y → E x y ≡ true) → (xs ys : List A) (r : Bool) →
    r ≡ pointwise E xs ys → IsTrue r ↔ (map f xs ≡ map f ys)
decided E f h k xs ys r e = (λ t. images-same E f h xs ys (sym e ∙ t), λ t. e ∙ same-images E f k xs ys t)

-- values
abbrev same_value : ℕ × Term → ℕ × Term → Bool
same_value x y = eqb x.0 y.0 && same_tree (tree_of_term x.1) (tree_of_term y.1)

abbrev numbered : ℕ → Tree → ℕ × Tree
numbered n t = (n, t)

value-same : (x y : ℕ × Term) → same_value x y ≡ true → value_tree x ≡ value_tree y
value-same x y e =
    let both = both-parts (eqb x.0 y.0) (same_tree (tree_of_term x.1) (tree_of_term y.1)) e in
    ap₂ numbered (eqb-true x.0 y.0 both.0) (same_tree-true (tree_of_term x.1) (tree_of_term y.1) both.1)

same-value : (x y : ℕ × Term) → value_tree x ≡ value_tree y → same_value x y ≡ true
same-value x y e =
    and_from (eqb x.0 y.0) (same_tree (tree_of_term x.1) (tree_of_term y.1)) (eq-eqb x.0 y.0 (ap (λ (p : ℕ × Tree). p.0) e))
    (same-trees (tree_of_term x.1) (tree_of_term y.1) (ap (λ (p : ℕ × Tree). p.1) e))

pub values-decided : (xs ys : List (ℕ × Term)) (r : Bool) → r ≡ pointwise same_value xs ys → IsTrue r ↔ (map value_tree xs ≡ map value_tree ys)
values-decided xs ys r e = decided same_value value_tree value-same same-value xs ys r e

-- entries
abbrev same_arg : GenericArg → GenericArg → Bool
same_arg a b = same_tree (tree_of_arg a) (tree_of_arg b)

arg-same : (x y : GenericArg) → same_arg x y ≡ true → tree_of_arg x ≡ tree_of_arg y
arg-same x y e = same_tree-true (tree_of_arg x) (tree_of_arg y) e

same-arg : (x y : GenericArg) → tree_of_arg x ≡ tree_of_arg y → same_arg x y ≡ true
same-arg x y e = same-trees (tree_of_arg x) (tree_of_arg y) e

abbrev same_key : OpaqueTypeKey → OpaqueTypeKey → Bool
same_key x y = eqb x.def_id.0 y.def_id.0 && pointwise same_arg x.args.items y.args.items

abbrev same_entry : OpaqueTypeKey × Ty → OpaqueTypeKey × Ty → Bool
same_entry x y = same_key x.0 y.0 && same_tree (tree_of_ty x.1) (tree_of_ty y.1)

abbrev key_tree : ℕ → List Tree → OpaqueId × List Tree
key_tree n ts = (record { 0 = n }, ts)

abbrev typed : OpaqueId × List Tree → Tree → (OpaqueId × List Tree) × Tree
typed k t = (k, t)

entry-same : (x y : OpaqueTypeKey × Ty) → same_entry x y ≡ true → entry_tree x ≡ entry_tree y
entry-same x y e =
    let both = both-parts (same_key x.0 y.0) (same_tree (tree_of_ty x.1) (tree_of_ty y.1)) e in
    let key = both-parts (eqb x.0.def_id.0 y.0.def_id.0) (pointwise same_arg x.0.args.items y.0.args.items) both.0 in
    ap₂ typed (ap₂ key_tree (eqb-true x.0.def_id.0 y.0.def_id.0 key.0) (images-same same_arg tree_of_arg arg-same x.0.args.items y.0.args.items key.1))
    (same_tree-true (tree_of_ty x.1) (tree_of_ty y.1) both.1)

same-entry : (x y : OpaqueTypeKey × Ty) → entry_tree x ≡ entry_tree y → same_entry x y ≡ true
same-entry x y e =
    and_from (same_key x.0 y.0) (same_tree (tree_of_ty x.1) (tree_of_ty y.1))
    (and_from (eqb x.0.def_id.0 y.0.def_id.0) (pointwise same_arg x.0.args.items y.0.args.items)
    (eq-eqb x.0.def_id.0 y.0.def_id.0 (ap (λ (p : (OpaqueId × List Tree) × Tree). p.0.0.0) e))
    (same-images same_arg tree_of_arg same-arg x.0.args.items y.0.args.items (ap (λ (p : (OpaqueId × List Tree) × Tree). p.0.1) e)))
    (same-trees (tree_of_ty x.1) (tree_of_ty y.1) (ap (λ (p : (OpaqueId × List Tree) × Tree). p.1) e))

pub entries-decided : (xs ys : List (OpaqueTypeKey × Ty)) (r : Bool) → r ≡ pointwise same_entry xs ys → IsTrue r ↔ (map entry_tree xs ≡ map entry_tree ys)
entries-decided xs ys r e = decided same_entry entry_tree entry-same same-entry xs ys r e

-- kinds of variables
abbrev same_kind : VarKind → VarKind → Bool
same_kind a b = (kinds.ghosts).eq a b

kind-same : (a b : VarKind) → same_kind a b ≡ true → a ≡ b
kind-same kind.Ty kind.Ty e = refl
kind-same kind.Int kind.Int e = refl
kind-same kind.Float kind.Float e = refl
kind-same kind.Const kind.Const e = refl
kind-same kind.Region kind.Region e = refl
kind-same _ _ e = absurd (true≢false (sym e))

kind-itself : (a : VarKind) → same_kind a a ≡ true
kind-itself kind.Ty = refl
kind-itself kind.Int = refl
kind-itself kind.Float = refl
kind-itself kind.Const = refl
kind-itself kind.Region = refl

-- a test that decides `≡` decides it of lists
lists-decided : {A : Type 0} (E : A → A → Bool) → ((x y : A) → E x y ≡ true → x ≡ y) → ((x : A) → E x x ≡ true) → (xs ys : List A) (r : Bool) →
    r ≡ pointwise E xs ys → IsTrue r ↔ (xs ≡ ys)
lists-decided {A} E h k xs ys r e =
    (slice_eq-Decides {E = E} (λ a b. (h a b, λ same. ap (λ (x : A). E a x) (sym same) ∙ k a)) xs ys r e)

pub kinds-decided : (xs ys : List VarKind) (r : Bool) → r ≡ pointwise same_kind xs ys → IsTrue r ↔ (xs ≡ ys)
kinds-decided xs ys r e = lists-decided same_kind kind-same kind-itself xs ys r e

-- lifetimes, in pairs
abbrev same_region : Region → Region → Bool
same_region a b = (regions.ghosts).eq a b

region-same : (a b : Region) → same_region a b ≡ true → a ≡ b
region-same region.Static region.Static e = refl
region-same region.Erased region.Erased e = refl
region-same (region.Param a) (region.Param x) e = search rules
region-same (region.Bound a b) (region.Bound x y) e = search rules
region-same (region.Placeholder a) (region.Placeholder x) e = search rules
region-same (region.Var a) (region.Var x) e = search rules
region-same _ _ e = absurd (true≢false (sym e))

region-itself : (a : Region) → same_region a a ≡ true
region-itself region.Static = refl
region-itself region.Erased = refl
region-itself (region.Param a) = search rules
region-itself (region.Bound a b) = search rules
region-itself (region.Placeholder a) = search rules
region-itself (region.Var a) = search rules

abbrev same_pair : Region × Region → Region × Region → Bool
same_pair x y = same_region x.0 y.0 && same_region x.1 y.1

abbrev paired : Region → Region → Region × Region
paired a b = (a, b)

pair-same : (x y : Region × Region) → same_pair x y ≡ true → x ≡ y
pair-same x y e =
    let both = both-parts (same_region x.0 y.0) (same_region x.1 y.1) e in ap₂ paired (region-same x.0 y.0 both.0) (region-same x.1 y.1 both.1)

pair-itself : (x : Region × Region) → same_pair x x ≡ true
pair-itself x = and_from (same_region x.0 x.0) (same_region x.1 x.1) (region-itself x.0) (region-itself x.1)

pub equations-decided : (xs ys : List (Region × Region)) (r : Bool) → r ≡ pointwise same_pair xs ys → IsTrue r ↔ (xs ≡ ys)
equations-decided xs ys r e = lists-decided same_pair pair-same pair-itself xs ys r e
