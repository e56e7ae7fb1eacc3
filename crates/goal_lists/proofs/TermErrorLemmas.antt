-- Errors in terms without lifetimes, and tests of lists element by element.
use Rattle.std.proofs.Common.{◌≡◌, ℕ, zero, suc, ◌+◌, ◌<◌, Bool, true, false, ◌||◌, List, [], ◌∷◌, length, map, get_or, take, refl, ap, ◌∙◌, add-one, arith}
use Rattle.std.specs.List.{list_any}
use Rattle.goal_terms.specs.Erased.{erased, erased_head}
use Rattle.goal_terms.specs.NodeTests.{is_error}
use Rattle.goal_terms.specs.Occurrences.{has_error}
use Rattle.goal_terms.specs.Tree.{Tree}
use Rattle.goal_terms.specs.declared.heads.Head.{Head}
use Rattle.goal_terms.specs.declared.heads.Head.TheVariants as head
use Rattle.goal_terms.specs.declared.heads.Node.TheVariants as nodes
use Rattle.goal_terms.proofs.NodeTestLemmas.{some_node-erased}

-- neither of two tests passes
neither : (a b : Bool) → a || b ≡ false → (a ≡ false) × (b ≡ false)
neither true b e = absurd (cc)
neither false b e = (refl, e)

either-false : (a b : Bool) → a ≡ false → b ≡ false → a || b ≡ false
either-false a b e f = ap (λ x. x || b) e ∙ f

either-true : (a b : Bool) → b ≡ true → a || b ≡ true
either-true true b e = refl
either-true false b e = e

-- whether a test passes before the next place
next-passes : {A B : Type 0} (f : A → B) (p : B → Bool) (xs : List A) (i : ℕ) (d : A) → i < length xs →
    list_any p (take i (map f xs)) ≡ false → p (f (get_or xs i d)) ≡ false → list_any p (take (suc i) (map f xs)) ≡ false
next-passes f p [] i d l h e = absurd (omega arith)
next-passes f p (x ∷ xs) zero d l h e = ap (λ b. b || false) e
next-passes f p (x ∷ xs) (suc i) d l h e =
    let h' : (p (f x) ≡ false) × (list_any p (take i (map f xs)) ≡ false) = neither (p (f x)) (list_any p (take i (map f xs))) h in
    either-false (p (f x)) (list_any p (take (suc i) (map f xs))) h'.0 (next-passes f p xs i d (omega arith) h'.1 e)

-- no element before the next place passes a test, where none before a place does, nor the one there
pub none-more : {A B : Type 0} (f : A → B) (p : B → Bool) (xs : List A) (i : ℕ) (d : A) → i < length xs →
    list_any p (take i (map f xs)) ≡ false → p (f (get_or xs i d)) ≡ false → list_any p (take (i + 1) (map f xs)) ≡ false
none-more f p xs i d l h e = rw add-one (next-passes f p xs i d l h e)

-- some element passes where the one at a place does
pub some-passes : {A B : Type 0} (f : A → B) (p : B → Bool) (xs : List A) (i : ℕ) (d : A) → i < length xs → p (f (get_or xs i d)) ≡ true → list_any p (map f xs) ≡ true
some-passes f p [] i d l e = absurd (omega arith)
some-passes f p (x ∷ xs) zero d l e = ap (λ b. b || list_any p (map f xs)) e
some-passes f p (x ∷ xs) (suc i) d l e = either-true (p (f x)) (list_any p (map f xs)) (some-passes f p xs i d (omega arith) e)

head-error : (h : Head) → is_error (nodes.Head (erased_head h)) ≡ is_error (nodes.Head h)
head-error (head.Ref r m) = refl
head-error (head.FnPtr bound inputs fn_traits) = refl
head-error (head.Dynamic count r) = refl
head-error (head.Lifetime r) = refl
head-error h = refl

-- without lifetimes the errors are the same
pub error-erased : (t : Tree) → has_error (erased t) ≡ has_error t
unfolding has_error
error-erased t = some_node-erased is_error head-error t
