-- Premises and conditions made one by one.
use Rattle.std.proofs.Common.{◌≡◌, ◌<◌, ◌≤◌, ℕ, ◌+◌, List, [], ◌∷◌, ◌++◌, length, map, take, get_or, refl, sym, ap, ap₂, ◌∙◌}
use Rattle.std.proofs.lemmas.List.{map-append, take_more, take_all}
use Rattle.goal_terms.specs.PredicateTrees.{holds}
use Rattle.goal_terms.specs.Tree.{Tree}
use Rattle.goal_terms.specs.declared.ids.TraitId.{TraitId}
use Rattle.goal_interner.specs.declared.term_nodes.TermId.{TermId}
use Rattle.goal_lists.specs.Interned.{erased_at}
use Rattle.goal_lists.specs.Premises.{Premise, predicate, TraitTree}

-- that a type has a trait, and the trait of the type
abbrev pub is_at : List Tree → TraitId → TermId → Premise
is_at T i ty = predicate (holds i (erased_at T ty ∷ []))

abbrev pub of_type : List Tree → TraitId → TermId → TraitTree
of_type T i ty = record { def_id = i; args = erased_at T ty ∷ [] }

-- one more
pub mapped-more : {A B C : Type 0} (f : A → C) (g : B → C) (xs : List A) (x : A) (ys : List B) (k : ℕ) (y : B) → k < length ys →
    map f xs ≡ map g (take k ys) → f x ≡ g (get_or ys k y) → map f (xs ++ x ∷ []) ≡ map g (take (k + 1) ys)
mapped-more f g xs x ys k y within before here =
    map-append f xs (x ∷ []) ∙ ap₂ (λ us u. us ++ u ∷ []) before here ∙ sym (ap (map g) (take_more ys k y within) ∙ map-append g (take k ys) (get_or ys k y ∷ []))

-- all of them
pub mapped-all : {B C : Type 0} (g : B → C) (us : List C) (ys : List B) (k : ℕ) → length ys ≤ k → us ≡ map g (take k ys) → us ≡ map g ys
mapped-all g us ys k l e = e ∙ ap (map g) (take_all k ys l)

-- a list that is mapped twice
pub mapped-twice : {A B C : Type 0} (f : A → B) (g : B → C) (xs : List A) → map (λ x. g (f x)) xs ≡ map g (map f xs)
mapped-twice f g [] = refl
mapped-twice f g (x ∷ xs) = ap (λ us. g (f x) ∷ us) (mapped-twice f g xs)
