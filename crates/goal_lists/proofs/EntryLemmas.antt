-- Equivalences and their parts, and words on rows and on given arguments.
use Rattle.std.proofs.Common.{◌≡◌, ◌⊎◌, ◌↔◌, ℕ, Option, Some, Vec, Global, map, take, inl, inr, sym, ap, ◌∙◌, subst, ⊎_elim}
use Rattle.std.proofs.lemmas.List.{take-map}
use Rattle.goal_terms.specs.Erased.{erased}
use Rattle.goal_terms.specs.TreeOf.{tree_of_arg, trees_of}
use Rattle.goal_terms.specs.declared.terms.GenericArg.{GenericArg}
use Rattle.goal_lists.specs.RowWords.{given}
use Rattle.goal_lists.specs.Words.{OfRow}

-- chains of equivalences, and equivalences of parts
pub iff-chain : {A B C : Type 0} → A ↔ B → B ↔ C → A ↔ C
iff-chain f g = (λ h. g.0 (f.0 h), λ h. f.1 (g.1 h))

pub iff-back : {A B : Type 0} → A ↔ B → B ↔ A
iff-back f = (f.1, f.0)

pub iff-both : {A B C D : Type 0} → A ↔ C → B ↔ D → (A × B) ↔ (C × D)
iff-both f g = (λ h. (f.0 h.0, g.0 h.1), λ h. (f.1 h.0, g.1 h.1))

pub iff-either : {A B C D : Type 0} → A ↔ C → B ↔ D → (A ⊎ B) ↔ (C ⊎ D)
iff-either f g = (λ h. ⊎_elim (λ x. inl (f.0 x)) (λ y. inr (g.0 y)) h, λ h. ⊎_elim (λ x. inl (f.1 x)) (λ y. inr (g.1 y)) h)

pub iff-same : {A : Type 0} → A ↔ A
iff-same = (λ h. h, λ h. h)

-- a row that is there
pub of_row-there : {A : Type 0} (o : Option A) (x : A) (P : A → Type 0) → o ≡ Some x → OfRow o P ↔ P x
unfolding OfRow
of_row-there o x P e = (λ h. subst (λ v. OfRow v P) e h, λ h. subst (λ v. OfRow v P) (sym e) h)

-- the first of given arguments
pub given-take : (n : ℕ) (v : Vec GenericArg Global) → map erased (trees_of (take n v.items)) ≡ take n (given v)
given-take n v = sym (take-map erased n (trees_of v.items) ∙ ap (map erased) (take-map tree_of_arg n v.items))
