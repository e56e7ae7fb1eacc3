-- The rule of `Sized`, for the constructors that have it always.
use Rattle.std.proofs.Common.{◌≡◌, ℕ, List, [], Some, refl}
use Rattle.goal_terms.specs.Erased.{erased_head}
use Rattle.goal_terms.specs.Tree.{Tree}
use Rattle.goal_terms.specs.declared.heads.Head.{Head}
use Rattle.goal_terms.specs.declared.heads.Head.TheVariants as head
use Rattle.goal_terms.specs.declared.ids.AdtId.{AdtId}
use Rattle.goal_terms.specs.declared.ids.ForeignId.{ForeignId}
use Rattle.goal_terms.specs.declared.ids.TraitId.{TraitId}
use Rattle.goal_terms.specs.declared.terms.Region.{Region}
use Rattle.goal_tables.specs.declared.rows.Tables.{Tables}
use Rattle.goal_lists.specs.Builtins.{sized_of_head}

-- a type of no other constructor is always `Sized`
pub sized-always : (t : Tables) (i : TraitId) (h : Head) (ts : List Tree) → (h ≡ head.Str → ⊥) → (h ≡ head.Slice → ⊥) → ((n : ℕ) (r : Region) → h ≡ head.Dynamic n r → ⊥) →
    ((f : ForeignId) → h ≡ head.Foreign f → ⊥) → ((n : ℕ) → h ≡ head.TyParam n → ⊥) → ((n : ℕ) → h ≡ head.TyPlaceholder n → ⊥) →
    ((n : ℕ) → h ≡ head.Tuple n → ⊥) → ((a : AdtId) (n : ℕ) → h ≡ head.Adt a n → ⊥) → Some [] ≡ sized_of_head t i (erased_head h) ts
unfolding sized_of_head
sized-always t i head.Str ts s l d f p q u a = absurd (s refl)
sized-always t i head.Slice ts s l d f p q u a = absurd (l refl)
sized-always t i (head.Dynamic n r) ts s l d f p q u a = absurd (d n r refl)
sized-always t i (head.Foreign x) ts s l d f p q u a = absurd (f x refl)
sized-always t i (head.TyParam n) ts s l d f p q u a = absurd (p n refl)
sized-always t i (head.TyPlaceholder n) ts s l d f p q u a = absurd (q n refl)
sized-always t i (head.Tuple n) ts s l d f p q u a = absurd (u n refl)
sized-always t i (head.Adt x n) ts s l d f p q u a = absurd (a x n refl)
sized-always t i h ts s l d f p q u a = refl
