-- Worked examples: the bounds of an item.
use Rattle.std.proofs.Common.{inl, inr, ℕ, zero, suc, [], ◌∷◌, refl, sym, subst}
use Rattle.goal_terms.specs.Tree.{Tree}
use Rattle.goal_terms.specs.declared.answers.TraitGoalProvenVia.{TraitGoalProvenVia}
use Rattle.goal_terms.specs.declared.answers.TraitGoalProvenVia.TheVariants as class
use Rattle.goal_kinds.specs.ExampleTerms.{alias_of, item, param, projection, trait}
use Rattle.goal_lists.specs.Headers.{under}
use Rattle.goal_lists.specs.Levels.{level}
use Rattle.goal_kinds.specs.ExampleSettings.{assuming_own_trait, bounded}
use Rattle.goal_kinds.proofs.ExampleHeaders.{param_arg}
use Rattle.goal_kinds.proofs.ExampleLemmas.{alone, no_projection_at_one, opened, other_trait}

-- it stays as it is, from height 2 on
param_holds : (n : ℕ) → (level assuming_own_trait (suc n)).through class.ParamEnv (trait 15) (param 0 ∷ [])
unfolding opened
param_holds zero = (param 0, refl, inl ((refl, ((refl, tt), tt)), alone _ _ _ _ refl), tt)
param_holds (suc n) = (param 0, refl, inl ((refl, ((refl, tt), tt)), alone _ _ _ _ refl), tt)

bounded_stays : (n : ℕ) → (level assuming_own_trait (suc (suc n))).gives (projection 8) (param 0 ∷ []) bounded
unfolding opened
bounded_stays n = (class.ParamEnv, param 0, param_holds n, refl, inr (inr ((inl tt, tt), tt, (λ e. absurd (cc e)), refl)))

-- `<T as Own>::B: Tr` holds by that bound, at height 3 and not at 2
pub example-bound : (level assuming_own_trait 3).through class.AliasBound (trait 12) (bounded ∷ [])
unfolding opened
example-bound = (
  bounded,
  bounded_stays 0,
  inl ((refl, (subst (λ t. (level assuming_own_trait 2).equal (under (param 0 ∷ bounded ∷ []) t) bounded) (sym (param_arg 1)) (inl refl), tt)), alone _ _ _ _ refl),
  (inl (inl (other_trait 15 12 tt)), tt),
)

pub example-bound_lower : (c : TraitGoalProvenVia) → (level assuming_own_trait 2).through c (trait 12) (bounded ∷ []) → ⊥
unfolding opened
example-bound_lower c h = no_projection_at_one assuming_own_trait (item 8) (param 0 ∷ []) h.0 h.1

-- the bound says no type `A`: `<<T as Own>::B as Tr>::A` stays as it is, at height 4 and not at 3
pub example-type_of_bounded : (level assuming_own_trait 4).gives (projection 5) (bounded ∷ []) (alias_of (projection 5) (bounded ∷ []))
unfolding opened
example-type_of_bounded = (class.AliasBound, bounded, example-bound, bounded_stays 1, inr (inr ((inl tt, tt), (inl tt, tt), (λ e. absurd (cc e)), refl)))

pub example-type_of_bounded_lower : (u : Tree) → (level assuming_own_trait 3).gives (projection 5) (bounded ∷ []) u → ⊥
unfolding opened
example-type_of_bounded_lower u h = example-bound_lower h.0 h.2
