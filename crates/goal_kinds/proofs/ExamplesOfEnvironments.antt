-- Worked examples: clauses of the environment.
use Rattle.std.proofs.Common.{◌≡◌, ◌≢◌, ◌⊎◌, inl, inr, ℕ, zero, suc, [], ◌∷◌, refl, sym, ◌∙◌}
use Rattle.goal_terms.specs.PredicateTrees.{equals}
use Rattle.goal_terms.specs.Tree.{Tree, none}
use Rattle.goal_terms.specs.TreeOf.{leaf}
use Rattle.goal_terms.specs.declared.answers.TraitGoalProvenVia.{TraitGoalProvenVia}
use Rattle.goal_terms.specs.declared.answers.TraitGoalProvenVia.TheVariants as class
use Rattle.goal_terms.specs.declared.heads.Head.{Head}
use Rattle.goal_terms.specs.declared.heads.Head.TheVariants as head
use Rattle.goal_terms.specs.declared.predicates.BoundConstness.TheVariants as constness
use Rattle.goal_terms.specs.declared.scalars.UintTy.TheVariants as unsigned
use Rattle.goal_lists.specs.Builtins.{u8_ty}
use Rattle.goal_lists.specs.Candidates.{assumption, second_group}
use Rattle.goal_kinds.specs.ExampleRows.{plain_item}
use Rattle.goal_kinds.specs.ExampleTerms.{alias_of, item, param, projection, trait, u16_ty, z_ty}
use Rattle.goal_lists.specs.ImplTerms.{Projection, trait_args}
use Rattle.goal_lists.specs.Levels.{level}
use Rattle.goal_lists.specs.Projections.{AssumptionGives, AssumptionTermRefuted, GroupsGive, GroupsRefuted}
use Rattle.goal_lists.specs.Settings.{Setting}
use Rattle.goal_lists.specs.TraitGoals.{PassedOver}
use Rattle.goal_kinds.specs.ExampleSettings.{assuming_z, assuming_maybe_const, disagreeing}
use Rattle.goal_kinds.proofs.ExampleLemmas.{alone, only_refuted, opened, no_const_at_one, no_const_refuted_at_one, no_projection_at_one}
use Rattle.goal_kinds.proofs.ExampleNodes.{at_node}

-- a type without parts isn't unequal to itself
pub not_unequal : (S : Setting) (n : ℕ) (h : Head) → (level S n).unequal (leaf h) (leaf h) → ⊥
unfolding opened
not_unequal S zero h (inl p) = p refl
not_unequal S zero h (inr p) = p
not_unequal S (suc n) h (inl p) = p refl
not_unequal S (suc n) h (inr p) = p

-- then `Z: Tr` holds by the environment at height 1 and not at 0, and at no height by the impl
pub example-environment_first : (level assuming_z 1).through class.ParamEnv (trait 12) (z_ty ∷ [])
unfolding opened
example-environment_first = (z_ty, refl, inl ((refl, ((refl, tt), tt)), alone _ _ _ _ refl), tt)

pub example-environment_first_lower : (level assuming_z 0).through class.ParamEnv (trait 12) (z_ty ∷ []) → ⊥
unfolding level
example-environment_first_lower h = h

pub example-environment_hides_impl : (n : ℕ) → (level assuming_z n).through class.Misc (trait 12) (z_ty ∷ []) → ⊥
unfolding opened
example-environment_hides_impl zero h = h
example-environment_hides_impl (suc n) h =
    let clause : (trait 12 ≢ trait 12) ⊎ (level assuming_z n).unequal z_ty z_ty ⊎ ⊥ =
    at_node (level assuming_z n) (head.Adt (record { 0 = 5 }) 0) none (λ s. (trait 12 ≢ trait 12) ⊎ (level assuming_z n).unequal z_ty s ⊎ ⊥) h.0 h.1 (only_refuted _ _ _ _ refl h.3.0)
    in elim clause [ inl p ↦ p refl | inr (inl p) ↦ not_unequal assuming_z n (head.Adt (record { 0 = 5 }) 0) p | inr (inr p) ↦ p ]

-- and `<Z as Tr>::A` stays as it is, though the impl says `u8`, at height 2 and not at 1
pub example-hidden_type : (level assuming_z 2).gives (projection 5) (z_ty ∷ []) (alias_of (projection 5) (z_ty ∷ []))
unfolding opened
example-hidden_type = (class.ParamEnv, z_ty, example-environment_first, refl, inr (inr ((inl tt, tt), tt, (λ e. absurd (cc e)), refl)))

pub example-hidden_type_lower : (u : Tree) → (level assuming_z 1).gives (projection 5) (z_ty ∷ []) u → ⊥
example-hidden_type_lower = no_projection_at_one assuming_z (item 5) (z_ty ∷ [])

-- then `T: [const] Tr` holds, and `T: const Tr` is refuted, each at height 2 and not at 1
maybe_const_plainly : (level assuming_maybe_const 1).through class.ParamEnv (trait 12) (param 0 ∷ [])
unfolding opened
maybe_const_plainly = (param 0, refl, inl ((refl, ((refl, tt), tt)), alone _ _ _ _ refl), tt)

pub example-maybe_const : (level assuming_maybe_const 2).const_holds constness.Maybe (trait 12) (param 0 ∷ [])
unfolding opened
example-maybe_const = (class.ParamEnv, param 0, maybe_const_plainly, refl, inl (inr (inl ((refl, refl, ((refl, tt), tt)), alone _ _ _ _ refl))))

pub example-maybe_const_lower : (level assuming_maybe_const 1).const_holds constness.Maybe (trait 12) (param 0 ∷ []) → ⊥
example-maybe_const_lower = no_const_at_one assuming_maybe_const constness.Maybe (trait 12) (param 0 ∷ [])

pub example-not_always_const : (level assuming_maybe_const 2).const_refuted constness.Const (trait 12) (param 0 ∷ [])
unfolding opened
example-not_always_const = inr (class.ParamEnv, param 0, maybe_const_plainly, refl, (inl tt, (inl (inr (inl refl)), tt)), tt)

pub example-not_always_const_lower : (level assuming_maybe_const 1).const_refuted constness.Const (trait 12) (param 0 ∷ []) → ⊥
example-not_always_const_lower = no_const_refuted_at_one assuming_maybe_const constness.Const (trait 12) (param 0 ∷ [])

-- the projection that is asked there, for a self type
abbrev of_self : Tree → Projection
of_self s = record { item = plain_item 5 12; trait_params = 1; args = s ∷ [] }

-- the environment's clauses on `A` aren't refuted
not_refuted :
    (n : ℕ) (v : Head) → AssumptionTermRefuted (level disagreeing n) (of_self (param 0)) (equals (alias_of (projection 5) (param 0 ∷ [])) (leaf v)) → ⊥
unfolding opened
not_refuted n v (inl p) = p refl
not_refuted n v (inr (inl (inl p))) = not_unequal disagreeing n (head.TyParam 0) p
not_refuted n v (inr (inl (inr p))) = p
not_refuted n v (inr (inr (inl p))) = p
not_refuted n v (inr (inr (inr p))) = p

-- so each gives its own type
its_own :
    (n : ℕ) (v : Head) (u : Tree)
    → AssumptionGives (level disagreeing n) (of_self (param 0)) (equals (alias_of (projection 5) (param 0 ∷ [])) (leaf v)) u
    ⊎ AssumptionTermRefuted (level disagreeing n) (of_self (param 0)) (equals (alias_of (projection 5) (param 0 ∷ [])) (leaf v))
    ⊎ PassedOver disagreeing (level disagreeing n) (trait_args (of_self (param 0))) (assumption (equals (alias_of (projection 5) (param 0 ∷ [])) (leaf v)))
    → u ≡ leaf v
unfolding opened
its_own n v u (inl p) = p.3
its_own n v u (inr p) = absurd (not_refuted n v (only_refuted _ _ _ _ refl p))

-- and the groups give no term, nor are they refuted
disagreement :
    (n : ℕ) (c : TraitGoalProvenVia) (u : Tree) (itself given : Tree)
    → GroupsGive disagreeing (level disagreeing n) c (of_self (param 0)) itself given (second_group disagreeing (trait 12) (param 0) c) u → ⊥
unfolding opened
disagreement n c u itself given (inl p) =
    let same : u8_ty ≡ u16_ty = sym (its_own n (head.Uint unsigned.U8) u p.0.1.1.0) ∙ its_own n (head.Uint unsigned.U16) u p.0.1.1.1.0 in absurd (cc same)
disagreement n c u itself given (inr (inl p)) = not_refuted n (head.Uint unsigned.U8) (only_refuted _ _ _ _ refl p.0.1.0)
disagreement n c u itself given (inr (inr p)) = not_refuted n (head.Uint unsigned.U8) (only_refuted _ _ _ _ refl p.0.1.0)

no_disagreement :
    (n : ℕ) (c : TraitGoalProvenVia) (itself : Tree)
    → GroupsRefuted disagreeing (level disagreeing n) c (of_self (param 0)) itself (second_group disagreeing (trait 12) (param 0) c) → ⊥
unfolding opened
no_disagreement n c itself (inl p) = not_refuted n (head.Uint unsigned.U8) (only_refuted _ _ _ _ refl p.0.1.0)
no_disagreement n c itself (inr (inl p)) = p.1
no_disagreement n c itself (inr (inr p)) = not_refuted n (head.Uint unsigned.U8) (only_refuted _ _ _ _ refl p.0.1.0)

-- the trait goal isn't refuted
still_tr : (n : ℕ) → (level disagreeing n).trait_refuted (trait 12) (param 0 ∷ []) → ⊥
unfolding opened
still_tr zero p = p
still_tr (suc n) (inl p) = p
still_tr (suc n) (inr p) =
    let clause : (trait 12 ≢ trait 12) ⊎ (level disagreeing n).unequal (param 0) (param 0) ⊎ ⊥ =
    at_node (level disagreeing n) (head.TyParam 0) none (λ s. (trait 12 ≢ trait 12) ⊎ (level disagreeing n).unequal (param 0) s ⊎ ⊥) p.0 p.1 (only_refuted _ _ _ _ refl p.2.0)
    in elim clause [ inl q ↦ q refl | inr (inl q) ↦ not_unequal disagreeing n (head.TyParam 0) q | inr (inr q) ↦ q ]

-- under assumptions that disagree `<T as Tr>::A` has no term at any height, and isn't refuted at any
pub example-disagreeing : (n : ℕ) (u : Tree) → (level disagreeing n).gives (projection 5) (param 0 ∷ []) u → ⊥
unfolding opened
example-disagreeing zero u h = h
example-disagreeing (suc n) u h =
    disagreement n h.0 u _ _
    (at_node (level disagreeing n) (head.TyParam 0) none
    (λ s. GroupsGive disagreeing (level disagreeing n) h.0 (of_self s) (alias_of (projection 5) (s ∷ [])) (alias_of (projection 5) (param 0 ∷ []))
    (second_group disagreeing (trait 12) s h.0) u)
    h.1 h.3 h.4)

pub example-disagreeing_not_refuted : (n : ℕ) → (level disagreeing n).gives_refuted (projection 5) (param 0 ∷ []) → ⊥
unfolding opened
example-disagreeing_not_refuted zero h = h
example-disagreeing_not_refuted (suc n) (inl h) = still_tr n h
example-disagreeing_not_refuted (suc n) (inr h) =
    no_disagreement n h.0 _
    (at_node (level disagreeing n) (head.TyParam 0) none
    (λ s. GroupsRefuted disagreeing (level disagreeing n) h.0 (of_self s) (alias_of (projection 5) (s ∷ [])) (second_group disagreeing (trait 12) s h.0))
    h.1 h.3 h.4)
