-- Worked example: an own argument of an item that has no head form.
use Rattle.std.proofs.Common.{◌≢◌, ◌⊎◌, inl, inr, [], ◌∷◌, refl}
use Rattle.goal_terms.specs.PredicateTrees.{equals}
use Rattle.goal_terms.specs.Tree.{Tree, none}
use Rattle.goal_terms.specs.declared.answers.TraitGoalProvenVia.{TraitGoalProvenVia}
use Rattle.goal_terms.specs.declared.answers.TraitGoalProvenVia.TheVariants as class
use Rattle.goal_terms.specs.declared.heads.Head.TheVariants as head
use Rattle.goal_terms.specs.declared.scalars.IntTy.TheVariants as signed
use Rattle.goal_lists.specs.Candidates.{second_group}
use Rattle.goal_kinds.specs.ExampleRows.{assoc_item}
use Rattle.goal_kinds.specs.ExampleTerms.{adt, alias_of, i32_ty, item, p_ty, param, projection, trait, u16_ty}
use Rattle.goal_lists.specs.ImplTerms.{Projection}
use Rattle.goal_lists.specs.Levels.{level}
use Rattle.goal_lists.specs.Projections.{AssumptionTermRefuted, GroupsRefuted}
use Rattle.goal_kinds.specs.ExampleSettings.{own_args_of, assuming_own}
use Rattle.goal_kinds.proofs.ExampleLemmas.{alone, only_refuted, opened, other_trait, not_y, not_z, not_w, not_str, no_projection_refuted_at_one}
use Rattle.goal_kinds.proofs.ExampleNodes.{at_node}
use Rattle.goal_kinds.proofs.ExamplesOfEnvironments.{not_unequal}

-- `P: Tr` is refuted at height 1, and so is `<P as Tr>::A` at height 2
p_is_not_tr : (level assuming_own 1).trait_refuted (trait 12) (p_ty ∷ [])
unfolding opened
p_is_not_tr =
    inr (
      p_ty,
      refl,
      (
        inl (inl (other_trait 13 12 tt)),
        (
          inl tt,
          (
            inl (not_y assuming_own 0 (head.Adt (adt 8) 0) none tt),
            (
              inl (not_z assuming_own 0 (head.Adt (adt 8) 0) none tt),
              (
                inl (not_w assuming_own 0 (head.Adt (adt 8) 0) none tt),
                (
                  inl (not_str assuming_own 0 (head.Adt (adt 8) 0) none tt),
                  (inl tt, (inl refl, tt)),
                ),
              ),
            ),
          ),
        ),
      ),
    )

no_type_refuted : (level assuming_own 2).gives_refuted (projection 5) (p_ty ∷ [])
unfolding opened
no_type_refuted = inl p_is_not_tr

-- the assumption gives `u16`, and yet `<T as Trait<i32>>::Assoc<<P as Tr>::A>` is refuted, since its own argument is: at height 3 and not at 2
pub example-refuted_own_argument : (level assuming_own 3).gives_refuted (projection 6) (own_args_of (param 0))
unfolding opened
example-refuted_own_argument =
    let trait_holds : (level assuming_own 2).through class.ParamEnv (trait 13) (param 0 ∷ i32_ty ∷ []) =
    (param 0, refl, inl ((refl, ((refl, tt), ((refl, tt), tt))), alone _ _ _ _ refl), tt) in
    inr (
      class.ParamEnv,
      param 0,
      trait_holds,
      refl,
      inr
          (inl (
            (
              u16_ty,
              (
                inr (inl ((refl, ((refl, tt), ((refl, tt), (inl refl, tt))), tt, refl), alone _ _ _ _ refl)),
                (inr (inl tt), (inl (refl, ((refl, tt), ((refl, tt), (inl refl, tt))), tt, refl), tt)),
              ),
            ),
            inl no_type_refuted,
          )),
    )

-- the projection that is asked there, for a self type
abbrev of_self : Tree → Projection
of_self s = record { item = assoc_item; trait_params = 2; args = own_args_of s }

-- the assumption isn't refuted at height 1
clause_stands : AssumptionTermRefuted (level assuming_own 1) (of_self (param 0)) (equals (alias_of (projection 6) (own_args_of (param 0))) u16_ty) → ⊥
unfolding opened
clause_stands (inl p) = p refl
clause_stands (inr (inl (inl p))) = not_unequal assuming_own 1 (head.TyParam 0) p
clause_stands (inr (inl (inr (inl p)))) = not_unequal assuming_own 1 (head.Int signed.I32) p
clause_stands (inr (inl (inr (inr (inl p))))) = p.0 refl
clause_stands (inr (inl (inr (inr (inr p))))) = p
clause_stands (inr (inr (inl p))) = p
clause_stands (inr (inr (inr p))) = p

not_yet :
    (c : TraitGoalProvenVia) (itself : Tree)
    → GroupsRefuted assuming_own (level assuming_own 1) c (of_self (param 0)) itself (second_group assuming_own (trait 13) (param 0) c) → ⊥
unfolding opened
not_yet c itself (inl p) = clause_stands (only_refuted _ _ _ _ refl p.0.1.0)
not_yet c itself (inr (inl p)) = elim p.1 [ inl q ↦ no_projection_refuted_at_one assuming_own (item 5) (p_ty ∷ []) q | inr q ↦ q ]
not_yet c itself (inr (inr p)) = clause_stands (only_refuted _ _ _ _ refl p.0.1.0)

pub example-refuted_own_argument_lower : (level assuming_own 2).gives_refuted (projection 6) (own_args_of (param 0)) → ⊥
unfolding opened
example-refuted_own_argument_lower (inl (inl p)) = p
example-refuted_own_argument_lower (inl (inr p)) =
    let clause : (trait 13 ≢ trait 13) ⊎ (level assuming_own 0).unequal (param 0) (param 0) ⊎ (level assuming_own 0).unequal i32_ty i32_ty ⊎ ⊥ =
    at_node (level assuming_own 0) (head.TyParam 0) none
    (λ s. (trait 13 ≢ trait 13) ⊎ (level assuming_own 0).unequal (param 0) s ⊎ (level assuming_own 0).unequal i32_ty i32_ty ⊎ ⊥) p.0 p.1 (only_refuted _ _ _ _ refl p.2.0)
    in elim clause [
      | inl q ↦ q refl
      | inr (inl q) ↦ not_unequal assuming_own 0 (head.TyParam 0) q
      | inr (inr (inl q)) ↦ not_unequal assuming_own 0 (head.Int signed.I32) q
      | inr (inr (inr q)) ↦ q
    ]
example-refuted_own_argument_lower (inr h) =
    not_yet h.0 _
    (at_node (level assuming_own 1) (head.TyParam 0) none
    (λ s. GroupsRefuted assuming_own (level assuming_own 1) h.0 (of_self s) (alias_of (projection 6) (own_args_of s)) (second_group assuming_own (trait 13) s h.0))
    h.1 h.3 h.4)
