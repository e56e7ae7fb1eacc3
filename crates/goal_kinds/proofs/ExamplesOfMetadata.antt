-- Worked examples: the metadata of types.
use Rattle.std.proofs.Common.{inl, inr, [], ◌∷◌, refl}
use Rattle.goal_terms.specs.Tree.{Tree, forest}
use Rattle.goal_terms.specs.declared.heads.Head.TheVariants as head
use Rattle.goal_terms.specs.declared.answers.TraitGoalProvenVia.TheVariants as class
use Rattle.goal_lists.specs.Builtins.{unit_ty, u8_ty, usize_ty}
use Rattle.goal_kinds.specs.ExampleTerms.{alias_of, bool_ty, param, str_ty, tuple, projection, trait, item}
use Rattle.goal_kinds.specs.ExampleRows.{plain_item, plain_trait, with_item}
use Rattle.goal_kinds.specs.ExampleTables.{analysis, example_tables, plainly}
use Rattle.goal_lists.specs.Levels.{level}
use Rattle.goal_kinds.specs.ExampleSettings.{assuming_sized}
use Rattle.goal_kinds.proofs.ExampleLemmas.{alone, opened, other_trait, no_projection_at_one}
use Rattle.goal_kinds.proofs.ExampleNodes.{rest_gives, through_rest}

-- `<bool as Pointee>::Metadata` is `()`, at height 2 and not at 1
pub example-metadata_of_bool : (level plainly 2).gives (projection 1) (bool_ty ∷ []) unit_ty
unfolding opened
example-metadata_of_bool = (class.Misc, bool_ty, (bool_ty, refl, inl (tt, alone _ _ _ _ refl), tt), refl, inr (inl (tt, (inl ((tt, refl), alone _ _ _ _ refl), (inl (tt, refl), (inr (inl tt), tt))), inl refl)))

pub example-metadata_of_bool_lower : (u : Tree) → (level plainly 1).gives (projection 1) (bool_ty ∷ []) u → ⊥
unfolding opened
example-metadata_of_bool_lower = no_projection_at_one plainly (item 1) (bool_ty ∷ [])

-- `<(u8, str) as Pointee>::Metadata` is that of `str`, `usize`, at height 3 and not at 2
pub example-metadata_of_tuple : (level plainly 3).gives (projection 1) (tuple (u8_ty ∷ str_ty ∷ []) ∷ []) usize_ty
unfolding opened
example-metadata_of_tuple =
    let of_str : (level plainly 2).gives (projection 1) (str_ty ∷ []) usize_ty =
    (class.Misc, str_ty, (str_ty, refl, inl (tt, alone _ _ _ _ refl), tt), refl, inr (inl (tt, (inl ((tt, refl), alone _ _ _ _ refl), (inl (tt, refl), (inr (inl tt), tt))), inl refl)))
    in (
      class.Misc,
      tuple (u8_ty ∷ str_ty ∷ []),
      (tuple (u8_ty ∷ str_ty ∷ []), refl, inl (tt, alone _ _ _ _ refl), tt),
      refl,
      inr (inl (tt, (inl ((tt, of_str), alone _ _ _ _ refl), (inl (tt, of_str), (inr (inl tt), tt))), inl refl)),
    )

pub example-metadata_of_tuple_lower : (u : Tree) → (level plainly 2).gives (projection 1) (tuple (u8_ty ∷ str_ty ∷ []) ∷ []) u → ⊥
unfolding opened
example-metadata_of_tuple_lower u h =
    elim (rest_gives example_tables analysis 1 (projection 1) (head.Tuple 2) (forest (u8_ty ∷ str_ty ∷ [])) [] (plain_item 1 8) (with_item 1 (plain_trait 8))
    (λ c p. (through_rest example_tables analysis (level plainly 0) c (trait 8) (head.Tuple 2) (forest (u8_ty ∷ str_ty ∷ [])) [] p).0) u h).0
    [ inl p ↦ no_projection_at_one plainly (item 1) (str_ty ∷ []) u p.0.1 | inr (inl p) ↦ p.0 | inr (inr p) ↦ p ]

-- then `<T as Pointee>::Metadata` is `()`, at height 2 and not at 1
pub example-metadata_of_sized_param : (level assuming_sized 2).gives (projection 1) (param 0 ∷ []) unit_ty
unfolding opened
example-metadata_of_sized_param =
    let sized : (level assuming_sized 1).through class.ParamEnv (trait 0) (param 0 ∷ []) = (param 0, refl, inl ((refl, ((refl, tt), tt)), alone _ _ _ _ refl), tt) in (
      class.Misc,
      param 0,
      (param 0, refl, inl (tt, alone _ _ _ _ refl), (inl (inl (other_trait 0 8 tt)), tt)),
      refl,
      inr (inl ((inl tt, tt), (inl (inl ((class.ParamEnv, sized), refl), alone _ _ _ _ refl), (inl (inl ((class.ParamEnv, sized), refl)), (inr (inl tt), tt))), inl refl)),
    )

pub example-metadata_of_sized_param_lower : (u : Tree) → (level assuming_sized 1).gives (projection 1) (param 0 ∷ []) u → ⊥
example-metadata_of_sized_param_lower = no_projection_at_one assuming_sized (item 1) (param 0 ∷ [])

-- without that assumption it stays as it is, at height 2 and not at 1
pub example-metadata_of_param : (level plainly 2).gives (projection 1) (param 0 ∷ []) (alias_of (projection 1) (param 0 ∷ []))
unfolding opened
example-metadata_of_param =
    let unsized : (level plainly 1).trait_refuted (trait 0) (param 0 ∷ []) = inr (param 0, refl, (inl tt, (inl refl, tt))) in
    (class.Misc, param 0, (param 0, refl, inl (tt, alone _ _ _ _ refl), tt), refl, inr (inl (tt, (inl (inr (unsized, refl), alone _ _ _ _ refl), (inl (inr (unsized, refl)), (inr (inl tt), tt))), inl refl)))

pub example-metadata_of_param_lower : (u : Tree) → (level plainly 1).gives (projection 1) (param 0 ∷ []) u → ⊥
example-metadata_of_param_lower = no_projection_at_one plainly (item 1) (param 0 ∷ [])
