-- Worked examples: calls of function pointers.
use Rattle.std.proofs.Common.{inl, inr, [], ◌∷◌, true, refl}
use Rattle.goal_terms.specs.Tree.{Tree, forest}
use Rattle.goal_terms.specs.declared.answers.TraitGoalProvenVia.TheVariants as class
use Rattle.goal_terms.specs.declared.heads.Head.TheVariants as head
use Rattle.goal_terms.specs.declared.scalars.UintTy.TheVariants as unsigned
use Rattle.goal_lists.specs.Builtins.{call_premises, u8_ty}
use Rattle.goal_kinds.specs.ExampleTables.{analysis, example_tables, plainly}
use Rattle.goal_kinds.specs.ExampleTerms.{bool_ty, fn_ty, item, projection, trait, tuple, u16_ty}
use Rattle.goal_lists.specs.Levels.{level}
use Rattle.goal_lists.specs.Premises.{PremisesHold}
use Rattle.goal_kinds.specs.ExampleSettings.{called_with}
use Rattle.goal_kinds.proofs.ExampleLemmas.{alone, apart, differs, opened, no_projection_refuted_at_one}
use Rattle.goal_kinds.proofs.ExampleNodes.{through_rest}

-- `bool: Sized` at height 1, and so `fn(u8) -> bool: FnOnce<(u8,)>` at height 2
bool_is_sized : (level plainly 1).through class.Misc (trait 0) (bool_ty ∷ [])
unfolding opened
bool_is_sized = (bool_ty, refl, inl (tt, alone _ _ _ _ refl), tt)

pointer_is_called : (level plainly 2).through class.Misc (trait 5) (called_with u8_ty)
unfolding opened
pointer_is_called = (fn_ty u8_ty bool_ty, refl, inl (((refl, ((refl, tt), tt)), ((class.Misc, bool_is_sized), tt)), alone _ _ _ _ refl), tt)

-- the premises of the call hold at height 2
call_holds : PremisesHold (level plainly 2) (call_premises (trait 0) (fn_ty u8_ty bool_ty) (tuple (u8_ty ∷ []) ∷ []) bool_ty)
unfolding opened
call_holds = ((refl, ((refl, tt), tt)), ((class.Misc, (bool_ty, refl, inl (tt, alone _ _ _ _ refl), tt)), tt))

-- `<fn(u8) -> bool as FnOnce<(u8,)>>::Output` is `bool`, at height 3 and not at 2
pub example-output : (level plainly 3).gives (projection 0) (called_with u8_ty) bool_ty
unfolding opened
example-output = (
  class.Misc,
  fn_ty u8_ty bool_ty,
  pointer_is_called,
  refl,
  inr (inl (tt, (inl ((call_holds, refl), alone _ _ _ _ refl), (inl (call_holds, refl), (inr (inl tt), tt))), inl refl)),
)

pub example-output_lower : (u : Tree) → (level plainly 2).gives (projection 0) (called_with u8_ty) u → ⊥
unfolding opened
example-output_lower u h =
    elim (through_rest example_tables analysis (level plainly 0) h.0 (trait 5) (head.FnPtr 0 1 true) (forest (u8_ty ∷ bool_ty ∷ [])) (tuple (u8_ty ∷ []) ∷ []) h.2).1
    [ inl p ↦ p.0.1.0.1 | inr (inl p) ↦ absurd (cc p.0) | inr (inr p) ↦ p ]

-- with an argument of type `u16` it is refuted, at height 2 and not at 1
pub example-wrong_argument : (level plainly 2).gives_refuted (projection 0) (called_with u16_ty)
unfolding opened
example-wrong_argument =
    inl (inr (fn_ty u8_ty bool_ty, refl, (inl (inl (inr (inl (inl (apart (head.Uint unsigned.U8) (head.Uint unsigned.U16) (differs tt)))))), (inl refl, tt))))

pub example-wrong_argument_lower : (level plainly 1).gives_refuted (projection 0) (called_with u16_ty) → ⊥
example-wrong_argument_lower = no_projection_refuted_at_one plainly (item 0) (called_with u16_ty)
