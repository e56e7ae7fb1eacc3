-- Worked examples: a default, whose value depends on the mode.
use Rattle.std.proofs.Common.{inl, inr, [], ◌∷◌, refl, sym, subst, ◌∙◌}
use Rattle.goal_terms.specs.Tree.{Tree, none}
use Rattle.goal_terms.specs.declared.answers.TraitGoalProvenVia.TheVariants as class
use Rattle.goal_terms.specs.declared.heads.Head.TheVariants as head
use Rattle.goal_terms.specs.declared.modes.TypingMode.{TypingMode}
use Rattle.goal_terms.specs.declared.modes.TypingMode.TheVariants as mode
use Rattle.goal_terms.proofs.TreeLemmas.{tree_of_term-Ty, tree_of_ty-Uint}
use Rattle.goal_lists.specs.Builtins.{u8_ty}
use Rattle.goal_kinds.specs.ExampleRows.{plain_item, tr_for_z}
use Rattle.goal_kinds.specs.ExampleTables.{analysis}
use Rattle.goal_kinds.specs.ExampleTerms.{adt, alias_of, item, projection, trait, z_ty}
use Rattle.goal_lists.specs.Headers.{under}
use Rattle.goal_lists.specs.ImplTerms.{ImplGives}
use Rattle.goal_lists.specs.Level.{HasHeadForm}
use Rattle.goal_lists.specs.Levels.{level}
use Rattle.goal_kinds.specs.ExampleSettings.{with_default}
use Rattle.goal_kinds.proofs.ExampleLemmas.{alone, no_projection_at_one, not_str, not_w, not_y, opened}
use Rattle.goal_kinds.proofs.ExamplesOfImpls.{fits_z}

-- a term that the impl for `Z` gives there is that of `<Z as Tr>::A`
impl_decides :
    (m : TypingMode) (u : Tree)
    → ImplGives (with_default m) (level (with_default m) 1) (record { item = plain_item 5 12; trait_params = 1; args = z_ty ∷ [] }) (alias_of (projection 5) (z_ty ∷ []))
    tr_for_z u
    → (level (with_default m) 2).gives (projection 5) (z_ty ∷ []) u
unfolding opened
impl_decides m u gives =
    let holds_for_z : (level (with_default m) 1).through class.Misc (trait 12) (z_ty ∷ []) = (z_ty, refl, inr (inl (([], (refl, fits_z (with_default m) 0, tt)), alone _ _ _ _ refl)), tt) in
    let apart_from_y = not_y (with_default m) 1 (head.Adt (adt 5) 0) none tt in
    let apart_from_w = not_w (with_default m) 1 (head.Adt (adt 5) 0) none tt in
    let apart_from_str = not_str (with_default m) 1 (head.Adt (adt 5) 0) none tt in (
      class.Misc,
      z_ty,
      holds_for_z,
      refl,
      inr
          (inl (
            tt,
            (
              inr (inl (gives, alone _ _ _ _ refl)),
              (inr (inl (inl apart_from_y)), (inl gives, (inr (inl (inl apart_from_w)), (inr (inl (inl apart_from_str)), (inr (inl tt), (inr (inl tt), tt)))))),
            ),
            inl refl,
          )),
    )

-- `<Z as Tr>::A` stays as it is while bodies are checked, and is `u8` after, each at height 2 and not at 1
pub example-default_kept : (level (with_default analysis) 2).gives (projection 5) (z_ty ∷ []) (alias_of (projection 5) (z_ty ∷ []))
unfolding opened
example-default_kept = impl_decides analysis (alias_of (projection 5) (z_ty ∷ [])) ([], (refl, fits_z (with_default analysis) 1, tt), tt, refl)

pub example-default_kept_lower : (u : Tree) → (level (with_default analysis) 1).gives (projection 5) (z_ty ∷ []) u → ⊥
example-default_kept_lower = no_projection_at_one (with_default analysis) (item 5) (z_ty ∷ [])

pub example-default_taken : (level (with_default mode.PostAnalysis) 2).gives (projection 5) (z_ty ∷ []) u8_ty
unfolding opened
example-default_taken =
    impl_decides mode.PostAnalysis u8_ty (
      [],
      (refl, fits_z (with_default mode.PostAnalysis) 1, tt),
      tt,
      ([], refl, subst (λ t. HasHeadForm (level (with_default mode.PostAnalysis) 1) (under [] t) u8_ty) (sym (tree_of_term-Ty _ ∙ tree_of_ty-Uint _)) refl),
    )

pub example-default_taken_lower : (u : Tree) → (level (with_default mode.PostAnalysis) 1).gives (projection 5) (z_ty ∷ []) u → ⊥
example-default_taken_lower = no_projection_at_one (with_default mode.PostAnalysis) (item 5) (z_ty ∷ [])
