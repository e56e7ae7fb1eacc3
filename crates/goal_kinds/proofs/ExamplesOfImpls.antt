-- Worked examples: impls of a trait `Tr` with a type `A`.
use Rattle.std.proofs.Common.{inl, inr, ℕ, zero, suc, [], ◌∷◌, refl, sym, subst, ◌∙◌}
use Rattle.goal_terms.specs.Tree.{Tree, none}
use Rattle.goal_terms.specs.TreeOf.{leaf}
use Rattle.goal_terms.specs.declared.answers.TraitGoalProvenVia.TheVariants as class
use Rattle.goal_terms.specs.declared.heads.Head.{Head}
use Rattle.goal_terms.specs.declared.heads.Head.TheVariants as head
use Rattle.goal_terms.specs.declared.predicates.BoundConstness.TheVariants as constness
use Rattle.goal_terms.proofs.TreeLemmas.{tree_of_term-Ty, tree_of_ty-Uint}
use Rattle.goal_lists.specs.Builtins.{u8_ty}
use Rattle.goal_kinds.specs.ExampleRows.{tr_for_z, tr_for_w, tr_for_str, plain_item}
use Rattle.goal_kinds.specs.ExampleTables.{plainly}
use Rattle.goal_kinds.specs.ExampleTerms.{adt, alias_of, error_ty, item, p_ty, projection, str_ty, trait, w_ty, y_ty, z_ty}
use Rattle.goal_lists.specs.Headers.{under, Fits}
use Rattle.goal_lists.specs.ImplTerms.{ImplGives}
use Rattle.goal_lists.specs.Level.{HasHeadForm}
use Rattle.goal_lists.specs.Levels.{level}
use Rattle.goal_lists.specs.Settings.{Setting}
use Rattle.goal_lists.specs.TraitGoals.{header_of}
use Rattle.goal_kinds.proofs.ExampleLemmas.{opened, alone, not_y, not_z, not_w, not_str, header-z, header-w, header-str, no_const_refuted_at_one, no_const_at_one, no_projection_at_one, no_projection_refuted_at_one}

-- a type without parts is equal to itself
pub equal_leaf : (S : Setting) (n : ℕ) (h : Head) → (level S n).equal (leaf h) (leaf h)
unfolding opened
equal_leaf S zero h = (refl, tt)
equal_leaf S (suc n) h = (refl, tt)

-- each header fits its type
pub fits_z : (S : Setting) (n : ℕ) → Fits (level S n) [] (header_of tr_for_z) (z_ty ∷ []) []
unfolding opened
fits_z S n = subst (λ hs. Fits (level S n) [] hs (z_ty ∷ []) []) (sym header-z) (tt, (equal_leaf S n (head.Adt (adt 5) 0), tt))

fits_w : (S : Setting) (n : ℕ) → Fits (level S n) [] (header_of tr_for_w) (w_ty ∷ []) []
unfolding opened
fits_w S n = subst (λ hs. Fits (level S n) [] hs (w_ty ∷ []) []) (sym header-w) (tt, (equal_leaf S n (head.Adt (adt 7) 0), tt))

fits_str : (S : Setting) (n : ℕ) → Fits (level S n) [] (header_of tr_for_str) (str_ty ∷ []) []
unfolding opened
fits_str S n = subst (λ hs. Fits (level S n) [] hs (str_ty ∷ []) []) (sym header-str) (tt, (equal_leaf S n head.Str, tt))

-- `impl Tr for Z`: `Z: Tr` holds, at height 1 and not at 0
pub example-impl : (level plainly 1).through class.Misc (trait 12) (z_ty ∷ [])
unfolding opened
example-impl = (z_ty, refl, inr (inl (([], (refl, fits_z plainly 0, tt)), alone _ _ _ _ refl)), tt)

pub example-impl_lower : (level plainly 0).through class.Misc (trait 12) (z_ty ∷ []) → ⊥
unfolding level
example-impl_lower h = h

-- that impl isn't const: `Z: const Tr` is refuted, at height 2 and not at 1
pub example-plain_impl_as_const : (level plainly 2).const_refuted constness.Const (trait 12) (z_ty ∷ [])
unfolding opened
example-plain_impl_as_const =
    inr (class.Misc, z_ty, example-impl, refl, tt, (inl (inl refl), (inl (inl refl), (inl (inl refl), (inl (inl refl), (inl tt, (inl refl, tt)))))))

pub example-plain_impl_as_const_lower : (level plainly 1).const_refuted constness.Const (trait 12) (z_ty ∷ []) → ⊥
example-plain_impl_as_const_lower = no_const_refuted_at_one plainly constness.Const (trait 12) (z_ty ∷ [])

-- its `A` is `u8`: `<Z as Tr>::A` is `u8`, at height 2 and not at 1
z_gives : ImplGives plainly (level plainly 1) (record { item = plain_item 5 12; trait_params = 1; args = z_ty ∷ [] }) (alias_of (projection 5) (z_ty ∷ [])) tr_for_z u8_ty
unfolding opened
z_gives =
    ([], (refl, fits_z plainly 1, tt), tt, ([], refl, subst (λ t. HasHeadForm (level plainly 1) (under [] t) u8_ty) (sym (tree_of_term-Ty _ ∙ tree_of_ty-Uint _)) refl))

pub example-type_of_impl : (level plainly 2).gives (projection 5) (z_ty ∷ []) u8_ty
unfolding opened
example-type_of_impl =
    let apart_from_y = not_y plainly 1 (head.Adt (adt 5) 0) none tt in
    let apart_from_w = not_w plainly 1 (head.Adt (adt 5) 0) none tt in
    let apart_from_str = not_str plainly 1 (head.Adt (adt 5) 0) none tt in (
      class.Misc,
      z_ty,
      example-impl,
      refl,
      inr
          (inl (
            tt,
            (
              inr (inl (z_gives, alone _ _ _ _ refl)),
              (inr (inl (inl apart_from_y)), (inl z_gives, (inr (inl (inl apart_from_w)), (inr (inl (inl apart_from_str)), (inr (inl tt), (inr (inl tt), tt)))))),
            ),
            inl refl,
          )),
    )

pub example-type_of_impl_lower : (u : Tree) → (level plainly 1).gives (projection 5) (z_ty ∷ []) u → ⊥
example-type_of_impl_lower = no_projection_at_one plainly (item 5) (z_ty ∷ [])

-- no impl is for `P`: `<P as Tr>::A` is refuted, at height 2 and not at 1
pub p_is_not_tr : (level plainly 1).trait_refuted (trait 12) (p_ty ∷ [])
unfolding opened
p_is_not_tr =
    inr (
      p_ty,
      refl,
      (
        inl (not_y plainly 0 (head.Adt (adt 8) 0) none tt),
        (
          inl (not_z plainly 0 (head.Adt (adt 8) 0) none tt),
          (
            inl (not_w plainly 0 (head.Adt (adt 8) 0) none tt),
            (
              inl (not_str plainly 0 (head.Adt (adt 8) 0) none tt),
              (inl tt, (inl refl, tt)),
            ),
          ),
        ),
      ),
    )

pub example-no_impl : (level plainly 2).gives_refuted (projection 5) (p_ty ∷ [])
unfolding opened
example-no_impl = inl p_is_not_tr

pub example-no_impl_lower : (level plainly 1).gives_refuted (projection 5) (p_ty ∷ []) → ⊥
example-no_impl_lower = no_projection_refuted_at_one plainly (item 5) (p_ty ∷ [])

-- `impl !Tr for Y`: `<Y as Tr>::A` and `Y: const Tr` are refuted, at height 2 and not at 1
y_is_not_tr : (level plainly 1).trait_refuted (trait 12) (y_ty ∷ [])
unfolding opened
y_is_not_tr =
    inr (
      y_ty,
      refl,
      (
        inl (inl refl),
        (
          inl (not_z plainly 0 (head.Adt (adt 4) 0) none tt),
          (
            inl (not_w plainly 0 (head.Adt (adt 4) 0) none tt),
            (
              inl (not_str plainly 0 (head.Adt (adt 4) 0) none tt),
              (inl tt, (inl refl, tt)),
            ),
          ),
        ),
      ),
    )

pub example-negative_impl : (level plainly 2).gives_refuted (projection 5) (y_ty ∷ [])
unfolding opened
example-negative_impl = inl y_is_not_tr

pub example-negative_impl_lower : (level plainly 1).gives_refuted (projection 5) (y_ty ∷ []) → ⊥
example-negative_impl_lower = no_projection_refuted_at_one plainly (item 5) (y_ty ∷ [])

pub example-negative_impl_as_const : (level plainly 2).const_refuted constness.Const (trait 12) (y_ty ∷ [])
unfolding opened
example-negative_impl_as_const = inl y_is_not_tr

pub example-negative_impl_as_const_lower : (level plainly 1).const_refuted constness.Const (trait 12) (y_ty ∷ []) → ⊥
example-negative_impl_as_const_lower = no_const_refuted_at_one plainly constness.Const (trait 12) (y_ty ∷ [])

-- `impl Tr for W` without a value: `<W as Tr>::A` is the error that has the definition's number, at height 2 and not at 1
w_gives :
    ImplGives plainly (level plainly 1) (record { item = plain_item 5 12; trait_params = 1; args = w_ty ∷ [] })
    (alias_of (projection 5) (w_ty ∷ [])) tr_for_w (error_ty 6)
unfolding opened
w_gives = ([], (refl, fits_w plainly 1, tt), tt, refl)

pub example-missing_value : (level plainly 2).gives (projection 5) (w_ty ∷ []) (error_ty 6)
unfolding opened
example-missing_value =
    let holds_for_w : (level plainly 1).through class.Misc (trait 12) (w_ty ∷ []) = (w_ty, refl, inr (inr (inl (([], (refl, fits_w plainly 0, tt)), alone _ _ _ _ refl))), tt) in
    let apart_from_y = not_y plainly 1 (head.Adt (adt 7) 0) none tt in
    let apart_from_z = not_z plainly 1 (head.Adt (adt 7) 0) none tt in
    let apart_from_str = not_str plainly 1 (head.Adt (adt 7) 0) none tt in (
      class.Misc,
      w_ty,
      holds_for_w,
      refl,
      inr
          (inl (
            tt,
            (
              inr (inr (inl (w_gives, alone _ _ _ _ refl))),
              (inr (inl (inl apart_from_y)), (inr (inl (inl apart_from_z)), (inl w_gives, (inr (inl (inl apart_from_str)), (inr (inl tt), (inr (inl tt), tt)))))),
            ),
            inl refl,
          )),
    )

pub example-missing_value_lower : (u : Tree) → (level plainly 1).gives (projection 5) (w_ty ∷ []) u → ⊥
example-missing_value_lower = no_projection_at_one plainly (item 5) (w_ty ∷ [])

-- the impl for `str`, which is guaranteed to be unsized, lacks its value, too: `<str as Tr>::A` stays as it is, at height 2 and not at 1
str_gives :
    ImplGives plainly (level plainly 1) (record { item = plain_item 5 12; trait_params = 1; args = str_ty ∷ [] }) (alias_of (projection 5) (str_ty ∷ [])) tr_for_str
    (alias_of (projection 5) (str_ty ∷ []))
unfolding opened
str_gives = ([], (refl, fits_str plainly 1, tt), tt, refl)

pub example-missing_in_unsized : (level plainly 2).gives (projection 5) (str_ty ∷ []) (alias_of (projection 5) (str_ty ∷ []))
unfolding opened
example-missing_in_unsized =
    let holds_for_str : (level plainly 1).through class.Misc (trait 12) (str_ty ∷ []) = (str_ty, refl, inr (inr (inr (inl (([], (refl, fits_str plainly 0, tt)), alone _ _ _ _ refl)))), tt) in
    let apart_from_y = not_y plainly 1 head.Str none tt in
    let apart_from_z = not_z plainly 1 head.Str none tt in
    let apart_from_w = not_w plainly 1 head.Str none tt in (
      class.Misc,
      str_ty,
      holds_for_str,
      refl,
      inr
          (inl (
            tt,
            (
              inr (inr (inr (inl (str_gives, alone _ _ _ _ refl)))),
              (inr (inl (inl apart_from_y)), (inr (inl (inl apart_from_z)), (inr (inl (inl apart_from_w)), (inl str_gives, (inr (inl tt), (inr (inl tt), tt)))))),
            ),
            inl refl,
          )),
    )

pub example-missing_in_unsized_lower : (u : Tree) → (level plainly 1).gives (projection 5) (str_ty ∷ []) u → ⊥
example-missing_in_unsized_lower = no_projection_at_one plainly (item 5) (str_ty ∷ [])

-- an error has every trait: `{error 6}: Tr` at height 1 and not at 0, and `{error 6}: const Tr` at height 2 and not at 1
pub example-error : (level plainly 1).through class.Misc (trait 12) (error_ty 6 ∷ [])
unfolding opened
example-error = (error_ty 6, refl, inr (inr (inr (inr (inr (inl (refl, alone _ _ _ _ refl)))))), tt)

pub example-error_lower : (level plainly 0).through class.Misc (trait 12) (error_ty 6 ∷ []) → ⊥
unfolding level
example-error_lower h = h

pub example-error_as_const : (level plainly 2).const_holds constness.Const (trait 12) (error_ty 6 ∷ [])
unfolding opened
example-error_as_const = (class.Misc, error_ty 6, example-error, refl, inr (tt, inr (inr (inr (inr (inr (inl (refl, alone _ _ _ _ refl))))))))

pub example-error_as_const_lower : (level plainly 1).const_holds constness.Const (trait 12) (error_ty 6 ∷ []) → ⊥
example-error_as_const_lower = no_const_at_one plainly constness.Const (trait 12) (error_ty 6 ∷ [])

-- but no type `A`: `<{error 6} as Tr>::A` is refuted, at height 2 and not at 1
pub example-type_of_error : (level plainly 2).gives_refuted (projection 5) (error_ty 6 ∷ [])
unfolding opened
example-type_of_error =
    inr (
      class.Misc,
      error_ty 6,
      example-error,
      refl,
      inl (
        tt,
        (
          inl (inl (not_y plainly 1 (head.TyError 6) none tt)),
          (
            inl (inl (not_z plainly 1 (head.TyError 6) none tt)),
            (inl (inl (not_w plainly 1 (head.TyError 6) none tt)), (inl (inl (not_str plainly 1 (head.TyError 6) none tt)), (inl tt, (inl tt, tt)))),
          ),
        ),
        refl,
      ),
    )

pub example-type_of_error_lower : (level plainly 1).gives_refuted (projection 5) (error_ty 6 ∷ []) → ⊥
example-type_of_error_lower = no_projection_refuted_at_one plainly (item 5) (error_ty 6 ∷ [])
