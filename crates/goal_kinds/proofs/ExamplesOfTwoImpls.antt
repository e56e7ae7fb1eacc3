-- Worked examples: two impls that fit, one of which uses a definition of the other.
use Rattle.std.proofs.Common.{◌≡◌, inl, inr, [], ◌∷◌, map, refl, sym, subst}
use Rattle.goal_terms.specs.Tree.{Tree}
use Rattle.goal_terms.specs.declared.answers.ParamKind.TheVariants as kind
use Rattle.goal_terms.specs.declared.answers.TraitGoalProvenVia.TheVariants as class
use Rattle.goal_terms.specs.declared.heads.Head.TheVariants as head
use Rattle.goal_tables.specs.declared.rows.ImplRow.{ImplRow}
use Rattle.goal_kinds.specs.ExampleRows.{assoc_item, trait_of_all_for_vec, trait_of_i32_for_vec}
use Rattle.goal_kinds.specs.ExampleTables.{plainly}
use Rattle.goal_kinds.specs.ExampleTerms.{adt, alias_of, bool_ty, i32_ty, item, param, projection, trait, u32_ty, u64_ty, vec_of}
use Rattle.goal_lists.specs.Headers.{under, Clashes, Fits}
use Rattle.goal_lists.specs.ImplTerms.{ImplGives}
use Rattle.goal_lists.specs.Level.{HasHeadForm}
use Rattle.goal_lists.specs.Levels.{level}
use Rattle.goal_lists.specs.TraitGoals.{header_of}
use Rattle.goal_kinds.specs.ExampleSettings.{asked_args, three}
use Rattle.goal_kinds.proofs.ExampleHeaders.{fits-all, fits-i32, header-all, header-i32, value-triple}
use Rattle.goal_kinds.proofs.ExampleLemmas.{alone, apart, differs, opened, no_projection_at_one, no_projection_refuted_at_one}

-- `impl<T> Trait<i32> for Vec<T>` gives it with the arguments of the other impl, in which the definition stands
i32_gives :
    ImplGives plainly (level plainly 1) (record { item = assoc_item; trait_params = 2; args = asked_args })
    (alias_of (projection 6) asked_args) trait_of_i32_for_vec three
unfolding opened
i32_gives = (
  u32_ty ∷ [],
  (refl, fits-i32 1, tt),
  tt,
  (
    u32_ty ∷ i32_ty ∷ u64_ty ∷ [],
    (
      u32_ty ∷ i32_ty ∷ [],
      subst (λ hs. Fits (level plainly 1) (kind.Ty ∷ kind.Ty ∷ []) (header_of trait_of_all_for_vec) (map (under (u32_ty ∷ [])) hs) (u32_ty ∷ i32_ty ∷ []))
          (sym header-i32) (fits-all 1),
      tt,
      refl,
    ),
    subst (λ t. HasHeadForm (level plainly 1) (under (u32_ty ∷ i32_ty ∷ u64_ty ∷ []) t) three) (sym value-triple) refl,
  ),
)

-- `impl<T, U> Trait<U> for Vec<T>` gives it with its own
all_gives :
    ImplGives plainly (level plainly 1) (record { item = assoc_item; trait_params = 2; args = asked_args })
    (alias_of (projection 6) asked_args) trait_of_all_for_vec three
unfolding opened
all_gives = (
  u32_ty ∷ i32_ty ∷ [],
  (refl, fits-all 1, tt),
  tt,
  (u32_ty ∷ i32_ty ∷ u64_ty ∷ [], refl, subst (λ t. HasHeadForm (level plainly 1) (under (u32_ty ∷ i32_ty ∷ u64_ty ∷ []) t) three) (sym value-triple) refl),
)

-- so `<Vec<u32> as Trait<i32>>::Assoc<u64>` is `(u32, i32, u64)`, at height 2 and not at 1
pub example-two_impls : (level plainly 2).gives (projection 6) asked_args three
unfolding opened
example-two_impls =
    let fits : (level plainly 1).through class.Misc (trait 13) (vec_of u32_ty ∷ i32_ty ∷ []) = (vec_of u32_ty, refl, inl ((u32_ty ∷ [], (refl, fits-i32 0, tt)), alone _ _ _ _ refl), tt) in
    (class.Misc, vec_of u32_ty, fits, refl, inr (inl (tt, (inl (i32_gives, alone _ _ _ _ refl), (inl i32_gives, (inl all_gives, (inr (inl tt), (inr (inl tt), tt))))), inl refl)))

pub example-two_impls_lower : (u : Tree) → (level plainly 1).gives (projection 6) asked_args u → ⊥
example-two_impls_lower = no_projection_at_one plainly (item 6) asked_args

-- no impl fits `bool`: `<bool as Trait<i32>>::Assoc<u64>` is refuted, at height 2 and not at 1
bool_clashes : (r : ImplRow) (t : Tree) → header_of r ≡ vec_of (param 0) ∷ t ∷ [] → Clashes (level plainly 0) r.params.items (header_of r) (bool_ty ∷ i32_ty ∷ [])
unfolding opened
bool_clashes r t e =
    subst (λ hs. Clashes (level plainly 0) r.params.items hs (bool_ty ∷ i32_ty ∷ [])) (sym e) (inl (inl (apart (head.Adt (adt 1) 1) head.Bool (differs tt))))

pub example-no_fit : (level plainly 2).gives_refuted (projection 6) (bool_ty ∷ i32_ty ∷ u64_ty ∷ [])
unfolding opened
example-no_fit =
    inl
    (inr (
      bool_ty,
      refl,
      (
        inl (inr (inl (bool_clashes trait_of_i32_for_vec i32_ty header-i32))),
        (inl (inr (inl (bool_clashes trait_of_all_for_vec (param 1) header-all))), (inl tt, (inl refl, tt))),
      ),
    ))

pub example-no_fit_lower : (level plainly 1).gives_refuted (projection 6) (bool_ty ∷ i32_ty ∷ u64_ty ∷ []) → ⊥
example-no_fit_lower = no_projection_refuted_at_one plainly (item 6) (bool_ty ∷ i32_ty ∷ u64_ty ∷ [])
