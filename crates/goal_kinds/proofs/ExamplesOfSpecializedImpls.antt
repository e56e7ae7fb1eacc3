-- Worked examples: an impl for `Vec<T>`, and one for `Vec<u8>` that it lists as more special.
use Rattle.std.proofs.Common.{◌≡◌, ◌≢◌, inl, inr, ℕ, zero, suc, List, [], ◌∷◌, true≢false, refl, sym, ap, subst, ◌∙◌, Vec, Global}
use Rattle.goal_terms.specs.Erased.{erased}
use Rattle.goal_terms.specs.Tree.{Tree, forest}
use Rattle.goal_terms.specs.TreeOf.{leaf, tree_of_arg}
use Rattle.goal_terms.specs.declared.answers.ParamKind.TheVariants as kind
use Rattle.goal_terms.specs.declared.answers.TraitGoalProvenVia.{TraitGoalProvenVia}
use Rattle.goal_terms.specs.declared.answers.TraitGoalProvenVia.TheVariants as class
use Rattle.goal_terms.specs.declared.heads.Head.TheVariants as head
use Rattle.goal_terms.specs.declared.ids.ImplId.{ImplId}
use Rattle.goal_terms.specs.declared.scalars.UintTy.{UintTy}
use Rattle.goal_terms.specs.declared.scalars.UintTy.TheVariants as unsigned
use Rattle.goal_terms.specs.declared.terms.GenericArg as arg
use Rattle.goal_terms.specs.declared.terms.Ty as ty
use Rattle.goal_terms.proofs.TreeLemmas.{tree_of_arg-Ty, tree_of_term-Ty, tree_of_ty-Adt, tree_of_ty-Param, tree_of_ty-Uint}
use Rattle.goal_tables.specs.Specialized.{rows_named, listed_by_all, reached}
use Rattle.goal_lists.specs.Builtins.{u8_ty}
use Rattle.goal_lists.specs.Candidates.{by_impl}
use Rattle.goal_kinds.specs.ExampleRows.{plain_item, plain_trait, with_item}
use Rattle.goal_kinds.specs.ExampleSettings.{f_alias, specialized, tr_for_vec, tr_for_vec_of_u8, two_for_vec, unspecialized, with_two_for_vec}
use Rattle.goal_kinds.specs.ExampleTables.{analysis}
use Rattle.goal_kinds.specs.ExampleTerms.{adt, alias_of, free, impl, item, param, projection, struct_of, trait, u16_ty, u32_ty, vec, vec_of}
use Rattle.goal_lists.specs.Headers.{under, Clashes, Fits}
use Rattle.goal_lists.specs.ImplTerms.{ImplGives, Projection}
use Rattle.goal_lists.specs.Level.{Level, HasHeadForm}
use Rattle.goal_lists.specs.Levels.{level}
use Rattle.goal_lists.specs.TraitGoals.{Decides, ImplHolds, ImplRefuted, PassedOver, header_of}
use Rattle.goal_lists.specs.Words.{Each}
use Rattle.goal_lists.proofs.ConsistentLemmas.{each_level_is_consistent}
use Rattle.goal_kinds.proofs.ExampleHeaders.{struct_arg}
use Rattle.goal_kinds.proofs.ExampleLemmas.{alone, no_projection_at_one, opened}
use Rattle.goal_kinds.proofs.ExampleNodes.{rest_gives, through_rest}
use Rattle.goal_lists.proofs.TermCandidateLemmas.{one_decided_term}

-- the impls that the first may list
abbrev Listed : Type 0
Listed = Vec ImplId Global

-- an unsigned number
abbrev uint : UintTy → Tree
uint w = leaf (head.Uint w)

-- the headers
header-vec : (v : Listed) → header_of (tr_for_vec v) ≡ vec_of (param 0) ∷ []
unfolding erased
header-vec v = λ i. erased (struct_arg 1 i) ∷ []

u8_arg : tree_of_arg (arg.Ty (struct_of 1 (ty.Uint unsigned.U8))) ≡ vec_of u8_ty
u8_arg = tree_of_arg-Ty _ ∙ tree_of_ty-Adt _ _ ∙ (λ i. vec_of ((tree_of_arg-Ty (ty.Uint unsigned.U8) ∙ tree_of_ty-Uint unsigned.U8) i))

header-u8 : header_of tr_for_vec_of_u8 ≡ vec_of u8_ty ∷ []
unfolding erased
header-u8 = λ i. erased (u8_arg i) ∷ []

-- the first fits `Vec` of each unsigned number, the second `Vec<u8>`; it clashes with the others
fits_vec : (v : Listed) (n : ℕ) (w : UintTy) → Fits (level (with_two_for_vec v) n) (kind.Ty ∷ []) (header_of (tr_for_vec v)) (vec_of (uint w) ∷ []) (uint w ∷ [])
unfolding opened
fits_vec v zero w =
    subst (λ hs. Fits (level (with_two_for_vec v) 0) (kind.Ty ∷ []) hs (vec_of (uint w) ∷ []) (uint w ∷ [])) (sym (header-vec v))
    (((refl, refl), tt), ((refl, ((refl, tt), tt)), tt))
fits_vec v (suc n) w =
    subst (λ hs. Fits (level (with_two_for_vec v) (suc n)) (kind.Ty ∷ []) hs (vec_of (uint w) ∷ []) (uint w ∷ [])) (sym (header-vec v))
    (((refl, refl), tt), ((refl, ((refl, tt), tt)), tt))

fits_u8 : (v : Listed) (n : ℕ) → Fits (level (with_two_for_vec v) n) [] (header_of tr_for_vec_of_u8) (vec_of u8_ty ∷ []) []
unfolding opened
fits_u8 v zero = subst (λ hs. Fits (level (with_two_for_vec v) 0) [] hs (vec_of u8_ty ∷ []) []) (sym header-u8) (tt, ((refl, ((refl, tt), tt)), tt))
fits_u8 v (suc n) = subst (λ hs. Fits (level (with_two_for_vec v) (suc n)) [] hs (vec_of u8_ty ∷ []) []) (sym header-u8) (tt, ((refl, ((refl, tt), tt)), tt))

not_u8 : (v : Listed) (n : ℕ) (w : UintTy) → unsigned.U8 ≢ w → ImplRefuted (with_two_for_vec v).mode (level (with_two_for_vec v) n) (vec_of (uint w) ∷ []) tr_for_vec_of_u8
unfolding opened
not_u8 v zero w f =
    inr
    (inl (subst (λ hs. Clashes (level (with_two_for_vec v) 0) [] hs (vec_of (uint w) ∷ [])) (sym header-u8)
    (inl (inr (inl (inl (λ e. f (cc))))))))
not_u8 v (suc n) w f =
    inr
    (inl (subst (λ hs. Clashes (level (with_two_for_vec v) (suc n)) [] hs (vec_of (uint w) ∷ [])) (sym header-u8)
    (inl (inr (inl (inl (λ e. f (cc))))))))

-- the projection `<t as Tr>::A`, and what each impl gives it
abbrev of_self : Tree → Projection
of_self t = record { item = plain_item 5 12; trait_params = 1; args = t ∷ [] }

vec_gives :
    (v : Listed) (n : ℕ) (w : UintTy)
    → ImplGives (with_two_for_vec v) (level (with_two_for_vec v) n) (of_self (vec_of (uint w))) (alias_of (projection 5) (vec_of (uint w) ∷ [])) (tr_for_vec v) (uint w)
unfolding opened
vec_gives v n w = (
  uint w ∷ [],
  (refl, fits_vec v n w, tt),
  tt,
  (
    uint w ∷ [],
    refl,
    subst (λ t. HasHeadForm (level (with_two_for_vec v) n) (under (uint w ∷ []) t) (uint w)) (sym (tree_of_term-Ty _ ∙ tree_of_ty-Param 0)) refl,
  ),
)

u8_gives :
    (v : Listed) (n : ℕ)
    → ImplGives (with_two_for_vec v) (level (with_two_for_vec v) n) (of_self (vec_of u8_ty)) (alias_of (projection 5) (vec_of u8_ty ∷ [])) tr_for_vec_of_u8 u16_ty
unfolding opened
u8_gives v n = (
  [],
  (refl, fits_u8 v n, tt),
  tt,
  ([], refl, subst (λ t. HasHeadForm (level (with_two_for_vec v) n) (under [] t) u16_ty) (sym (tree_of_term-Ty _ ∙ tree_of_ty-Uint _)) refl),
)

-- a more special impl that holds is the second
passed_over_by : (L : Level) (args : List Tree) → ImplHolds L args tr_for_vec_of_u8 → PassedOver specialized L args (by_impl (tr_for_vec (vec (impl 21 ∷ []) tt)))
unfolding opened PassedOver reached rows_named
passed_over_by L args h = (0, inl h)

-- `<Vec<u8> as Tr>::A` is `u16`: the impl for `Vec<T>` is passed over, at height 2 and not at 1
pub example-passed_over : (level specialized 2).gives (projection 5) (vec_of u8_ty ∷ []) u16_ty
unfolding opened
example-passed_over =
    let listed : Listed = vec (impl 21 ∷ []) tt in
    let u8_holds : (level specialized 1).through class.Misc (trait 12) (vec_of u8_ty ∷ []) = (vec_of u8_ty, refl, inr (inl (([], (refl, fits_u8 listed 0, tt)), alone _ _ _ _ refl)), tt) in (
      class.Misc,
      vec_of u8_ty,
      u8_holds,
      refl,
      inr
          (inl (
            tt,
            (
              inr (inl (u8_gives listed 1, alone _ _ _ _ refl)),
              (
                inr (inr (passed_over_by (level specialized 1) (vec_of u8_ty ∷ []) ([], (refl, fits_u8 listed 1, tt)))),
                (inl (u8_gives listed 1), (inr (inl tt), (inr (inl tt), tt))),
              ),
            ),
            inl refl,
          )),
    )

pub example-passed_over_lower : (u : Tree) → (level specialized 1).gives (projection 5) (vec_of u8_ty ∷ []) u → ⊥
example-passed_over_lower = no_projection_at_one specialized (item 5) (vec_of u8_ty ∷ [])

-- the list leads to the second impl, and no further
reached-further : (n : ℕ) → reached specialized.tables (suc n) (tr_for_vec (vec (impl 21 ∷ []) tt)) ≡ []
unfolding reached rows_named listed_by_all
reached-further zero = refl
reached-further (suc n) = ap (listed_by_all specialized.tables) (reached-further n)

-- so the first decides where the second is refuted
refuted_at : (L : Level) (args : List Tree) → ImplRefuted specialized.mode L args tr_for_vec_of_u8 → (n : ℕ) →
    Each (ImplRefuted specialized.mode L args) (reached specialized.tables n (tr_for_vec (vec (impl 21 ∷ []) tt)))
unfolding Each reached rows_named
refuted_at L args h zero = (h, tt)
refuted_at L args h (suc n) = subst (Each (ImplRefuted specialized.mode L args)) (sym (reached-further n)) tt

decides_by : (L : Level) (args : List Tree) → ImplRefuted specialized.mode L args tr_for_vec_of_u8 → Decides specialized L args (by_impl (tr_for_vec (vec (impl 21 ∷ []) tt)))
unfolding Decides
decides_by L args h = λ n. refuted_at L args h n

-- `<Vec<u32> as Tr>::A` is `u32`, at height 2 and not at 1
pub example-decides : (level specialized 2).gives (projection 5) (vec_of u32_ty ∷ []) u32_ty
unfolding opened
example-decides =
    let listed : Listed = vec (impl 21 ∷ []) tt in
    let other : (n : ℕ) → ImplRefuted specialized.mode (level specialized n) (vec_of u32_ty ∷ []) tr_for_vec_of_u8 = λ n. not_u8 listed n unsigned.U32 (λ e. absurd (cc e)) in
    let decided : (n : ℕ) → Decides specialized (level specialized n) (vec_of u32_ty ∷ []) (by_impl (tr_for_vec listed)) = λ n. decides_by (level specialized n) (vec_of u32_ty ∷ []) (other n) in
    let u32_holds : (level specialized 1).through class.Misc (trait 12) (vec_of u32_ty ∷ []) =
    (vec_of u32_ty, refl, inl ((u32_ty ∷ [], (refl, fits_vec listed 0 unsigned.U32, tt)), decided 0), tt) in (
      class.Misc,
      vec_of u32_ty,
      u32_holds,
      refl,
      inr
          (inl (
            tt,
            (
              inl (vec_gives listed 1 unsigned.U32, decided 1),
              (inl (vec_gives listed 1 unsigned.U32), (inr (inl (inl (other 1))), (inr (inl tt), (inr (inl tt), tt)))),
            ),
            inl refl,
          )),
    )

pub example-decides_lower : (u : Tree) → (level specialized 1).gives (projection 5) (vec_of u32_ty ∷ []) u → ⊥
example-decides_lower = no_projection_at_one specialized (item 5) (vec_of u32_ty ∷ [])

-- where the first lists none, both hold for `Vec<u8>` and give other types: it has no term at any height
only_by_rest : (v : Listed) (n : ℕ) (t : Tree) (c : TraitGoalProvenVia) → (level (with_two_for_vec v) n).through c (trait 12) (vec_of t ∷ []) → c ≡ class.Misc
unfolding opened
only_by_rest v zero t c h = absurd h
only_by_rest v (suc n) t c h = (through_rest (two_for_vec v) analysis (level (with_two_for_vec v) n) c (trait 12) (head.Adt (adt 1) 1) (forest (t ∷ [])) [] h).0

pub example-unspecialized : (n : ℕ) (u : Tree) → (level unspecialized n).gives (projection 5) (vec_of u8_ty ∷ []) u → ⊥
unfolding opened
example-unspecialized zero u h = h
example-unspecialized (suc n) u h =
    let g =
    rest_gives (two_for_vec (vec [] tt)) analysis n (projection 5) (head.Adt (adt 1) 1) (forest (u8_ty ∷ [])) [] (plain_item 5 12) (with_item 5 (plain_trait 12))
    (only_by_rest (vec [] tt) n u8_ty) u h in
    let first : u8_ty ≡ u =
    one_decided_term unspecialized (level unspecialized n) (each_level_is_consistent unspecialized n) (of_self (vec_of u8_ty)) (alias_of (projection 5) (vec_of u8_ty ∷ [])) u8_ty u
    (by_impl (tr_for_vec (vec [] tt))) (vec_gives (vec [] tt) n unsigned.U8, alone _ _ _ _ refl) g.1.0 in
    let second : u16_ty ≡ u =
    one_decided_term unspecialized (level unspecialized n) (each_level_is_consistent unspecialized n) (of_self (vec_of u8_ty)) (alias_of (projection 5) (vec_of u8_ty ∷ [])) u16_ty u
    (by_impl tr_for_vec_of_u8) (u8_gives (vec [] tt) n, alone _ _ _ _ refl) g.1.1.0 in
    let same : u8_ty ≡ u16_ty = first ∙ sym second in absurd (cc same)

-- `F` is `u8`, at each height but 0, so the second fits `Vec<F>` from height 2 on
f_is_u8 : (v : Listed) (n : ℕ) → (level (with_two_for_vec v) (suc n)).gives (free 2) [] u8_ty
unfolding opened
f_is_u8 v zero = (tt, subst (λ t. HasHeadForm (level (with_two_for_vec v) 0) (under [] t) u8_ty) (sym (tree_of_term-Ty _ ∙ tree_of_ty-Uint _)) refl)
f_is_u8 v (suc n) = (tt, subst (λ t. HasHeadForm (level (with_two_for_vec v) (suc n)) (under [] t) u8_ty) (sym (tree_of_term-Ty _ ∙ tree_of_ty-Uint _)) refl)

fits_f : (v : Listed) (n : ℕ) → Fits (level (with_two_for_vec v) (suc (suc n))) [] (header_of tr_for_vec_of_u8) (vec_of f_alias ∷ []) []
unfolding opened
fits_f v n =
    subst (λ hs. Fits (level (with_two_for_vec v) (suc (suc n))) [] hs (vec_of f_alias ∷ []) []) (sym header-u8)
    (tt, ((refl, ((u8_ty, u8_ty, refl, f_is_u8 v n, inl refl), tt)), tt))

-- `<Vec<F> as Tr>::A` is `u16`, at height 4 and not at 3
pub example-special_by_alias : (level specialized 4).gives (projection 5) (vec_of f_alias ∷ []) u16_ty
unfolding opened
example-special_by_alias =
    let listed : Listed = vec (impl 21 ∷ []) tt in
    let f_holds : (level specialized 3).through class.Misc (trait 12) (vec_of f_alias ∷ []) = (vec_of f_alias, refl, inr (inl (([], (refl, fits_f listed 0, tt)), alone _ _ _ _ refl)), tt) in
    let f_gives : ImplGives specialized (level specialized 3) (of_self (vec_of f_alias)) (alias_of (projection 5) (vec_of f_alias ∷ [])) tr_for_vec_of_u8 u16_ty = (
      [],
      (refl, fits_f listed 1, tt),
      tt,
      ([], refl, subst (λ t. HasHeadForm (level specialized 3) (under [] t) u16_ty) (sym (tree_of_term-Ty _ ∙ tree_of_ty-Uint _)) refl),
    ) in (
      class.Misc,
      vec_of f_alias,
      f_holds,
      refl,
      inr
          (inl (
            tt,
            (
              inr (inl (f_gives, alone _ _ _ _ refl)),
              (
                inr (inr (passed_over_by (level specialized 3) (vec_of f_alias ∷ []) ([], (refl, fits_f listed 1, tt)))),
                (inl f_gives, (inr (inl tt), (inr (inl tt), tt))),
              ),
            ),
            inl refl,
          )),
    )

-- at height 1 the second neither fits `Vec<F>` nor clashes with it
no_fit_yet : (s : List Tree) → Fits (level specialized 1) [] (vec_of u8_ty ∷ []) (vec_of f_alias ∷ []) s → ⊥
unfolding opened
no_fit_yet s p = p.1.0.1.0.3

no_clash_yet : Clashes (level specialized 1) [] (vec_of u8_ty ∷ []) (vec_of f_alias ∷ []) → ⊥
unfolding opened
no_clash_yet (inl (inl p)) = p refl
no_clash_yet (inl (inr (inl (inl p)))) = p
no_clash_yet (inl (inr (inl (inr p)))) = p.1
no_clash_yet (inl (inr (inr p))) = p
no_clash_yet (inr p) = p

not_refuted_yet : ImplRefuted specialized.mode (level specialized 1) (vec_of f_alias ∷ []) tr_for_vec_of_u8 → ⊥
unfolding opened
not_refuted_yet (inl e) = true≢false e
not_refuted_yet (inr (inl p)) = no_clash_yet (subst (λ hs. Clashes (level specialized 1) [] hs (vec_of f_alias ∷ [])) header-u8 p)
not_refuted_yet (inr (inr p)) = p.2

-- so the first, which fits, doesn't decide
undecided_yet : Decides specialized (level specialized 1) (vec_of f_alias ∷ []) (by_impl (tr_for_vec (vec (impl 21 ∷ []) tt))) → ⊥
unfolding Decides Each reached rows_named
undecided_yet d = not_refuted_yet (d 0).0

pub example-special_by_alias_lower : (u : Tree) → (level specialized 3).gives (projection 5) (vec_of f_alias ∷ []) u → ⊥
unfolding opened
example-special_by_alias_lower u h =
    elim (through_rest specialized.tables analysis (level specialized 1) h.0 (trait 12) (head.Adt (adt 1) 1) (forest (f_alias ∷ [])) [] h.2).1 [
      | inl p ↦ undecided_yet p.1
      | inr (inl p) ↦ no_fit_yet p.0.0 (subst (λ hs. Fits (level specialized 1) [] hs (vec_of f_alias ∷ []) p.0.0) header-u8 p.0.1.1)
      | inr (inr (inl p)) ↦ p.0
      | inr (inr (inr (inl p))) ↦ true≢false (sym p.0)
      | inr (inr (inr (inr p))) ↦ p
    ]
