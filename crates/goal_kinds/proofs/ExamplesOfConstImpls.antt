-- Worked examples: a const impl with a const condition.
use Rattle.std.proofs.Common.{◌≡◌, ◌≢◌, inl, inr, ℕ, zero, suc, List, [], ◌∷◌, true≢false, refl, sym, ap, subst, ◌∙◌}
use Rattle.goal_terms.specs.Erased.{erased}
use Rattle.goal_terms.specs.Tree.{Tree, Trees, forest, node, none}
use Rattle.goal_terms.specs.TreeOf.{tree_of_arg}
use Rattle.goal_terms.specs.declared.answers.ParamKind.TheVariants as kind
use Rattle.goal_terms.specs.declared.answers.TraitGoalProvenVia.{TraitGoalProvenVia}
use Rattle.goal_terms.specs.declared.answers.TraitGoalProvenVia.TheVariants as class
use Rattle.goal_terms.specs.declared.heads.Head.{Head}
use Rattle.goal_terms.specs.declared.heads.Head.TheVariants as head
use Rattle.goal_terms.specs.declared.predicates.BoundConstness.{BoundConstness}
use Rattle.goal_terms.specs.declared.terms.GenericArg as arg
use Rattle.goal_terms.specs.declared.terms.Ty as ty
use Rattle.goal_terms.proofs.TreeLemmas.{tree_of_arg-Ty, tree_of_ty-Adt}
use Rattle.goal_kinds.specs.ExampleTables.{analysis}
use Rattle.goal_kinds.specs.ExampleTerms.{adt, param, plain_struct, struct, trait, vec_of, z_ty}
use Rattle.goal_lists.specs.Headers.{under, AllAreKnown, Clashes, Fits, Known}
use Rattle.goal_lists.specs.Levels.{level}
use Rattle.goal_lists.specs.Premises.{PremisesRefuted, clauses_under}
use Rattle.goal_lists.specs.TraitGoals.{ImplRefuted, header_of}
use Rattle.goal_kinds.specs.ExampleSettings.{q_ty, const_tr_for_q, const_tr_for_vec, const_tables, with_const}
use Rattle.goal_kinds.proofs.ExampleHeaders.{param_arg, struct_arg}
use Rattle.goal_kinds.proofs.ExampleLemmas.{alone, apart, differs, header-z, header_clashes, number_of, only_refuted, opened}
use Rattle.goal_kinds.proofs.ExampleNodes.{rest_refuted, through_rest}
use Rattle.goal_kinds.proofs.ExamplesOfHeaders.{of_known}
use Rattle.goal_kinds.proofs.ExamplesOfImpls.{equal_leaf, fits_z}

-- the headers
header-q : header_of const_tr_for_q ≡ q_ty ∷ []
unfolding erased
header-q = λ i. erased ((tree_of_arg-Ty (plain_struct 6) ∙ tree_of_ty-Adt _ _) i) ∷ []

header-vec : header_of const_tr_for_vec ≡ vec_of (param 0) ∷ []
unfolding erased
header-vec = λ i. erased (struct_arg 1 i) ∷ []

-- `impl const Tr for Q` fits `Q`, and clashes with `Z`, as the impl for `Vec<T>` does
fits_q : (n : ℕ) → Fits (level with_const n) [] (header_of const_tr_for_q) (q_ty ∷ []) []
unfolding opened
fits_q n = subst (λ hs. Fits (level with_const n) [] hs (q_ty ∷ []) []) (sym header-q) (tt, (equal_leaf with_const n (head.Adt (adt 6) 0), tt))

not_q : (n : ℕ) (k : Head) (ts : Trees) → number_of (head.Adt (adt 6) 0) ≢ number_of k → ImplRefuted with_const.mode (level with_const n) (node k ts ∷ []) const_tr_for_q
not_q n k ts f = header_clashes with_const n const_tr_for_q (head.Adt (adt 6) 0) k none ts header-q refl (apart _ k f)

not_vec : (n : ℕ) (k : Head) (ts : Trees) → number_of (head.Adt (adt 1) 1) ≢ number_of k → ImplRefuted with_const.mode (level with_const n) (node k ts ∷ []) const_tr_for_vec
not_vec n k ts f = header_clashes with_const n const_tr_for_vec (head.Adt (adt 1) 1) k (forest (param 0 ∷ [])) ts header-vec refl (apart _ k f)

-- `impl<T> const Tr for Vec<T>` fits `Vec` of a struct
fits_vec : (n i : ℕ) → Fits (level with_const n) (kind.Ty ∷ []) (header_of const_tr_for_vec) (vec_of (struct i []) ∷ []) (struct i [] ∷ [])
unfolding opened
fits_vec zero i =
    subst (λ hs. Fits (level with_const 0) (kind.Ty ∷ []) hs (vec_of (struct i []) ∷ []) (struct i [] ∷ [])) (sym header-vec)
    (((refl, refl), tt), ((refl, ((refl, tt), tt)), tt))
fits_vec (suc n) i =
    subst (λ hs. Fits (level with_const (suc n)) (kind.Ty ∷ []) hs (vec_of (struct i []) ∷ []) (struct i [] ∷ [])) (sym header-vec)
    (((refl, refl), tt), ((refl, ((refl, tt), tt)), tt))

-- `Q: Tr` holds at height 1, and `Q: const Tr` at height 2; so does `Z: Tr`, and `Z: const Tr` is refuted
q_is_tr : (n : ℕ) → (level with_const (suc n)).through class.Misc (trait 12) (q_ty ∷ [])
unfolding opened
q_is_tr n = (q_ty, refl, inr (inl (([], (refl, fits_q n, tt)), alone _ _ _ _ refl)), tt)

q_is_const : (c : BoundConstness) → (level with_const 2).const_holds c (trait 12) (q_ty ∷ [])
unfolding opened
q_is_const c = (class.Misc, q_ty, q_is_tr 0, refl, inr (tt, inr (inl (([], refl, (refl, fits_q 1, tt), tt), alone _ _ _ _ refl))))

z_is_tr : (n : ℕ) → (level with_const (suc n)).through class.Misc (trait 12) (z_ty ∷ [])
unfolding opened
z_is_tr n = (z_ty, refl, inl (([], (refl, fits_z with_const n, tt)), alone _ _ _ _ refl), tt)

z_is_not_const : (c : BoundConstness) → (level with_const 2).const_refuted c (trait 12) (z_ty ∷ [])
unfolding opened
z_is_not_const c =
    inr (
      class.Misc,
      z_ty,
      z_is_tr 0,
      refl,
      tt,
      (
        inl (inl refl),
        (
          inl (inr (inl (not_q 1 (head.Adt (adt 5) 0) none (differs tt)))),
          (inl (inr (inl (not_vec 1 (head.Adt (adt 5) 0) none (differs tt)))), (inl tt, (inl refl, tt))),
        ),
      ),
    )

-- the where clause of the impl for `Vec<T>`, under an argument
argument_is :
    (n i : ℕ) (c : TraitGoalProvenVia)
    → (level with_const n).through c (trait 12) (struct i [] ∷ [])
    → (level with_const n).through c (trait 12) (under (struct i [] ∷ []) (tree_of_arg (arg.Ty (ty.Param 0))) ∷ [])
unfolding opened
argument_is n i c h = subst (λ t. (level with_const n).through c (trait 12) (under (struct i [] ∷ []) t ∷ [])) (sym (param_arg 0)) h

-- so does `Vec<Q>: Tr`, and `Vec<Z>: Tr`, from height 2 on
vec_is_tr :
    (n i : ℕ)
    → (level with_const (suc n)).through class.Misc (trait 12) (struct i [] ∷ [])
    → (level with_const (suc (suc n))).through class.Misc (trait 12) (vec_of (struct i []) ∷ [])
unfolding opened
vec_is_tr n i h = (
  vec_of (struct i []),
  refl,
  inr (inr (inl ((struct i [] ∷ [], (refl, fits_vec (suc n) i, ((class.Misc, argument_is (suc n) i class.Misc h), tt))), alone _ _ _ _ refl))),
  tt,
)

-- at height 1 it holds by nothing, since the where clause has no height left
vec_is_not_yet_tr : (i : ℕ) (c : TraitGoalProvenVia) → (level with_const 1).through c (trait 12) (vec_of (struct i []) ∷ []) → ⊥
unfolding opened
vec_is_not_yet_tr i c h =
    elim (through_rest const_tables analysis (level with_const 0) c (trait 12) (head.Adt (adt 1) 1) (forest (struct i [] ∷ [])) [] h).1 [
      | inl p ↦
          apart (head.Adt (adt 5) 0) (head.Adt (adt 1) 1) (differs tt)
          (subst (λ hs. Fits (level with_const 0) [] hs (vec_of (struct i []) ∷ []) p.0.0) header-z p.0.1.1).1.0.0
      | inr (inl p) ↦
          apart (head.Adt (adt 6) 0) (head.Adt (adt 1) 1) (differs tt)
          (subst (λ hs. Fits (level with_const 0) [] hs (vec_of (struct i []) ∷ []) p.0.0) header-q p.0.1.1).1.0.0
      | inr (inr (inl p)) ↦ p.0.1.2.0.1
      | inr (inr (inr (inl p))) ↦ p.0
      | inr (inr (inr (inr (inl p)))) ↦ true≢false (sym p.0)
      | inr (inr (inr (inr (inr p)))) ↦ p
    ]

-- `Vec<Q>: const Tr` holds, at height 3 and not at 2
pub example-const_impl : (c : BoundConstness) → (level with_const 3).const_holds c (trait 12) (vec_of q_ty ∷ [])
unfolding opened
example-const_impl c = (
  class.Misc,
  vec_of q_ty,
  vec_is_tr 0 6 (q_is_tr 0),
  refl,
  inr (
    tt,
    inr
        (inr
        (inl (
          (
            q_ty ∷ [],
            refl,
            (refl, fits_vec 2 6, ((class.Misc, argument_is 2 6 class.Misc (q_is_tr 1)), tt)),
            (subst (λ t. (level with_const 2).const_holds c (trait 12) (under (q_ty ∷ []) t ∷ [])) (sym (param_arg 0)) (q_is_const c), tt),
          ),
          alone _ _ _ _ refl,
        ))),
  ),
)

pub example-const_impl_lower : (c : BoundConstness) → (level with_const 2).const_holds c (trait 12) (vec_of q_ty ∷ []) → ⊥
unfolding opened
example-const_impl_lower c h = vec_is_not_yet_tr 6 h.0 h.2

-- the const condition of the impl for `Vec<T>`, under `Z`
z_condition : (c : BoundConstness) → (level with_const 2).const_refuted c (trait 12) (under (z_ty ∷ []) (tree_of_arg (arg.Ty (ty.Param 0))) ∷ [])
unfolding opened
z_condition c = subst (λ t. (level with_const 2).const_refuted c (trait 12) (under (z_ty ∷ []) t ∷ [])) (sym (param_arg 0)) (z_is_not_const c)

-- `Vec<Z>: const Tr` is refuted, at height 3 and not at 2
pub example-refuted_condition : (c : BoundConstness) → (level with_const 3).const_refuted c (trait 12) (vec_of z_ty ∷ [])
unfolding opened
example-refuted_condition c =
    inr (
      class.Misc,
      vec_of z_ty,
      vec_is_tr 0 5 (z_is_tr 0),
      refl,
      tt,
      (
        inl (inl refl),
        (
          inl (inr (inl (not_q 2 (head.Adt (adt 1) 1) _ (differs tt)))),
          (
            inl (inr (inr (z_ty ∷ [], (fits_vec 2 5).0, inl (z_condition c)))),
            (inl tt, (inl refl, tt)),
          ),
        ),
      ),
    )

-- at height 1 `Vec<Z>: Tr` isn't refuted: the parameter is known to be `Z`
z_is_known :
    (s : List Tree) → AllAreKnown (Known (level with_const 0) (kind.Ty ∷ []) (vec_of (param 0) ∷ []) (vec_of z_ty ∷ [])) s (param 0) → under s (param 0) ≡ z_ty
unfolding opened
z_is_known s known = of_known s (known 0 refl).0 (known 0 refl).1 ∙ ap (λ u. under (u ∷ []) (param 0)) (known 0 refl).2.1.1

vec_does_not_clash : Clashes (level with_const 0) (kind.Ty ∷ []) (vec_of (param 0) ∷ []) (vec_of z_ty ∷ []) → ⊥
unfolding opened
vec_does_not_clash (inl (inl p)) = p refl
vec_does_not_clash (inl (inr (inl p))) =
    let differ : (level with_const 0).unequal z_ty z_ty = subst (λ t. (level with_const 0).unequal t z_ty) (z_is_known p.0 p.1) p.2
    in elim differ [ inl q ↦ q refl | inr q ↦ q ]
vec_does_not_clash (inl (inr (inr p))) = p
vec_does_not_clash (inr p) = p

no_premise_yet : (s : List Tree) → PremisesRefuted (level with_const 0) (clauses_under s const_tr_for_vec.predicates.items) → ⊥
unfolding opened
no_premise_yet s (inl p) = p
no_premise_yet s (inr p) = p

pub example-refuted_condition_lower : (c : BoundConstness) → (level with_const 2).const_refuted c (trait 12) (vec_of z_ty ∷ []) → ⊥
unfolding opened
example-refuted_condition_lower c (inl p) =
    elim (only_refuted _ _ _ _ refl (rest_refuted const_tables analysis (level with_const 0) (trait 12) (head.Adt (adt 1) 1) (forest (z_ty ∷ [])) [] p).1.1.0) [
      | inl e ↦ true≢false e
      | inr (inl q) ↦ vec_does_not_clash (subst (λ hs. Clashes (level with_const 0) (kind.Ty ∷ []) hs (vec_of z_ty ∷ [])) header-vec q)
      | inr (inr q) ↦ no_premise_yet q.0 q.2
    ]
example-refuted_condition_lower c (inr p) = vec_is_not_yet_tr 5 p.0 p.2
