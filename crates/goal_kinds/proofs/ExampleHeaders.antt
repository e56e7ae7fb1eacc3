-- The headers and values of the example impls for `Vec<T>`.
use Rattle.std.proofs.Common.{◌≡◌, ℕ, zero, suc, [], ◌∷◌, refl, sym, subst, ◌∙◌}
use Rattle.goal_terms.specs.Erased.{erased}
use Rattle.goal_terms.specs.TreeOf.{tree_of_arg, tree_of_term, tree_of_ty}
use Rattle.goal_terms.specs.declared.answers.ParamKind.TheVariants as kind
use Rattle.goal_terms.specs.declared.scalars.IntTy.TheVariants as signed
use Rattle.goal_terms.specs.declared.terms.GenericArg as arg
use Rattle.goal_terms.specs.declared.terms.Term as term
use Rattle.goal_terms.specs.declared.terms.Ty as ty
use Rattle.goal_terms.proofs.TreeLemmas.{tree_of_arg-Ty, tree_of_term-Ty, tree_of_ty-Adt, tree_of_ty-Int, tree_of_ty-Param, tree_of_ty-Tuple}
use Rattle.goal_kinds.specs.ExampleRows.{pair_for_vec, trait_of_all_for_vec, trait_of_i32_for_vec}
use Rattle.goal_kinds.specs.ExampleTables.{plainly}
use Rattle.goal_kinds.specs.ExampleTerms.{box_of, i32_ty, param, struct, struct_of, triple, tuple, u32_ty, vec_of}
use Rattle.goal_lists.specs.Headers.{Fits}
use Rattle.goal_lists.specs.Levels.{level}
use Rattle.goal_lists.specs.TraitGoals.{header_of}
use Rattle.goal_kinds.proofs.ExampleLemmas.{opened}

-- a struct with the first parameter for its argument, and a parameter
pub struct_type : (n : ℕ) → tree_of_ty (struct_of n (ty.Param 0)) ≡ struct n (param 0 ∷ [])
struct_type n = tree_of_ty-Adt _ _ ∙ (λ i. struct n ((tree_of_arg-Ty (ty.Param 0) ∙ tree_of_ty-Param 0) i ∷ []))

pub struct_arg : (n : ℕ) → tree_of_arg (arg.Ty (struct_of n (ty.Param 0))) ≡ struct n (param 0 ∷ [])
struct_arg n = tree_of_arg-Ty _ ∙ struct_type n

pub param_arg : (n : ℕ) → tree_of_arg (arg.Ty (ty.Param n)) ≡ param n
param_arg n = tree_of_arg-Ty _ ∙ tree_of_ty-Param n

pub i32_arg : tree_of_arg (arg.Ty (ty.Int signed.I32)) ≡ i32_ty
i32_arg = tree_of_arg-Ty _ ∙ tree_of_ty-Int signed.I32

-- the headers
pub header-i32 : header_of trait_of_i32_for_vec ≡ vec_of (param 0) ∷ i32_ty ∷ []
unfolding erased
header-i32 = λ i. erased (struct_arg 1 i) ∷ erased (i32_arg i) ∷ []

pub header-all : header_of trait_of_all_for_vec ≡ vec_of (param 0) ∷ param 1 ∷ []
unfolding erased
header-all = λ i. erased (struct_arg 1 i) ∷ erased (param_arg 1 i) ∷ []

pub header-pair : header_of pair_for_vec ≡ vec_of (param 0) ∷ param 0 ∷ []
unfolding erased
header-pair = λ i. erased (struct_arg 1 i) ∷ erased (param_arg 0 i) ∷ []

-- the values
pub value-triple : tree_of_term (term.Ty (triple (ty.Param 0) (ty.Param 1) (ty.Param 2))) ≡ tuple (param 0 ∷ param 1 ∷ param 2 ∷ [])
value-triple = tree_of_term-Ty _ ∙ tree_of_ty-Tuple _ ∙ (λ i. tuple (tree_of_ty-Param 0 i ∷ tree_of_ty-Param 1 i ∷ tree_of_ty-Param 2 i ∷ []))

pub value-box : tree_of_term (term.Ty (struct_of 2 (ty.Param 0))) ≡ box_of (param 0)
value-box = tree_of_term-Ty _ ∙ tree_of_ty-Adt _ _ ∙ (λ i. box_of (param_arg 0 i))

-- both impls of `Trait<i32>` fit `Vec<u32>`
pub fits-i32 : (n : ℕ) → Fits (level plainly n) (kind.Ty ∷ []) (header_of trait_of_i32_for_vec) (vec_of u32_ty ∷ i32_ty ∷ []) (u32_ty ∷ [])
unfolding opened
fits-i32 zero =
    subst (λ hs. Fits (level plainly 0) (kind.Ty ∷ []) hs (vec_of u32_ty ∷ i32_ty ∷ []) (u32_ty ∷ [])) (sym header-i32)
    (((refl, refl), tt), ((refl, ((refl, tt), tt)), ((refl, tt), tt)))
fits-i32 (suc n) =
    subst (λ hs. Fits (level plainly (suc n)) (kind.Ty ∷ []) hs (vec_of u32_ty ∷ i32_ty ∷ []) (u32_ty ∷ [])) (sym header-i32)
    (((refl, refl), tt), ((refl, ((refl, tt), tt)), ((refl, tt), tt)))

pub fits-all : (n : ℕ) → Fits (level plainly n) (kind.Ty ∷ kind.Ty ∷ []) (header_of trait_of_all_for_vec) (vec_of u32_ty ∷ i32_ty ∷ []) (u32_ty ∷ i32_ty ∷ [])
unfolding opened
fits-all zero =
    subst (λ hs. Fits (level plainly 0) (kind.Ty ∷ kind.Ty ∷ []) hs (vec_of u32_ty ∷ i32_ty ∷ []) (u32_ty ∷ i32_ty ∷ [])) (sym header-all)
    (((refl, refl), (refl, tt)), ((refl, ((refl, tt), tt)), ((refl, tt), tt)))
fits-all (suc n) =
    subst (λ hs. Fits (level plainly (suc n)) (kind.Ty ∷ kind.Ty ∷ []) hs (vec_of u32_ty ∷ i32_ty ∷ []) (u32_ty ∷ i32_ty ∷ [])) (sym header-all)
    (((refl, refl), (refl, tt)), ((refl, ((refl, tt), tt)), ((refl, tt), tt)))
