-- Worked examples: free aliases and opaque types.
use Rattle.std.proofs.Common.{◌≡◌, inl, inr, ℕ, [], ◌∷◌, refl, sym, ap, subst, ◌∙◌}
use Rattle.goal_terms.specs.Tree.{Tree, none}
use Rattle.goal_terms.specs.TreeOf.{tree_of_term, tree_of_ty}
use Rattle.goal_terms.specs.declared.heads.Head.TheVariants as head
use Rattle.goal_terms.specs.declared.scalars.UintTy.TheVariants as unsigned
use Rattle.goal_terms.specs.declared.terms.Term as term
use Rattle.goal_terms.specs.declared.terms.Ty as ty
use Rattle.goal_terms.proofs.TreeLemmas.{tree_of_arg-Ty, tree_of_term-Ty, tree_of_ty-Adt, tree_of_ty-Param, tree_of_ty-Uint}
use Rattle.goal_lists.specs.Builtins.{u8_ty}
use Rattle.goal_kinds.specs.ExampleTables.{plainly, revealing}
use Rattle.goal_kinds.specs.ExampleTerms.{alias_of, free, opaque, param, struct_of, trait, u32_ty, vec_of}
use Rattle.goal_lists.specs.Headers.{under}
use Rattle.goal_lists.specs.Level.{HasHeadForm, HeadFormRefuted}
use Rattle.goal_lists.specs.Levels.{level}
use Rattle.goal_kinds.proofs.ExampleLemmas.{opened, not_y, not_z, not_w, not_str}

-- the trees of the rows' types
param_tree : (n : ℕ) → tree_of_ty (ty.Param n) ≡ param n
param_tree n = tree_of_ty-Param n

vec_tree : tree_of_term (term.Ty (struct_of 1 (ty.Param 0))) ≡ vec_of (param 0)
vec_tree = tree_of_term-Ty _ ∙ tree_of_ty-Adt _ _ ∙ ap vec_of (tree_of_arg-Ty _ ∙ tree_of_ty-Param 0)

-- `type A<T> = Vec<T>`: `A<u32>` is `Vec<u32>`, at height 1 and not at 0
pub example-free_alias : (level plainly 1).gives (free 0) (u32_ty ∷ []) (vec_of u32_ty)
unfolding opened
example-free_alias = (tt, subst (λ t. HasHeadForm (level plainly 0) (under (u32_ty ∷ []) t) (vec_of u32_ty)) (sym vec_tree) refl)

pub example-free_alias_lower : (u : Tree) → (level plainly 0).gives (free 0) (u32_ty ∷ []) u → ⊥
unfolding level
example-free_alias_lower u h = h

-- no impl of `Tr` is for `u32`
pub u32_is_not_tr : (level plainly 1).trait_refuted (trait 12) (u32_ty ∷ [])
unfolding opened
u32_is_not_tr =
    inr (
      u32_ty,
      refl,
      (
        inl (not_y plainly 0 (head.Uint unsigned.U32) none tt),
        (
          inl (not_z plainly 0 (head.Uint unsigned.U32) none tt),
          (
            inl (not_w plainly 0 (head.Uint unsigned.U32) none tt),
            (
              inl (not_str plainly 0 (head.Uint unsigned.U32) none tt),
              (inl tt, (inl refl, tt)),
            ),
          ),
        ),
      ),
    )

-- `type B<T> = Vec<T> where T: Tr`: `B<u32>` is refuted, at height 2 and not at 1
pub example-refuted_clause : (level plainly 2).gives_refuted (free 1) (u32_ty ∷ [])
unfolding opened
example-refuted_clause =
    inl (inl (subst (λ t. (level plainly 1).trait_refuted (trait 12) (under (u32_ty ∷ []) t ∷ [])) (sym (tree_of_arg-Ty _ ∙ tree_of_ty-Param 0)) u32_is_not_tr))

pub example-refuted_clause_lower : (level plainly 1).gives_refuted (free 1) (u32_ty ∷ []) → ⊥
unfolding opened
example-refuted_clause_lower (inl (inl h)) = h
example-refuted_clause_lower (inl (inr h)) = h
example-refuted_clause_lower (inr h) = subst (λ t. HeadFormRefuted (level plainly 0) (under (u32_ty ∷ []) t)) vec_tree h

-- an opaque type of another crate stays as it is while bodies are checked, and is its hidden type `u8` after, each at height 1 and not at 0
pub example-opaque_kept : (level plainly 1).gives (opaque 0) [] (alias_of (opaque 0) [])
unfolding opened
example-opaque_kept = refl

pub example-opaque_kept_lower : (u : Tree) → (level plainly 0).gives (opaque 0) [] u → ⊥
unfolding level
example-opaque_kept_lower u h = h

pub example-opaque_revealed : (level revealing 1).gives (opaque 0) [] u8_ty
unfolding opened
example-opaque_revealed = subst (λ t. HasHeadForm (level revealing 0) (under [] t) u8_ty) (sym (tree_of_ty-Uint _)) refl

pub example-opaque_revealed_lower : (u : Tree) → (level revealing 0).gives (opaque 0) [] u → ⊥
unfolding level
example-opaque_revealed_lower u h = h
