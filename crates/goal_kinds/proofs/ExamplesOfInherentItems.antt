-- Worked examples: items of inherent impls.
use Rattle.std.proofs.Common.{◌≡◌, inl, [], ◌∷◌, refl, sym, subst, ◌∙◌}
use Rattle.goal_terms.specs.Erased.{erased}
use Rattle.goal_terms.specs.Tree.{Tree}
use Rattle.goal_terms.specs.TreeOf.{tree_of_term}
use Rattle.goal_terms.specs.declared.answers.ParamKind.TheVariants as kind
use Rattle.goal_terms.specs.declared.heads.Head.TheVariants as head
use Rattle.goal_terms.specs.declared.terms.Term as term
use Rattle.goal_terms.specs.declared.terms.Ty as ty
use Rattle.goal_terms.proofs.TreeLemmas.{tree_of_term-Ty, tree_of_ty-Param, tree_of_ty-Tuple}
use Rattle.goal_lists.specs.Aliases.{self_header}
use Rattle.goal_kinds.specs.ExampleRows.{inherent_for_vec}
use Rattle.goal_kinds.specs.ExampleTables.{plainly}
use Rattle.goal_kinds.specs.ExampleTerms.{adt, box_of, param, tuple, u32_ty, vec, vec_of}
use Rattle.goal_lists.specs.Headers.{under, Clashes, Fits}
use Rattle.goal_lists.specs.Level.{HasHeadForm}
use Rattle.goal_lists.specs.Levels.{level}
use Rattle.goal_kinds.specs.ExampleSettings.{inherent_item}
use Rattle.goal_kinds.proofs.ExampleHeaders.{struct_type}
use Rattle.goal_kinds.proofs.ExampleLemmas.{apart, differs, opened}

-- the impl's header, and the item's value
header : self_header inherent_for_vec ≡ vec_of (param 0) ∷ []
unfolding erased
header = λ i. erased (struct_type 1 i) ∷ []

value : tree_of_term (term.Ty (ty.Tuple (vec (ty.Param 0 ∷ ty.Param 0 ∷ []) tt))) ≡ tuple (param 0 ∷ param 0 ∷ [])
value = tree_of_term-Ty _ ∙ tree_of_ty-Tuple _ ∙ (λ i. tuple (tree_of_ty-Param 0 i ∷ tree_of_ty-Param 0 i ∷ []))

-- of `Vec<u32>` it is `(u32, u32)`, at height 1 and not at 0
pub example-inherent : (level plainly 1).gives inherent_item (vec_of u32_ty ∷ []) (tuple (u32_ty ∷ u32_ty ∷ []))
unfolding opened
example-inherent = (
  u32_ty ∷ [],
  subst (λ hs. Fits (level plainly 0) (kind.Ty ∷ []) hs (vec_of u32_ty ∷ []) (u32_ty ∷ [])) (sym header) (((refl, refl), tt), ((refl, ((refl, tt), tt)), tt)),
  tt,
  subst (λ t. HasHeadForm (level plainly 0) (under (u32_ty ∷ []) t) (tuple (u32_ty ∷ u32_ty ∷ []))) (sym value) refl,
)

pub example-inherent_lower : (u : Tree) → (level plainly 0).gives inherent_item (vec_of u32_ty ∷ []) u → ⊥
unfolding opened
example-inherent_lower u h = h

-- of `Box<u32>` it is refuted, at height 1 and not at 0
pub example-inherent_clashes : (level plainly 1).gives_refuted inherent_item (box_of u32_ty ∷ [])
unfolding opened
example-inherent_clashes =
    inl
    (subst (λ hs. Clashes (level plainly 0) (kind.Ty ∷ []) hs (box_of u32_ty ∷ [])) (sym header)
    (inl (inl (apart (head.Adt (adt 1) 1) (head.Adt (adt 2) 1) (differs tt)))))

pub example-inherent_clashes_lower : (level plainly 0).gives_refuted inherent_item (box_of u32_ty ∷ []) → ⊥
unfolding opened
example-inherent_clashes_lower h = h
