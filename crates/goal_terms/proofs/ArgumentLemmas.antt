-- The argument that stands for a parameter.
use Rattle.std.proofs.Common.{◌≡◌, ℕ, zero, suc, List, [], ◌∷◌, length, map, get_or, ◌<◌, Option, Some, None, refl, sym, ap, ◌∙◌, ◌≤◌, arith}
use Rattle.std.specs.Prelude.{if◌then◌else◌}
use Rattle.std.proofs.lemmas.List.{drop-map, drop_all}
use Rattle.goal_terms.specs.Folding.{argument_of}
use Rattle.goal_terms.specs.Kinds.{kind_of, kind_of_head, same_kind}
use Rattle.goal_terms.specs.Tree.{Tree, node_of}
use Rattle.goal_terms.specs.TreeOf.{leaf, tree_of_ty, tree_of_const, tree_of_arg}
use Rattle.goal_terms.specs.declared.answers.ParamKind.{ParamKind}
use Rattle.goal_terms.specs.declared.answers.ParamKind.TheVariants as kind
use Rattle.goal_terms.specs.declared.heads.Head.TheVariants as head
use Rattle.goal_terms.specs.declared.terms.Const.{Const}
use Rattle.goal_terms.specs.declared.terms.GenericArg as arg
use Rattle.goal_terms.specs.declared.terms.GenericArg.{GenericArg}
use Rattle.goal_terms.specs.declared.terms.Region.{Region}
use Rattle.goal_terms.specs.declared.terms.Ty.{Ty}
use Rattle.goal_terms.proofs.KindLemmas.{kind_of_ty, kind_of_const}
use Rattle.goal_terms.proofs.TreeLemmas as trees

-- a tree, if it is of a kind
abbrev if_of_kind : ParamKind → ParamKind → Tree → Option Tree
if_of_kind k j t = if same_kind k j then Some t else None

argument_of-here : (args : List GenericArg) (n : ℕ) (j : ParamKind) (a b : GenericArg) → n < length args → get_or args n b ≡ a →
    argument_of (map tree_of_arg args) j n ≡ if_of_kind (kind_of (node_of (tree_of_arg a))) j (tree_of_arg a)
unfolding argument_of
argument_of-here [] n j a b h e = absurd (omega arith)
argument_of-here (x ∷ args) zero j a b h e = ap (λ y. if_of_kind (kind_of (node_of (tree_of_arg y))) j (tree_of_arg y)) e
argument_of-here (x ∷ args) (suc n) j a b h e = argument_of-here args n j a b (omega arith) e

pub argument_of-none : (args : List GenericArg) (n : ℕ) (j : ParamKind) → length args ≤ n → argument_of (map tree_of_arg args) j n ≡ None
unfolding argument_of
argument_of-none [] n j h = refl
argument_of-none (x ∷ args) zero j h = absurd (omega arith)
argument_of-none (x ∷ args) (suc n) j h = argument_of-none args n j (omega arith)

pub argument_of-ty : (args : List GenericArg) (n : ℕ) (j : ParamKind) (b : GenericArg) (t : Ty) → n < length args → b ≡ get_or args n b → b ≡ arg.Ty t →
    argument_of (map tree_of_arg args) j n ≡ if_of_kind kind.Ty j (tree_of_ty t)
argument_of-ty args n j b t h e i =
    argument_of-here args n j (arg.Ty t) b h (sym e ∙ i)
    ∙ ap (λ u. if_of_kind (kind_of (node_of u)) j u) (trees.tree_of_arg-Ty t)
    ∙ ap (λ k. if_of_kind k j (tree_of_ty t)) (kind_of_ty t)

pub argument_of-const : (args : List GenericArg) (n : ℕ) (j : ParamKind) (b : GenericArg) (c : Const) → n < length args → b ≡ get_or args n b → b ≡ arg.Const c →
    argument_of (map tree_of_arg args) j n ≡ if_of_kind kind.Const j (tree_of_const c)
argument_of-const args n j b c h e i =
    argument_of-here args n j (arg.Const c) b h (sym e ∙ i)
    ∙ ap (λ u. if_of_kind (kind_of (node_of u)) j u) (trees.tree_of_arg-Const c)
    ∙ ap (λ k. if_of_kind k j (tree_of_const c)) (kind_of_const c)

pub argument_of-lifetime : (args : List GenericArg) (n : ℕ) (j : ParamKind) (b : GenericArg) (r : Region) → n < length args → b ≡ get_or args n b → b ≡ arg.Lifetime r →
    argument_of (map tree_of_arg args) j n ≡ if_of_kind kind.Lifetime j (leaf (head.Lifetime r))
unfolding kind_of kind_of_head
argument_of-lifetime args n j b r h e i =
    argument_of-here args n j (arg.Lifetime r) b h (sym e ∙ i)
    ∙ ap (λ u. if_of_kind (kind_of (node_of u)) j u) (trees.tree_of_arg-Lifetime r)

pub ruleset arguments = (trees.tree_equations, argument_of-none, argument_of-ty, argument_of-const, argument_of-lifetime)

-- what stays of a list without its front
pub ruleset rebasing = (drop-map, drop_all)
