-- Whether terms may become the same, as far as their heads and kinds say.
use Rattle.std.specs.Prelude.{◌≡◌, Bool, true, false, ◌&&◌, List, [], ◌∷◌, is_some, if◌then◌else◌}
use Rattle.std.proofs.Common.{refl}
use Rattle.goal_terms.specs.Erased.{compared_node}
use Rattle.goal_terms.specs.Kinds.{same_kind, kind_of, kind_of_head}
use Rattle.goal_terms.specs.SameTree.{same_node}
use Rattle.goal_terms.specs.Tree.{Tree, Trees, node, alias, variable, none, more, node_of, parts_of}
use Rattle.goal_terms.specs.TreeOf.{leaf}
use Rattle.goal_terms.specs.declared.compare.Regions.TheVariants.{Forgotten}
use Rattle.goal_terms.specs.declared.heads.Head.TheVariants as head
use Rattle.goal_terms.specs.declared.heads.Node.{Node}
use Rattle.goal_terms.specs.declared.heads.Node.TheVariants as nodes
use Rattle.goal_terms.specs.declared.ids.FreeId.{FreeId}
use Rattle.goal_terms.specs.declared.terms.AliasTermKind.TheVariants.{FreeTy}
use Rattle.goal_lists.specs.Headers.{parameter_of}
use Rattle.goal_lists.specs.declared.fast_reject.Parameters.{Parameters}
use Rattle.goal_lists.specs.declared.fast_reject.Parameters.TheVariants.{Rigid, Inferred}

-- whether a node stands for terms that are not known: an alias, a variable, and a parameter that is to be inferred
unfoldable pub is_open : Parameters → Node → Bool
is_open p (nodes.Alias k) = true
is_open p (nodes.Variable v) = true
is_open Rigid (nodes.Head h) = false
is_open Inferred (nodes.Head h) = is_some (parameter_of h)

-- two terms agree if at each place that both reach through the same heads the heads are the same, lifetimes aside, or one side is open and the two nodes pass a test
unfoldable mutual
  pub agree : (Node → Node → Bool) → Parameters → Tree → Tree → Bool
  agree test p (node h ts) u =
      if is_open p (node_of u) then test (nodes.Head h) (node_of u)
      else same_node (compared_node Forgotten (nodes.Head h)) (compared_node Forgotten (node_of u)) && row_agrees test p ts (parts_of u)
  agree test p (alias k ts) u = test (nodes.Alias k) (node_of u)
  agree test p (variable v) u = test (nodes.Variable v) (node_of u)

  pub row_agrees : (Node → Node → Bool) → Parameters → Trees → List Tree → Bool
  row_agrees test p none [] = true
  row_agrees test p none (u ∷ us) = false
  row_agrees test p (more t ts) [] = false
  row_agrees test p (more t ts) (u ∷ us) = agree test p t u && row_agrees test p ts us

-- the terms of two lists agree, in pairs
unfoldable pub lists_agree : (Node → Node → Bool) → Parameters → List Tree → List Tree → Bool
lists_agree test p [] [] = true
lists_agree test p [] (u ∷ us) = false
lists_agree test p (t ∷ ts) [] = false
lists_agree test p (t ∷ ts) (u ∷ us) = agree test p t u && lists_agree test p ts us

-- whether two nodes are of one kind: types, constants or lifetimes
abbrev pub have_same_kind : Node → Node → Bool
have_same_kind n m = same_kind (kind_of n) (kind_of m)

-- whether two terms may become the same: no two heads or kinds differ
abbrev pub may_unify : Parameters → Tree → Tree → Bool
may_unify = agree have_same_kind

-- whether two lists of terms may
abbrev pub lists_may_unify : Parameters → List Tree → List Tree → Bool
lists_may_unify = lists_agree have_same_kind

-- whether no two heads differ in two lists of terms, whatever the kinds of what is open
abbrev pub heads_agree : Parameters → List Tree → List Tree → Bool
heads_agree = lists_agree (λ n m. true)

-- for the examples: `[t]`
abbrev slice_of : Tree → Tree
slice_of t = node head.Slice (more t none)

-- an alias of a type may become `bool`
may_unify-alias : (i : FreeId) → may_unify Rigid (slice_of (alias (FreeTy i) none)) (slice_of (leaf head.Bool)) ≡ true
unfolding agree is_open same_node kind_of kind_of_head
may_unify-alias i = refl

-- but no constant
may_unify-kinds : (i : FreeId) → may_unify Rigid (slice_of (alias (FreeTy i) none)) (slice_of (leaf (head.Value 3))) ≡ false
unfolding agree is_open same_node kind_of kind_of_head
may_unify-kinds i = refl

-- a parameter may become `bool` where it is to be inferred
may_unify-inferred : may_unify Inferred (slice_of (leaf head.Bool)) (slice_of (leaf (head.TyParam 0))) ≡ true
unfolding agree is_open same_node kind_of kind_of_head
may_unify-inferred = refl

-- but not where it is rigid
may_unify-rigid : may_unify Rigid (slice_of (leaf head.Bool)) (slice_of (leaf (head.TyParam 0))) ≡ false
unfolding agree is_open same_node kind_of kind_of_head
may_unify-rigid = refl
