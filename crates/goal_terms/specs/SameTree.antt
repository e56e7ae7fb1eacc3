-- Identity of trees, as a test.
use Rattle.std.specs.Prelude.{Bool, true, false, ◌&&◌, List, [], ◌∷◌}
use Rattle.goal_terms.specs.Tree.{Tree, Trees, node, alias, variable, none, more, node_of, parts_of}
use Rattle.goal_terms.specs.declared.heads.Node.{Node}
use Rattle.goal_terms.specs.declared.heads.Node.TheVariants as nodes
use Rattle.goal_terms.specs.contracts.heads.NodePartialEq.TheImpl as derived

-- whether two nodes are the same
unfoldable pub same_node : Node → Node → Bool
same_node n m = (derived.ghosts).eq n m

-- whether two trees are identical; each tree of a row against the one of a list at its place
unfoldable mutual
  pub same_tree : Tree → Tree → Bool
  same_tree (node h ts) u = same_node (nodes.Head h) (node_of u) && same_row ts (parts_of u)
  same_tree (alias k ts) u = same_node (nodes.Alias k) (node_of u) && same_row ts (parts_of u)
  same_tree (variable v) u = same_node (nodes.Variable v) (node_of u)

  pub same_row : Trees → List Tree → Bool
  same_row none [] = true
  same_row none (u ∷ us) = false
  same_row (more t ts) [] = false
  same_row (more t ts) (u ∷ us) = same_tree t u && same_row ts us

-- whether the trees of two lists are identical, in pairs
abbrev pub all_same : List Tree → List Tree → Bool
all_same [] [] = true
all_same [] (u ∷ us) = false
all_same (t ∷ ts) [] = false
all_same (t ∷ ts) (u ∷ us) = same_tree t u && all_same ts us
