-- What hashing a term writes.
use Rattle.std.specs.Prelude.{ℕ, List, [], ◌++◌}
use Rattle.goal_terms.specs.Tree.{Tree, Trees, node, alias, variable, none, more}
use Rattle.goal_terms.specs.declared.heads.Node.{Node}
use Rattle.goal_terms.specs.declared.heads.Node.TheVariants as nodes
use Rattle.goal_terms.specs.contracts.heads.NodeHash.TheImpl as derived

-- what hashing a node writes
unfoldable pub node_writes : Node → List (List ℕ)
node_writes n = (derived.ghosts).hash_input n

-- what hashing a term writes: its top, then its parts
unfoldable mutual
  pub tree_writes : Tree → List (List ℕ)
  tree_writes (node h ts) = node_writes (nodes.Head h) ++ row_writes ts
  tree_writes (alias k ts) = node_writes (nodes.Alias k) ++ row_writes ts
  tree_writes (variable v) = node_writes (nodes.Variable v)

  pub row_writes : Trees → List (List ℕ)
  row_writes none = []
  row_writes (more t ts) = tree_writes t ++ row_writes ts
