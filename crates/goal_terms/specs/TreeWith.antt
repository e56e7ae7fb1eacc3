-- Trees from their tops and their parts.
use Rattle.std.specs.Prelude.{List}
use Rattle.goal_terms.specs.Tree.{Tree, node, alias, variable, forest}
use Rattle.goal_terms.specs.declared.heads.Node.{Node}
use Rattle.goal_terms.specs.declared.heads.Node.TheVariants as nodes

-- the tree with a node at its top and these parts
abbrev pub tree_with : Node → List Tree → Tree
tree_with (nodes.Head h) ts = node h (forest ts)
tree_with (nodes.Alias k) ts = alias k (forest ts)
tree_with (nodes.Variable v) ts = variable v
