-- Terms with one head.
use Rattle.goal_terms.specs.Tree.{Tree, node_of}
use Rattle.goal_terms.specs.Erased.{compared_node}
use Rattle.goal_terms.specs.declared.compare.Regions.TheVariants.{Forgotten}
use Rattle.goal_terms.specs.declared.heads.Head.TheVariants as head
use Rattle.goal_terms.specs.declared.heads.Node.{Node}

-- what stands at the top of a term, without lifetimes
abbrev pub top_of : Tree → Node
top_of t = compared_node Forgotten (node_of t)
