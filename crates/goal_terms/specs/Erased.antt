-- Terms up to lifetimes.
use Rattle.goal_terms.specs.Tree.{Tree, Trees, node, alias, variable, none, more}
use Rattle.goal_terms.specs.declared.heads.Head.{Head}
use Rattle.goal_terms.specs.declared.heads.Head.TheVariants.{Ref, FnPtr, Dynamic, Lifetime}
use Rattle.goal_terms.specs.declared.heads.Node.{Node}
use Rattle.goal_terms.specs.declared.heads.Node.TheVariants as nodes
use Rattle.goal_terms.specs.declared.terms.Region.TheVariants as regions
use Rattle.goal_terms.specs.declared.compare.Regions as modes
use Rattle.goal_terms.specs.declared.compare.Regions.TheVariants.{Compared, Forgotten}

-- a constructor without its lifetimes and its number of bound lifetimes
abbrev pub erased_head : Head → Head
erased_head (Ref r m) = Ref regions.Erased m
erased_head (FnPtr bound inputs fn_traits) = FnPtr 0 inputs fn_traits
erased_head (Dynamic count r) = Dynamic count regions.Erased
erased_head (Lifetime r) = Lifetime regions.Erased
erased_head h = h

-- a term without lifetimes and numbers of bound lifetimes
unfoldable mutual
  pub erased : Tree → Tree
  erased (node h ts) = node (erased_head h) (erased_row ts)
  erased (alias k ts) = alias k (erased_row ts)
  erased (variable v) = variable v

  pub erased_row : Trees → Trees
  erased_row none = none
  erased_row (more t ts) = more (erased t) (erased_row ts)

-- a node as it is compared
abbrev pub compared_node : modes.Regions → Node → Node
compared_node Compared n = n
compared_node Forgotten (nodes.Head h) = nodes.Head (erased_head h)
compared_node Forgotten (nodes.Alias k) = nodes.Alias k
compared_node Forgotten (nodes.Variable v) = nodes.Variable v

-- a term as it is compared
abbrev pub compared : modes.Regions → Tree → Tree
compared Compared t = t
compared Forgotten t = erased t
