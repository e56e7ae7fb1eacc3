-- Terms without their Rust shape.
use Rattle.std.specs.Prelude.{ℕ, suc, ◌+◌, List, [], ◌∷◌}
use Rattle.goal_terms.specs.declared.heads.Head.{Head}
use Rattle.goal_terms.specs.declared.heads.Node.{Node}
use Rattle.goal_terms.specs.declared.heads.Node.TheVariants as nodes
use Rattle.goal_terms.specs.declared.heads.Variable.{Variable}
use Rattle.goal_terms.specs.declared.terms.AliasTermKind.{AliasTermKind}

mutual
  -- a constructor with its parts, an alias with its arguments, or an inference variable
  pub data Tree : Type 0 where
    node : Head → Trees → Tree
    alias : AliasTermKind → Trees → Tree
    variable : Variable → Tree

  -- trees in a row
  pub data Trees : Type 0 where
    none : Trees
    more : Tree → Trees → Trees

-- the trees of a list, in a row
abbrev pub forest : List Tree → Trees
forest [] = none
forest (t ∷ ts) = more t (forest ts)

-- the trees of a row, as a list
abbrev pub list_of : Trees → List Tree
list_of none = []
list_of (more t ts) = t ∷ list_of ts

-- what stands at the top of a tree
abbrev pub node_of : Tree → Node
node_of (node h ts) = nodes.Head h
node_of (alias k ts) = nodes.Alias k
node_of (variable v) = nodes.Variable v

-- the parts of a constructor or the arguments of an alias
abbrev pub parts_of : Tree → List Tree
parts_of (node h ts) = list_of ts
parts_of (alias k ts) = list_of ts
parts_of (variable v) = []

-- how many nodes there are
unfoldable mutual
  pub tree_size : Tree → ℕ
  tree_size (node h ts) = suc (row_size ts)
  tree_size (alias k ts) = suc (row_size ts)
  tree_size (variable v) = 1

  pub row_size : Trees → ℕ
  row_size none = 0
  row_size (more t ts) = tree_size t + row_size ts
