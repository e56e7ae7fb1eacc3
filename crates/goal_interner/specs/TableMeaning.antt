-- A list of nodes, as the trees that it stands for.
use Rattle.std.specs.Prelude.{◌≡◌, ℕ, ◌<◌, ◌≤◌, ◌^◌, List, [], ◌∷◌, ◌++◌, length, map, Some, slice_get, slice_index_or}
use Rattle.std.specs.List.{All}
use Rattle.goal_terms.specs.Tree.{Tree}
use Rattle.goal_terms.specs.TreeOf.{leaf}
use Rattle.goal_terms.specs.TreeWith.{tree_with}
use Rattle.goal_terms.specs.Sorts.{Fits, IsTerm}
use Rattle.goal_terms.specs.declared.heads.Head.TheVariants as head
use Rattle.goal_interner.specs.declared.term_nodes.TermId.{TermId}
use Rattle.goal_interner.specs.declared.term_nodes.TermNode.{TermNode}

-- the tree of a number
unfoldable pub tree_at : List Tree → TermId → Tree
tree_at ts id = slice_index_or ts id.0 (leaf head.Bool)

-- the numbers have trees
abbrev pub AreBelow : ℕ → List TermId → Type 0
AreBelow count ids = All (λ id. id.0 < count) ids

-- the trees so far, and then those of further nodes, whose parts stand before them
unfoldable pub trees_after : List Tree → List TermNode → List Tree
trees_after ts [] = ts
trees_after ts (n ∷ ns) = trees_after (ts ++ tree_with n.node (map (tree_at ts) n.parts.items) ∷ []) ns

-- the trees of a list of nodes
abbrev pub trees_of_nodes : List TermNode → List Tree
trees_of_nodes = trees_after []

-- a type or a constant has this number
abbrev pub HasTerm : List Tree → TermId → Type 0
HasTerm ts id = (id.0 < length ts) × IsTerm (tree_at ts id)

-- one list of trees begins with another, so each number keeps its tree
pub record Keeps (old new : List Tree) : Type 0 where
  pub longer : length old ≤ length new
  pub same : (id : TermId) → id.0 < length old → tree_at new id ≡ tree_at old id

-- a number is the only one that has this tree
abbrev pub IsOnly : List Tree → TermId → Tree → Type 0
IsOnly ts id t = (other : TermId) → other.0 < length ts → tree_at ts other ≡ t → other ≡ id

-- no two numbers have one tree
abbrev pub AreDistinct : List Tree → Type 0
AreDistinct ts = (i j : ℕ) (t : Tree) → slice_get ts i ≡ Some t → slice_get ts j ≡ Some t → i ≡ j

-- each node's parts stand before it and fit it, and no tree stands twice
pub record IsTable (ns : List TermNode) : Type 0 where
  pub earlier : (i : ℕ) (n : TermNode) → slice_get ns i ≡ Some n → AreBelow i n.parts.items
  pub fits : (i : ℕ) (n : TermNode) → slice_get ns i ≡ Some n → Fits n.node (map (tree_at (trees_of_nodes ns)) n.parts.items)
  pub distinct : AreDistinct (trees_of_nodes ns)
  pub small : length ns < 2 ^ 32
