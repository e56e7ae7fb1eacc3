-- Terms with fresh lifetimes in place of the erased ones.
use Rattle.std.specs.Prelude.{◌≡◌, Bool, true, false, Option, Some}
use Rattle.goal_terms.specs.Erased.{erased}
use Rattle.goal_terms.specs.NodeTests.{some_node}
use Rattle.goal_terms.specs.Regions.{region_of}
use Rattle.goal_terms.specs.Tree.{Tree}
use Rattle.goal_terms.specs.declared.heads.Node.{Node}
use Rattle.goal_terms.specs.declared.terms.Region.{Region}
use Rattle.goal_terms.specs.declared.terms.Region.TheVariants as regions

-- whether a lifetime is there and is the erased one
abbrev pub is_erased : Option Region → Bool
is_erased (Some regions.Erased) = true
is_erased o = false

-- whether a node names the erased lifetime
unfoldable pub names_erased : Node → Bool
names_erased n = is_erased (region_of n)

-- a term, and what it is with fresh lifetimes: the same, lifetimes aside, without an erased one
pub record IsFreshened (t u : Tree) : Type 0 where
  pub same : erased u ≡ erased t
  pub none : some_node names_erased u ≡ false
