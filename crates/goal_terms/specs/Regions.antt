-- Which lifetime a node names.
use Rattle.std.specs.Prelude.{Option, Some, None}
use Rattle.goal_terms.specs.declared.heads.Head.TheVariants.{Ref, Dynamic, Lifetime}
use Rattle.goal_terms.specs.declared.heads.Node.{Node}
use Rattle.goal_terms.specs.declared.heads.Node.TheVariants as nodes
use Rattle.goal_terms.specs.declared.terms.Region.{Region}

-- the lifetime that a node names itself
unfoldable pub region_of : Node → Option Region
region_of (nodes.Head (Ref r m)) = Some r
region_of (nodes.Head (Dynamic n r)) = Some r
region_of (nodes.Head (Lifetime r)) = Some r
region_of _ = None
