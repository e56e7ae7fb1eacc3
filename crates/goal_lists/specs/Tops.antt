-- What stands at the top of a term, where rules read it.
use Rattle.std.specs.Prelude.{Option, Some, None}
use Rattle.goal_terms.specs.declared.heads.Head.TheVariants as head
use Rattle.goal_terms.specs.declared.heads.Node.{Node}
use Rattle.goal_terms.specs.declared.heads.Node.TheVariants as nodes
use Rattle.goal_terms.specs.declared.ids.AdtId.{AdtId}

-- the ADT of a type
abbrev pub adt_at : Node → Option AdtId
adt_at (nodes.Head (head.Adt a n)) = Some a
adt_at _ = None
