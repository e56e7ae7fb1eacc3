-- Terms without inference variables.
use Rattle.std.specs.Prelude.{Bool, not}
use Rattle.goal_terms.specs.Tree.{Tree}
use Rattle.goal_terms.specs.NodeTests.{is_any_infer, some_node}

-- whether no inference variable stands in a term
unfoldable pub is_closed : Tree → Bool
is_closed t = not (some_node is_any_infer t)
