-- What is kept of a whole term beside its node.
use Rattle.std.specs.Prelude.{◌≡◌, ◌||◌, List, map}
use Rattle.goal_terms.specs.Tree.{Tree}
use Rattle.goal_terms.specs.NodeTests.{some_node, is_error, is_alias, is_any_infer}
use Rattle.goal_terms.specs.Occurrences.{has_error}
use Rattle.goal_interner.specs.TableMeaning.{trees_of_nodes, IsTable}
use Rattle.goal_terms.specs.declared.heads.Node.{Node}
use Rattle.goal_interner.specs.declared.term_flags.TermFlags.{TermFlags}
use Rattle.goal_interner.specs.declared.term_nodes.TermNode.{TermNode}

-- the flags of a term
abbrev pub flags_of : Tree → TermFlags
flags_of t = record { has_error = has_error t; has_alias = some_node is_alias t; has_infer = some_node is_any_infer t }

-- the flags of a node, its parts aside
abbrev pub flags_of_node : Node → TermFlags
flags_of_node n = record { has_error = is_error n; has_alias = is_alias n; has_infer = is_any_infer n }

-- the flags that one of two has
abbrev pub union : TermFlags → TermFlags → TermFlags
union f g =
    record { has_error = f.has_error || g.has_error; has_alias = f.has_alias || g.has_alias; has_infer = f.has_infer || g.has_infer }

-- nodes that make a table, and the flags of their terms in order
pub record AreFlagged (ns : List TermNode) (fs : List TermFlags) : Type 0 where
  pub table : IsTable ns
  pub flags : fs ≡ map flags_of (trees_of_nodes ns)
