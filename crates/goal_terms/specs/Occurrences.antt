-- What occurs in a term.
use Rattle.std.specs.Prelude.{Bool}
use Rattle.goal_terms.specs.Tree.{Tree}
use Rattle.goal_terms.specs.NodeTests.{is_infer, is_error, some_node, some_node_outside_aliases}
use Rattle.goal_terms.specs.declared.heads.Variable.{Variable}

-- whether an inference variable stands anywhere in a term
unfoldable pub occurs : Variable → Tree → Bool
occurs v t = some_node (is_infer v) t

-- whether an inference variable stands in a term, and in no alias there
unfoldable pub occurs_outside_aliases : Variable → Tree → Bool
occurs_outside_aliases v t = some_node_outside_aliases (is_infer v) t

-- whether an error stands anywhere in a term
unfoldable pub has_error : Tree → Bool
has_error t = some_node is_error t
