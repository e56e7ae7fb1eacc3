use Rattle.std.proofs.Common.{◌+◌, ◌*◌}
use Rattle.goal_terms.specs.Tree.{tree_size}
use Rattle.goal_terms.specs.View.{tree_of_ref}
use Rattle.goal_text.proofs.text.+text.Given as goal

-- a term comes before its own parts
abbrev pub decreases-write_term : goal.decreases-write_term
decreases-write_term g l = 2 * tree_size (tree_of_ref l.term) + 1

abbrev pub decreases-write_parts : goal.decreases-write_parts
decreases-write_parts g l = 2 * tree_size (tree_of_ref l.term)
