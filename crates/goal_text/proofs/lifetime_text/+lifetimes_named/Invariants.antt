use Rattle.goal_terms.specs.Tree.{tree_size}
use Rattle.goal_terms.specs.View.{tree_of_ref}
use Rattle.goal_text.proofs.lifetime_text.+lifetimes_named.Given as goal

abbrev pub decreases-lifetimes_named : goal.decreases-lifetimes_named
decreases-lifetimes_named l = tree_size (tree_of_ref l.term)
