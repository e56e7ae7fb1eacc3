use Rattle.std.proofs.Common.{◌≡◌}
use Rattle.goal_terms.specs.Tree.{tree_size}
use Rattle.goal_terms.specs.View.{tree_of_ref, trees_seen}
use Rattle.goal_terms.proofs.WalkLemmas.{sames}
use Rattle.goal_terms.proofs.compare.+same.Given as goal

abbrev pub decreases-same : goal.decreases-same
decreases-same l = tree_size (tree_of_ref l.a)

abbrev pub invariant-loop-i : goal.invariant-loop-i
invariant-loop-i l =
    sames l.regions (trees_seen l.parts) (trees_seen l.others) l.i
    ≡ sames l.regions (trees_seen l.parts) (trees_seen l.others) 0
