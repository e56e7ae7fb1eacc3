use Rattle.std.proofs.Common.{◌≡◌}
use Rattle.goal_terms.specs.NodeTests.{passes}
use Rattle.goal_terms.specs.Tree.{tree_size}
use Rattle.goal_terms.specs.View.{tree_of_ref, trees_seen}
use Rattle.goal_terms.proofs.NodeTestLemmas.{some_from}
use Rattle.goal_terms.proofs.node_tests.NodeTest.+passes_within.Given as goal

abbrev pub decreases-passes_within : goal.decreases-passes_within
decreases-passes_within l = tree_size (tree_of_ref l.term)

abbrev pub invariant-loop-i : goal.invariant-loop-i
invariant-loop-i l =
    some_from l.within (passes l.self) (trees_seen l.parts) l.i ≡ some_from l.within (passes l.self) (trees_seen l.parts) 0
