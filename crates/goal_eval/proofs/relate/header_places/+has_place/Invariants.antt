use Rattle.std.proofs.Common.{◌≡◌}
use Rattle.goal_terms.specs.Tree.{tree_size}
use Rattle.goal_terms.specs.View.{tree_of_ref, trees_seen}
use Rattle.goal_terms.specs.declared.node_tests.Within.TheVariants.{OutsideAliases}
use Rattle.goal_terms.proofs.NodeTestLemmas.{some_from}
use Rattle.goal_lists.specs.Headers.{is_parameter}
use Rattle.goal_eval.proofs.relate.header_places.+has_place.Given as goal

abbrev pub decreases-has_place : goal.decreases-has_place
decreases-has_place l = tree_size (tree_of_ref l.term)

abbrev pub invariant-loop-i : goal.invariant-loop-i
invariant-loop-i l =
    some_from OutsideAliases (is_parameter l.number) (trees_seen l.parts) l.i ≡ some_from OutsideAliases (is_parameter l.number) (trees_seen l.parts) 0
