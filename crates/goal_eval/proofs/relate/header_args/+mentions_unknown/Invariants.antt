use Rattle.std.proofs.Common.{◌≡◌}
use Rattle.goal_terms.specs.Tree.{tree_size}
use Rattle.goal_terms.specs.View.{tree_of_ref, trees_seen}
use Rattle.goal_terms.specs.declared.node_tests.Within.TheVariants.{Everything}
use Rattle.goal_terms.proofs.NodeTestLemmas.{some_from}
use Rattle.goal_eval.specs.HeaderWords.{is_unknown}
use Rattle.goal_eval.proofs.relate.header_args.+mentions_unknown.Given as goal

abbrev pub decreases-mentions_unknown : goal.decreases-mentions_unknown
decreases-mentions_unknown l = tree_size (tree_of_ref l.term)

abbrev pub invariant-loop-i : goal.invariant-loop-i
invariant-loop-i l =
    some_from Everything (is_unknown l.known) (trees_seen l.parts) l.i ≡ some_from Everything (is_unknown l.known) (trees_seen l.parts) 0
