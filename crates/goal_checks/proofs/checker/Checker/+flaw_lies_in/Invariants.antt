use Rattle.std.proofs.Common.{◌≡◌}
use Rattle.goal_terms.specs.NodeTests.{passes}
use Rattle.goal_terms.specs.Tree.{tree_size}
use Rattle.goal_terms.specs.View.{tree_of_ref, trees_seen}
use Rattle.goal_checks.proofs.FlawLemmas.{flaw_lies_from}
use Rattle.goal_checks.proofs.checker.Checker.+flaw_lies_in.Given as goal

abbrev pub decreases-flaw_lies_in : goal.decreases-flaw_lies_in
decreases-flaw_lies_in l = tree_size (tree_of_ref l.term)

abbrev pub invariant-loop-i : goal.invariant-loop-i
invariant-loop-i l = flaw_lies_from l.self (passes l.test) (trees_seen l.parts) l.i ≡ flaw_lies_from l.self (passes l.test) (trees_seen l.parts) 0
