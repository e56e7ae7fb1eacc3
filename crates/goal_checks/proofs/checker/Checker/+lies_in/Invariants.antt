use Rattle.std.proofs.Common.{◌≡◌}
use Rattle.goal_terms.specs.Tree.{tree_size}
use Rattle.goal_terms.specs.View.{tree_of_ref, trees_seen}
use Rattle.goal_checks.specs.Params.{params_seen}
use Rattle.goal_checks.proofs.SiteLemmas.{lies_from}
use Rattle.goal_checks.proofs.checker.Checker.+lies_in.Given as goal

abbrev pub decreases-lies_in : goal.decreases-lies_in
decreases-lies_in l = tree_size (tree_of_ref l.term)

abbrev pub invariant-loop-i : goal.invariant-loop-i
invariant-loop-i l = lies_from l.self (params_seen l.params) l.fault (trees_seen l.parts) l.i ≡ lies_from l.self (params_seen l.params) l.fault (trees_seen l.parts) 0
