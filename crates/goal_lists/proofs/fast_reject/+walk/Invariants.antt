use Rattle.std.proofs.Common.{◌≡◌, ◌+◌, ◌*◌}
use Rattle.goal_terms.specs.Tree.{tree_size}
use Rattle.goal_terms.specs.View.{tree_of_ref, trees_seen}
use Rattle.goal_terms.proofs.SizeLemmas.{sizes}
use Rattle.goal_lists.specs.FastReject.{have_same_kind}
use Rattle.goal_lists.proofs.AgreeLemmas.{agree_from}
use Rattle.goal_lists.proofs.fast_reject.+walk.Given as goal

abbrev pub decreases-may_unify : goal.decreases-may_unify
decreases-may_unify l = 2 * tree_size (tree_of_ref l.left)

abbrev pub decreases-parts_may_unify : goal.decreases-parts_may_unify
decreases-parts_may_unify l = 2 * sizes (trees_seen l.left) + 1

abbrev pub invariant-parts_may_unify-loop-i : goal.invariant-parts_may_unify-loop-i
invariant-parts_may_unify-loop-i l =
    agree_from have_same_kind l.parameters (trees_seen l.left) (trees_seen l.right) l.i
    ≡ agree_from have_same_kind l.parameters (trees_seen l.left) (trees_seen l.right) 0
