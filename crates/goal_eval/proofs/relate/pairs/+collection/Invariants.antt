use Rattle.std.proofs.Common.{◌+◌, ◌*◌}
use Rattle.std.specs.List.{All}
use Rattle.goal_eval.specs.Pending.{IsOpen}
use Rattle.goal_eval.proofs.PendingLemmas.{ceiling, Leaves}
use Rattle.goal_eval.proofs.relate.pairs.+collection.Given as goal

abbrev pub decreases-collect : goal.decreases-collect
decreases-collect l = 2 * l.left.0 + 1

abbrev pub decreases-collect_lists : goal.decreases-collect_lists
decreases-collect_lists l = 2 * ceiling l.left.now

abbrev pub invariant-collect_lists-loop-i : goal.invariant-collect_lists-loop-i
invariant-collect_lists-loop-i l =
    Leaves l.terms l.fn.pending l.pending l.i l.left l.right × All (IsOpen l.terms) l.pending.pairs.items
