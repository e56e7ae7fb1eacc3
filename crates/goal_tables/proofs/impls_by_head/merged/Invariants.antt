use Rattle.std.proofs.Common.{◌≡◌, ◌≤◌, ◌+◌, ◌-◌, ◌++◌, length, drop}
use Rattle.goal_tables.proofs.PlacesLemmas.{merged}
use Rattle.goal_tables.proofs.impls_by_head.merged.Given as goal

abbrev pub invariant-loop-i : goal.invariant-loop-i
invariant-loop-i l = (l.made.items ++ merged (drop l.i l.left) (drop l.j l.right) ≡ merged l.left l.right) × (l.j ≤ length l.right)

abbrev pub decreases-loop-i : goal.decreases-loop-i
decreases-loop-i l = (length l.left - l.i) + (length l.right - l.j)
