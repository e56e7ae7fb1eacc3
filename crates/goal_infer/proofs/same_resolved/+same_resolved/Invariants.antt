use Rattle.std.proofs.Common.{◌≡◌, map, take}
use Rattle.goal_interner.specs.TableMeaning.{tree_at}
use Rattle.goal_infer.specs.Resolution.{resolved}
use Rattle.goal_infer.proofs.SameLemmas.{settled}
use Rattle.goal_infer.proofs.same_resolved.+same_resolved.Given as goal
use Rattle.goal_infer.proofs.ReplacementLemmas.{height}

abbrev pub decreases-same_resolved : goal.decreases-same_resolved
decreases-same_resolved l = height (resolved l.table.now l.state.now l.left)

abbrev pub invariant-loop-i : goal.invariant-loop-i
invariant-loop-i l =
    take l.i (map (settled l.table l.state) (map (tree_at l.table) l.parts)) ≡ take l.i (map (settled l.table l.state) (map (tree_at l.table) l.others))
