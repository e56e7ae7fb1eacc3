use Rattle.std.proofs.Common.{◌≡◌, map, take}
use Rattle.goal_terms.specs.Erased.{erased}
use Rattle.goal_interner.specs.TableMeaning.{tree_at}
use Rattle.goal_interner.proofs.term_table.TermTable.+same_erased.Given as goal

abbrev pub decreases-same_erased : goal.decreases-same_erased
decreases-same_erased l = l.a.0

abbrev pub invariant-loop-i : goal.invariant-loop-i
invariant-loop-i l =
    take l.i (map erased (map (tree_at l.self) l.parts)) ≡ take l.i (map erased (map (tree_at l.self) l.others))
