use Rattle.std.proofs.Common.{◌≡◌, map, take}
use Rattle.goal_interner.specs.TableMeaning.{tree_at}
use Rattle.goal_interner.proofs.TermFlagLemmas.{flags_over}
use Rattle.goal_interner.proofs.term_table.TermTable.flags_with.Given as goal

abbrev pub invariant-loop-i : goal.invariant-loop-i
invariant-loop-i l = l.flags ≡ flags_over l.fn.node (take l.i (map (tree_at l.self) l.parts))
