use Rattle.std.proofs.Common.{take}
use Rattle.goal_tables.specs.Indexed.{AreSpecialLists}
use Rattle.goal_tables.proofs.specialized.special_lists.Given as goal

abbrev pub invariant-loop-i : goal.invariant-loop-i
invariant-loop-i l = AreSpecialLists l.tables (take l.i l.tables.impls.items) l.lists.items
