use Rattle.std.proofs.Common.{take}
use Rattle.goal_tables.specs.SpecialSearch.{Finds}
use Rattle.goal_tables.specs.Specialized.{rows_named}
use Rattle.goal_tables.proofs.specialized.Search.add_listed.Given as goal

abbrev pub invariant-loop-i : goal.invariant-loop-i
invariant-loop-i l = Finds l.tables (rows_named l.tables (take l.i l.ids)) l.initial.self l.self
