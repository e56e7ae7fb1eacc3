use Rattle.std.proofs.Common.{length, ◌+◌, ◌-◌}
use Rattle.goal_tables.specs.SpecialSearch.{Follows, unmarked}
use Rattle.goal_tables.proofs.specialized.Search.follow.Given as goal

abbrev pub invariant-loop-i : goal.invariant-loop-i
invariant-loop-i l = Follows l.tables l.row l.i l.self

abbrev pub decreases-loop-i : goal.decreases-loop-i
decreases-loop-i l = (length l.self.found.items - l.i) + unmarked l.self.marks.items
