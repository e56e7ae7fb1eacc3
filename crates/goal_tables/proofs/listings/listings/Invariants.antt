use Rattle.std.proofs.Common.{take}
use Rattle.goal_tables.specs.Indexed.{AreListings}
use Rattle.goal_tables.proofs.listings.listings.Given as goal

abbrev pub invariant-loop-i : goal.invariant-loop-i
invariant-loop-i l = AreListings (take l.i l.rows) l.lists.items
