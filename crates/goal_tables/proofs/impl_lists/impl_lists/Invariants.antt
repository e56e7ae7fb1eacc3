use Rattle.std.proofs.Common.{◌≡◌, ℕ, map, take, Some}
use Rattle.std.specs.Prelude.{◌==◌, slice_get}
use Rattle.std.specs.HashMap.{get}
use Rattle.goal_tables.specs.Indexed.{impls_numbered, list_at}
use Rattle.goal_tables.proofs.impl_lists.impl_lists.Given as goal

abbrev pub invariant-loop-i : goal.invariant-loop-i
invariant-loop-i l = (n : ℕ) → map (slice_get l.rows) (list_at (get ◌==◌ l.lists n)) ≡ map Some (impls_numbered (take l.i l.rows) n)
