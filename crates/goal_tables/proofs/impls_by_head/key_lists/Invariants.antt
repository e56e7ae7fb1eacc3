use Rattle.std.proofs.Common.{◌≡◌, take}
use Rattle.std.specs.HashMap.{get}
use Rattle.goal_tables.specs.ImplsByHead.{key_of, same_key, places_at, places_of}
use Rattle.goal_tables.specs.declared.impls_by_head.ImplKey.{ImplKey}
use Rattle.goal_tables.proofs.impls_by_head.key_lists.Given as goal

abbrev pub invariant-loop-i : goal.invariant-loop-i
invariant-loop-i l = (k : ImplKey) → places_at (get same_key l.lists k) ≡ places_of (λ r. same_key (key_of r) k) (take l.i l.rows)
