use Rattle.std.proofs.Common.{◌≡◌, length, take}
use Rattle.std.specs.List.{list_any}
use Rattle.goal_tables.specs.Specialized.{leads_back}
use Rattle.goal_tables.proofs.specialized.some_leads_back.Given as goal

abbrev pub invariant-loop-i : goal.invariant-loop-i
invariant-loop-i l = l.some ≡ list_any (λ r. leads_back l.tables (length l.tables.impls.items) r) (take l.i l.tables.impls.items)
