use Rattle.std.proofs.Common.{◌≡◌, take}
use Rattle.std.specs.List.{list_any}
use Rattle.goal_tables.specs.FixedParams.{inherent_has_unfixed}
use Rattle.goal_tables.proofs.fixed_params.some_inherent_has_unfixed.Given as goal

abbrev pub invariant-loop-i : goal.invariant-loop-i
invariant-loop-i l = l.some ≡ list_any inherent_has_unfixed (take l.i l.rows)
