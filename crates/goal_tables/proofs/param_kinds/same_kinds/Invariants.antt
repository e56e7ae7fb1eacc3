use Rattle.std.proofs.Common.{◌≡◌}
use Rattle.goal_tables.proofs.KindLemmas.{kinds_from}
use Rattle.goal_tables.proofs.param_kinds.same_kinds.Given as goal

abbrev pub invariant-loop-i : goal.invariant-loop-i
invariant-loop-i l = kinds_from l.params l.kinds l.i ≡ kinds_from l.params l.kinds 0
