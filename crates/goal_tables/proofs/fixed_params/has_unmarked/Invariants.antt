use Rattle.std.proofs.Common.{◌≡◌}
use Rattle.goal_tables.proofs.MarkLemmas.{unmarked_from}
use Rattle.goal_tables.proofs.fixed_params.has_unmarked.Given as goal

abbrev pub invariant-loop-i : goal.invariant-loop-i
invariant-loop-i l = unmarked_from l.marks l.params l.i ≡ unmarked_from l.marks l.params 0
