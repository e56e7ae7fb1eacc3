use Rattle.std.proofs.Common.{◌≡◌, drop}
use Rattle.goal_eval.specs.HeaderWords.{is_complete}
use Rattle.goal_eval.proofs.relate.header_args.is_complete.Given as goal

abbrev pub invariant-loop-i : goal.invariant-loop-i
invariant-loop-i l = is_complete (drop l.i l.params) (drop l.i l.known) ≡ is_complete l.params l.known
