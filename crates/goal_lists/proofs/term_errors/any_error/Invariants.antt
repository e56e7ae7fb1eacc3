use Rattle.std.proofs.Common.{◌≡◌, false, take}
use Rattle.std.specs.List.{list_any}
use Rattle.goal_terms.specs.Occurrences.{has_error}
use Rattle.goal_lists.specs.Interned.{erased_all}
use Rattle.goal_lists.proofs.term_errors.any_error.Given as goal

abbrev pub invariant-loop-i : goal.invariant-loop-i
invariant-loop-i l = list_any has_error (take l.i (erased_all l.terms l.ids)) ≡ false
