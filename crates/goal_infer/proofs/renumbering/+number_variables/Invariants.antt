use Rattle.std.proofs.Common.{◌≡◌}
use Rattle.goal_interner.specs.TableMeaning.{tree_at}
use Rattle.goal_infer.specs.Renumbering.{numbered}
use Rattle.goal_infer.proofs.RenumberingLemmas.{numbered_from}
use Rattle.goal_infer.proofs.renumbering.+number_variables.Given as goal

abbrev pub decreases-number_variables : goal.decreases-number_variables
decreases-number_variables l = l.id.0

abbrev pub invariant-loop-part : goal.invariant-loop-part
invariant-loop-part l =
    numbered_from l.table l.part-items l.part-index l.numbers.items ≡ numbered (tree_at l.table l.fn.id) l.fn.numbers.items
