use Rattle.std.proofs.Common.{◌≡◌, take}
use Rattle.goal_lists.proofs.candidates.row_terms.arguments_of.Given as goal

abbrev pub invariant-loop-part : goal.invariant-loop-part
invariant-loop-part l = l.numbers.items ≡ take l.part-index l.parts
