use Rattle.std.proofs.Common.{◌≡◌, ◌++◌, take}
use Rattle.goal_eval.proofs.eval.id_lists.joined.Given as goal

abbrev pub invariant-loop-id : goal.invariant-loop-id
invariant-loop-id l = l.made.items ≡ take l.id-index l.first

abbrev pub invariant-loop-id-2 : goal.invariant-loop-id-2
invariant-loop-id-2 l = l.made.items ≡ l.first ++ take l.id-index l.second
