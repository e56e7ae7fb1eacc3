use Rattle.std.proofs.Common.{◌≡◌, drop}
use Rattle.goal_infer.specs.Undo.{unbound}
use Rattle.goal_infer.proofs.undo.unbind_all.Given as goal

abbrev pub invariant-loop-number : goal.invariant-loop-number
invariant-loop-number l = unbound (drop l.number-index l.numbers) l.variables.items ≡ unbound l.numbers l.initial.variables.items
