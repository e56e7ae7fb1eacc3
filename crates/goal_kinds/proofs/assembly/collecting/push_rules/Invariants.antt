use Rattle.std.proofs.Common.{◌≡◌, ◌++◌}
use Rattle.goal_kinds.proofs.assembly.collecting.push_rules.Given as goal

abbrev pub invariant-loop-rule : goal.invariant-loop-rule
invariant-loop-rule l = l.found.items ++ l.rule-iterator.rest.items ≡ l.initial.found.items ++ l.fn.rules.items
