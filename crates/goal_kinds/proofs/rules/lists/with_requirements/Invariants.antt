use Rattle.std.proofs.Common.{◌≡◌, ◌++◌}
use Rattle.goal_kinds.specs.CandidateRules.{entries_for}
use Rattle.goal_kinds.proofs.rules.lists.with_requirements.Given as goal

abbrev pub invariant-loop-asked_for : goal.invariant-loop-asked_for
invariant-loop-asked_for l =
    (l.rule.source ≡ l.fn.rule.source)
    × (l.rule.entries.items ++ entries_for l.asked_for-iterator.rest.items ≡ l.fn.rule.entries.items ++ entries_for l.fn.requirements.items)
