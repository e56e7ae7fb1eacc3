use Rattle.std.proofs.Common.{◌≡◌, drop}
use Rattle.goal_solver.specs.RunRules.{asked_of, asked_as}
use Rattle.goal_solver.proofs.RuleEntryLemmas.{asked_with}
use Rattle.goal_solver.proofs.eval.run_rule.asked.asked_variable.Given as goal

abbrev pub invariant-loop-entry : goal.invariant-loop-entry
invariant-loop-entry l = asked_with l.asked (asked_of (drop l.entry-index l.entries)) ≡ asked_as (asked_of l.entries)
