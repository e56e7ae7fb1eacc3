-- What the list of a rule is answered.
use Rattle.std.specs.Prelude.{List, Result, IfOk, length}
use Rattle.goal_terms.specs.declared.answers.Response.{Response}
use Rattle.goal_terms.specs.declared.modes.TypingMode.{TypingMode}
use Rattle.goal_terms.specs.declared.predicates.Clause.{Clause}
use Rattle.goal_kinds.specs.declared.faults.Fault.{Fault}
use Rattle.goal_kinds.specs.declared.rules.Rule.{Rule}
use Rattle.goal_solver.specs.Answers.{IsOwed, level_over, IsMaybe, AnswersQuietly}
use Rattle.goal_solver.specs.Binding.{IsApplicable, CanBeListed}
use Rattle.goal_solver.specs.OpenRuns.{RunsOpen}
use Rattle.goal_solver.specs.Refusals.{WhenRefused, IsRefusedOpen}
use Rattle.goal_solver.specs.RunRules.{setting_over, asked_of, IsAskedOnce, IsRuleAnswer, IsRuleOpen, IsClosedRule}
use Rattle.goal_solver.specs.State.{State, kinds_of}

-- a closed list: what derivations no higher than the remaining depth decide of it; a term that it gives is listed and can be applied where it can be given
pub record RunsClosed (env : List Clause) (rule : Rule) (old new : State) (r : Result Response Fault) : Type 0 where
  pub sound : (m : TypingMode) → IsOwed new m → IsRuleAnswer (setting_over old m env) (level_over old m env) rule r
  pub decided : (m : TypingMode) → IsOwed new m → IsAskedOnce (asked_of rule.entries.items) → IsMaybe r → IsRuleOpen (setting_over old m env) (level_over old m env) rule
  pub quiet : AnswersQuietly (length (kinds_of old)) r
  pub applies : IfOk r (λ x. CanBeListed new x.var_values.items → IsApplicable new x)

-- another one: a trial, by one step for each entry, whose response can be applied
pub record RunsInTrial (env : List Clause) (rule : Rule) (old new : State) (r : Result Response Fault) : Type 0 where
  pub chain : IfOk r (RunsOpen env rule.entries.items old new)
  pub refused : WhenRefused r (IsRefusedOpen env rule.entries.items old new)
  pub applies : IfOk r (IsApplicable new)

-- a rule over an environment without inference variables, and one that asks for a term at most once, for a variable
abbrev pub IsClosedRun : List Clause → Rule → Type 0
IsClosedRun env rule = IsClosedRule rule.entries.items env

abbrev pub AsksOnce : Rule → Type 0
AsksOnce rule = IsAskedOnce (asked_of rule.entries.items)

-- what is answered to a rule in a context
abbrev pub IsRuleAnswerIn : State → TypingMode → List Clause → Rule → Result Response Fault → Type 0
IsRuleAnswerIn s m env rule r = IsRuleAnswer (setting_over s m env) (level_over s m env) rule r

-- and what is so where it is left undecided
abbrev pub IsOpenIn : State → TypingMode → List Clause → Rule → Type 0
IsOpenIn s m env rule = IsRuleOpen (setting_over s m env) (level_over s m env) rule
