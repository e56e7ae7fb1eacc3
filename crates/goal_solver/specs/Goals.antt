-- The faults of goals, each with a fact of its own.
use Rattle.goal_terms.specs.declared.predicates.Goal.{Goal}
use Rattle.std.specs.Prelude.{◌≡◌, ◌<◌, ℕ, Bool, true, false, ◌||◌, List, [], Option, Some, None, if◌then◌else◌}
use Rattle.goal_terms.specs.declared.heads.Node.{Node}
use Rattle.goal_terms.specs.declared.predicates.Clause.{Clause}
use Rattle.goal_terms.specs.NodeTests.{is_unmade}
use Rattle.goal_terms.specs.declared.predicates.NormalizesTo.{NormalizesTo}
use Rattle.goal_terms.specs.declared.predicates.Predicate.{Predicate}
use Rattle.goal_tables.specs.Clauses.{lies_in_equation}
use Rattle.goal_tables.specs.Flaws.{is_flawed}
use Rattle.goal_tables.specs.Predicates.{lies_in_env, lies_in_predicate, normalization_of, some_in_env, some_in_equation, some_in_predicate}
use Rattle.goal_tables.specs.declared.rows.Tables.{Tables}
use Rattle.goal_tables.specs.declared.faults.TermFault.{TermFault}
use Rattle.goal_tables.specs.declared.faults.TermFault.TheVariants as lies
use Rattle.goal_solver.specs.Added.{has_goals}
use Rattle.goal_solver.specs.FreeVariables.{lacks_free_term}
use Rattle.goal_solver.specs.State.{State, kinds_of}
use Rattle.goal_solver.specs.declared.eval.goals.GoalFault.{GoalFault}
use Rattle.goal_solver.specs.declared.eval.goals.GoalFault.TheVariants.{UnknownItem, WrongArgumentCount, WrongArgumentKind, UnknownVariable, ExpectedTermNotFree, NeverConst, GoalsPending}

-- the number of a fault: of several that apply, the one of the smallest number is answered
abbrev pub number_of : GoalFault → ℕ
number_of UnknownItem = 1
number_of WrongArgumentCount = 2
number_of WrongArgumentKind = 3
number_of UnknownVariable = 4
number_of ExpectedTermNotFree = 5
number_of NeverConst = 6
number_of GoalsPending = 7

-- whether a goal asks for a term whose variable isn't free
abbrev pub wants_taken : State → Option NormalizesTo → List Clause → Bool
wants_taken s None env = false
wants_taken s (Some q) env = lacks_free_term s q env

-- what the type of a goal's predicate says of it: of faults in it, of nodes in it, and of the term that it asks for
pub record PredicateWords (P : Type 0) : Type 0 where
  pub has_fault : P → Tables → TermFault → Bool
  pub has_passing : P → (Node → Bool) → Bool
  pub normalization : P → Option NormalizesTo

-- these words, of the members that a type of predicates has
abbrev pub words_of : {P : Type 0} → (P → Tables → TermFault → Bool) → (P → (Node → Bool) → Bool) → (P → Option NormalizesTo) → PredicateWords P
words_of faulty passing asked = record { has_fault = faulty; has_passing = passing; normalization = asked }

-- those of goals of an alias's term
abbrev pub alias_term_words : PredicateWords NormalizesTo
alias_term_words = words_of (λ p t f. lies_in_equation t [] f p.alias p.term) (λ p test. some_in_equation test p.alias p.term) (λ p. Some p)

-- those of goals of any predicate
abbrev pub any_predicate_words : PredicateWords Predicate
any_predicate_words = words_of (λ p t f. lies_in_predicate t f p) (λ p test. some_in_predicate test p) normalization_of

-- whether a fault of terms lies in a goal's predicate or in its environment
abbrev pub fault_lies_in : {P : Type 0} → PredicateWords P → Tables → P → List Clause → TermFault → Bool
fault_lies_in W t p env f = W.has_fault p t f || lies_in_env t f env

-- whether something in a goal passes a test
abbrev pub some_passes_in : {P : Type 0} → PredicateWords P → (Node → Bool) → P → List Clause → Bool
some_passes_in W test p env = W.has_passing p test || some_in_env test env

-- whether a fault applies to a goal in a context
abbrev pub goal_has : {P : Type 0} → PredicateWords P → Tables → State → P → List Clause → GoalFault → Bool
goal_has W t s p env UnknownItem = fault_lies_in W t p env lies.UnknownItem
goal_has W t s p env WrongArgumentCount = fault_lies_in W t p env lies.WrongArgumentCount
goal_has W t s p env WrongArgumentKind = fault_lies_in W t p env lies.WrongArgumentKind
goal_has W t s p env UnknownVariable = some_passes_in W (is_unmade (kinds_of s)) p env
goal_has W t s p env ExpectedTermNotFree = wants_taken s (W.normalization p) env
goal_has W t s p env NeverConst = fault_lies_in W t p env lies.NeverConst
goal_has W t s p env GoalsPending = has_goals s

-- so it is asked of a goal with its environment
abbrev pub has_in_goal : {P : Type 0} → PredicateWords P → Tables → State → Goal P → GoalFault → Bool
has_in_goal W t s g = goal_has W t s g.predicate g.param_env.items

-- whether one of the first four faults applies
abbrev pub is_flawed_goal : {P : Type 0} → PredicateWords P → Tables → State → Goal P → Bool
is_flawed_goal W t s g =
    is_flawed (fault_lies_in W t g.predicate g.param_env.items) (some_passes_in W (is_unmade (kinds_of s)) g.predicate g.param_env.items)

-- the first of the first four faults, by which faults of terms lie in a goal, where one of the four applies
abbrev pub flaw_of : (TermFault → Bool) → GoalFault
flaw_of lies_in = if lies_in lies.UnknownItem then UnknownItem else (if lies_in lies.WrongArgumentCount then WrongArgumentCount else (if lies_in lies.WrongArgumentKind then WrongArgumentKind else UnknownVariable))

-- no fault applies
abbrev pub IsAcceptedBy : (GoalFault → Bool) → Type 0
IsAcceptedBy has = (f : GoalFault) → has f ≡ false

-- a fault applies, and none of a smaller number does
abbrev pub IsSmallestOf : (GoalFault → Bool) → GoalFault → Type 0
IsSmallestOf has f = (has f ≡ true) × ((g : GoalFault) → number_of g < number_of f → has g ≡ false)

-- a goal of an alias's term is one that the check accepts
abbrev pub IsAcceptedNormalization : State → NormalizesTo → List Clause → Type 0
IsAcceptedNormalization s q env = IsAcceptedBy (goal_has alias_term_words s.tables s q env)
