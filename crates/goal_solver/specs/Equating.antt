-- What equating two lists of terms answers.
use Rattle.std.specs.Prelude.{◌≡◌, ◌⊎◌, true, List, map, Result, IsOk}
use Rattle.goal_terms.specs.Erased.{erased}
use Rattle.goal_interner.specs.TableMeaning.{tree_at}
use Rattle.goal_terms.specs.Tree.{Tree}
use Rattle.goal_terms.specs.declared.answers.Certainty.{Certainty}
use Rattle.goal_terms.specs.declared.answers.Certainty.TheVariants as certainty
use Rattle.goal_terms.specs.declared.heads.Variable.{Variable}
use Rattle.goal_terms.specs.declared.modes.TypingMode.{TypingMode}
use Rattle.goal_terms.specs.declared.predicates.Clause.{Clause}
use Rattle.goal_interner.specs.declared.term_nodes.TermId.{TermId}
use Rattle.goal_infer.specs.ListUnification.{lists_are_plain}
use Rattle.goal_infer.specs.Replacement.{OfKinds}
use Rattle.goal_lists.specs.Words.{Pairs}
use Rattle.goal_solver.specs.Answers.{IsOwed, IsOwedBeyond, level_over}
use Rattle.goal_solver.specs.Relating.{AgreesWith, Identifies, all_replaced, all_bound, AreDefinite, AreClosedSides, IsEqualAnswer, AreUndecided, LeavesOpen, SaysYes, Refuses, all_equated, AreIdentical}
use Rattle.goal_solver.specs.State.{State, kinds_of}
use Rattle.goal_kinds.specs.declared.faults.Fault.{Fault}
use Rattle.goal_lists.specs.declared.outcomes.Outcome.{Outcome}
use Rattle.goal_lists.specs.declared.outcomes.Outcome.TheVariants as outcome

-- what is answered of lists that aren't refuted
abbrev pub certainty_of : Outcome → Certainty
certainty_of outcome.Holds = certainty.Yes
certainty_of outcome.Refuted = certainty.Maybe
certainty_of outcome.Undecided = certainty.Maybe

-- two lists of terms that are to be equal, in an environment
pub record Equation : Type 0 where
  pub environment : List Clause
  pub left : List Tree
  pub right : List Tree

abbrev pub equation : List Clause → List Tree → List Tree → Equation
equation env ts us = record { environment = env; left = ts; right = us }

-- so it is of terms by their numbers
abbrev pub equation_at : List Tree → List Clause → List TermId → List TermId → Equation
equation_at T env ls rs = equation env (map (tree_at T) ls) (map (tree_at T) rs)

-- what an answer says of two lists of terms, and of the replacements that agree with the context before and after
pub record IsEquated (old new : State) (e : Equation) (r : Result Certainty Fault) : Type 0 where
  pub sound : (m : TypingMode) → IsOwedBeyond new m → AreClosedSides e.environment (map erased e.left) (map erased e.right) → IsEqualAnswer (level_over old m e.environment) (map erased e.left) (map erased e.right) r
  pub decided : (m : TypingMode) → IsOwedBeyond new m → AreClosedSides e.environment (map erased e.left) (map erased e.right) → LeavesOpen r → AreUndecided (level_over old m e.environment) (map erased e.left) (map erased e.right)
  pub equal : (m : TypingMode) → IsOwed new m → SaysYes r → (ρ : Variable → Tree) → AgreesWith new ρ →
      Pairs (level_over old m e.environment).equal (all_replaced ρ (map erased e.left)) (all_replaced ρ (map erased e.right))
  pub never : Refuses r → (ρ : Variable → Tree) → OfKinds ρ → AgreesWith old ρ → Identifies ρ (map erased e.left) (map erased e.right) → ⊥
  pub agreed : (ρ : Variable → Tree) → AgreesWith new ρ → AgreesWith old ρ
  pub most_general : IsOk r → (ρ : Variable → Tree) → AgreesWith old ρ → Identifies ρ (map erased e.left) (map erased e.right) → AgreesWith new ρ
  pub identified : SaysYes r → AreDefinite old (map erased e.left) → AreDefinite old (map erased e.right) → (ρ : Variable → Tree) → AgreesWith new ρ → Identifies ρ (map erased e.left) (map erased e.right)
  pub plain : lists_are_plain (kinds_of old) (all_bound old (map erased e.left)) (all_bound old (map erased e.right)) ≡ true → LeavesOpen r → ⊥
  pub regions : AreIdentical e.left e.right → IsOk r → new.inference ≡ all_equated e.left e.right old.inference
  pub same : AreIdentical e.left e.right → Refuses r ⊎ LeavesOpen r → ⊥
