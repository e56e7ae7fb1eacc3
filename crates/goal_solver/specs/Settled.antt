-- What outcomes say of terms that may hold inference variables.
use Rattle.std.specs.Prelude.{◌≡◌, ◌≢◌, ◌⊎◌, ℕ, Bool, true, List, Result, Ok, Err}
use Rattle.goal_terms.specs.Tree.{Tree}
use Rattle.goal_terms.specs.declared.heads.Variable.{Variable}
use Rattle.goal_terms.specs.declared.modes.TypingMode.{TypingMode}
use Rattle.goal_terms.specs.declared.modes.TypingMode.TheVariants as mode
use Rattle.goal_terms.specs.declared.predicates.Clause.{Clause}
use Rattle.goal_infer.specs.ListUnification.{AllClosed, lists_are_plain}
use Rattle.goal_infer.specs.Replacement.{replaced}
use Rattle.goal_infer.specs.Unification.{IsClosed}
use Rattle.goal_lists.specs.Answers.{setting_of}
use Rattle.goal_lists.specs.Levels.{level}
use Rattle.goal_lists.specs.Settings.{Setting}
use Rattle.goal_lists.specs.Words.{Pairs}
use Rattle.goal_eval.specs.Outcomes.{RunsFor, Says, level_in}
use Rattle.goal_solver.specs.Relating.{Identifies, all_replaced, all_bound, AreClosedSides, SaysEqual}
use Rattle.goal_solver.specs.State.{State, kinds_of}
use Rattle.goal_eval.specs.declared.eval.outcomes.Setting as over
use Rattle.goal_lists.specs.declared.outcomes.Outcome.{Outcome}
use Rattle.goal_lists.specs.declared.outcomes.Outcome.TheVariants as outcome
use Rattle.goal_eval.specs.declared.eval.outcomes.Stop.{Stop}
use Rattle.goal_eval.specs.declared.eval.outcomes.Stop.TheVariants as stop

-- two terms are equal whatever stands for their variables, or can't be made identical; closed ones are compared, where that is asked for
pub record IsSettled (c : over.Setting) (opens : Bool) (n : ℕ) (t u : Tree) (o : Outcome) : Type 0 where
  pub holds : o ≡ outcome.Holds → (m : TypingMode) → RunsFor c m → (ρ : Variable → Tree) → (level_in c m n).equal (replaced ρ t) (replaced ρ u)
  pub refuted : o ≡ outcome.Refuted → (ρ : Variable → Tree) → replaced ρ t ≢ replaced ρ u
  pub closed : opens ≡ true → IsClosed t → IsClosed u → (m : TypingMode) → RunsFor c m → Says ((level_in c m n).equal t u) ((level_in c m n).unequal t u) o

-- so are two lists, in pairs
pub record AreSettled (c : over.Setting) (opens : Bool) (n : ℕ) (ts us : List Tree) (o : Outcome) : Type 0 where
  pub holds : o ≡ outcome.Holds → (m : TypingMode) → RunsFor c m → (ρ : Variable → Tree) → Pairs (level_in c m n).equal (all_replaced ρ ts) (all_replaced ρ us)
  pub refuted : o ≡ outcome.Refuted → (ρ : Variable → Tree) → Identifies ρ ts us → ⊥
  pub closed : opens ≡ true → AllClosed ts → AllClosed us → (m : TypingMode) → RunsFor c m → SaysEqual (level_in c m n) ts us o

-- so are they over one setting
pub record AreSettledAt (S : Setting) (opens : Bool) (n : ℕ) (ts us : List Tree) (o : Outcome) : Type 0 where
  pub holds : o ≡ outcome.Holds → (ρ : Variable → Tree) → Pairs (level S n).equal (all_replaced ρ ts) (all_replaced ρ us)
  pub refuted : o ≡ outcome.Refuted → (ρ : Variable → Tree) → Identifies ρ ts us → ⊥
  pub closed : opens ≡ true → AllClosed ts → AllClosed us → SaysEqual (level S n) ts us o

-- a question holds, unless memory runs out
abbrev pub HoldsWithMemory : Result Outcome Stop → Type 0
HoldsWithMemory (Ok o) = o ≡ outcome.Holds
HoldsWithMemory (Err s) = s ≡ stop.OutOfMemory

-- what is said of two lists over a setting; identical ones are equal
abbrev pub SaysSettled : Setting → Bool → ℕ → List Tree → List Tree → Outcome → Type 0
SaysSettled S opens n ts us o = (ts ≡ us → o ≡ outcome.Holds) × AreSettledAt S opens n ts us o

-- what two lists come to over a context: as above, for the modes that are owed it; closed ones below an environment without variables are compared
pub record AreSettledIn (s : State) (Owed : TypingMode → Type 0) (env : List Clause) (n : ℕ) (ts us : List Tree) (o : Outcome) : Type 0 where
  pub holds : o ≡ outcome.Holds → (m : TypingMode) → Owed m → (ρ : Variable → Tree) → Pairs (level (setting_of s.tables m env) n).equal (all_replaced ρ ts) (all_replaced ρ us)
  pub refuted : o ≡ outcome.Refuted → (ρ : Variable → Tree) → Identifies ρ ts us → ⊥
  pub closed : AreClosedSides env ts us → (m : TypingMode) → Owed m → SaysEqual (level (setting_of s.tables m env) n) ts us o

-- in coherence nothing is refuted for good
abbrev pub outcome_in : TypingMode → Outcome → Outcome
outcome_in mode.Coherence outcome.Holds = outcome.Holds
outcome_in mode.Coherence outcome.Refuted = outcome.Undecided
outcome_in mode.Coherence outcome.Undecided = outcome.Undecided
outcome_in _ o = o

-- two lists leave nothing open where they part, or are identical, bindings being followed
abbrev pub IsPlainOrSame : State → List Tree → List Tree → Type 0
IsPlainOrSame s ts us = (lists_are_plain (kinds_of s) (all_bound s ts) (all_bound s us) ≡ true) ⊎ (all_bound s ts ≡ all_bound s us)
