-- What two runs of one goal come to.
use Rattle.std.specs.Prelude.{◌≡◌, ◌≢◌, ◌≤◌, ℕ, true, List, Result, IfOk}
use Rattle.goal_terms.specs.Erased.{erased}
use Rattle.goal_terms.specs.TreeOf.{tree_of_term}
use Rattle.goal_terms.specs.declared.modes.TypingMode.{TypingMode}
use Rattle.goal_terms.specs.declared.predicates.Clause.{Clause}
use Rattle.goal_terms.specs.declared.predicates.Goal.{Goal}
use Rattle.goal_terms.specs.declared.predicates.Predicate.{Predicate}
use Rattle.goal_terms.specs.declared.predicates.Predicate.TheVariants as predicate
use Rattle.goal_tables.specs.declared.rows.Tables.{Tables}
use Rattle.goal_lists.specs.Answers.{whether, Answer, yes, yes_with, no, maybe, IsAnswer, decides, setting_of}
use Rattle.goal_lists.specs.Laws.{HaveSameImpls}
use Rattle.goal_lists.specs.Level.{Level}
use Rattle.goal_lists.specs.Levels.{level}
use Rattle.goal_lists.specs.Settings.{is_headline}
use Rattle.goal_kinds.specs.declared.faults.Fault.{Fault}
use Rattle.goal_solver.specs.AddedGoals.{IsClosedGoal}
use Rattle.goal_solver.specs.Answers.{is_closed_alias, level_over}
use Rattle.goal_solver.specs.Goals.{IsAcceptedBy, any_predicate_words, has_in_goal}
use Rattle.goal_solver.specs.Promises.{trait_asked, trait_question, equation_asked, const_asked, term_asked}
use Rattle.goal_solver.specs.State.{State}
use Rattle.goal_solver.specs.declared.comparison.Comparison.{Comparison}
use Rattle.goal_solver.specs.declared.comparison.Comparison.TheVariants as comparison
use Rattle.goal_solver.specs.declared.comparison.RunAnswer.{RunAnswer}
use Rattle.goal_solver.specs.declared.comparison.RunAnswer.TheVariants as run

-- what a run answers, lifetimes aside
abbrev pub answer_of : RunAnswer → Answer
answer_of run.Yes = yes
answer_of (run.YesWith t) = yes_with (erased (tree_of_term t))
answer_of run.NoSolution = no
answer_of run.Maybe = maybe

-- an answer to a predicate is right at a level; one that is ambiguous is undecided at each
abbrev pub IsAnswerTo : Level → Predicate → Answer → Type 0
IsAnswerTo L (predicate.Trait q) x = IsAnswer L (trait_question (trait_asked q)) x
IsAnswerTo L (predicate.Projection q) x = IsAnswer L (whether (equation_asked q)) x
IsAnswerTo L (predicate.HostEffect q) x = IsAnswer L (whether (const_asked q)) x
IsAnswerTo L (predicate.NormalizesTo q) x = IsAnswer L (term_asked q) x
IsAnswerTo L predicate.Ambiguous x = x ≡ maybe

-- an answer is right over tables, in a mode and at a depth
abbrev pub IsAnswerIn : Tables → TypingMode → Goal Predicate → ℕ → Answer → Type 0
IsAnswerIn t m g n x = IsAnswerTo (level (setting_of t m g.param_env.items) n) g.predicate x

-- so it is in a context
abbrev pub IsAnswerHere : State → Goal Predicate → Answer → Type 0
IsAnswerHere s g x = IsAnswerTo (level_over s s.typing_mode g.param_env.items) g.predicate x

-- what two answers come to
abbrev pub IsCompared : Answer → Answer → Comparison → Type 0
IsCompared x y comparison.Same = x ≡ y
IsCompared x y comparison.OneUndecided = decides x ≢ decides y
IsCompared x y comparison.Different = (decides x ≡ true) × (decides y ≡ true) × (x ≢ y)

-- over which tables a goal is run, and to which depth
pub record RunOver : Type 0 where
  pub tables : Tables
  pub depth : ℕ

abbrev pub over : Tables → ℕ → RunOver
over t n = record { tables = t; depth = n }

-- what two runs of a goal come to: an answer is right over the tables of each, and the two are compared
abbrev pub IsComparison : RunOver → RunOver → TypingMode → Goal Predicate → Comparison → Type 0
IsComparison a b m g c = (x y : Answer) × IsAnswerIn a.tables m g a.depth x × IsAnswerIn b.tables m g b.depth y × IsCompared x y c

-- no inference variable stands in a goal, but for the one that takes an alias's term
abbrev pub IsClosedQuestion : Predicate → List Clause → Type 0
IsClosedQuestion (predicate.Trait q) env = IsClosedGoal (predicate.Trait q) env
IsClosedQuestion (predicate.Projection q) env = IsClosedGoal (predicate.Projection q) env
IsClosedQuestion (predicate.HostEffect q) env = IsClosedGoal (predicate.HostEffect q) env
IsClosedQuestion (predicate.NormalizesTo q) env = is_closed_alias q.alias env ≡ true
IsClosedQuestion predicate.Ambiguous env = IsClosedGoal predicate.Ambiguous env

-- the check accepts a goal, in some context over the tables
abbrev pub IsAcceptedIn : State → Goal Predicate → Type 0
IsAcceptedIn s g = IsAcceptedBy (has_in_goal any_predicate_words s.tables s g)

abbrev pub IsAcceptedOver : Tables → Goal Predicate → Type 0
IsAcceptedOver t g = (s : State) × (s.tables ≡ t) × IsAcceptedIn s g

-- a goal may be run over tables, in a mode and to a depth: the mode is of the headline, and the depth is one that a context takes
pub record MayRun (t : Tables) (m : TypingMode) (g : Goal Predicate) (n : ℕ) : Type 0 where
  pub mode : is_headline m ≡ true
  pub closed : IsClosedQuestion g.predicate g.param_env.items
  pub accepted : IsAcceptedOver t g
  pub depth : n ≤ 128

-- so it may in each of two runs
abbrev pub AreComparable : RunOver → RunOver → TypingMode → Goal Predicate → Type 0
AreComparable a b m g = MayRun a.tables m g a.depth × MayRun b.tables m g b.depth

-- what is answered of two such runs is what they come to
abbrev pub ComparesExactly : RunOver → RunOver → TypingMode → Goal Predicate → Result Comparison Fault → Type 0
ComparesExactly a b m g r = AreComparable a b m g → IfOk r (IsComparison a b m g)

-- tables that differ in the order of their impls alone
abbrev pub DifferInOrder : Tables → Tables → Type 0
DifferInOrder a b = (b ≡ record a { impls = b.impls }) × HaveSameImpls a.impls.items b.impls.items

-- so it is of a goal that a headline mode answers: one without inference variables, but for the one that takes an alias's term
abbrev pub WhereAsked : State → Goal Predicate → Type 0 → Type 0
WhereAsked s g P = is_headline s.typing_mode ≡ true → IsClosedQuestion g.predicate g.param_env.items → P
