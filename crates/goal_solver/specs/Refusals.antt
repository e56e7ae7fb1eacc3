-- What refusals rest on: those of the goals that are pending, of the steps of a list of entries with inference variables, and of such a list.
use Rattle.std.specs.Prelude.{◌≡◌, ◌⊎◌, ◌<◌, ◌≤◌, ℕ, List, [], ◌∷◌, ◌++◌, length, map, Option, Some, None, slice_get, Result, Ok, Err, IfErr}
use Rattle.goal_terms.specs.Folding.{instance}
use Rattle.goal_terms.specs.Tree.{Tree}
use Rattle.goal_terms.specs.TreeOf.{trees_of, tree_of_ty, tree_of_term}
use Rattle.goal_terms.specs.declared.answers.Certainty.TheVariants as certainty
use Rattle.goal_terms.specs.declared.answers.GoalSource.{GoalSource}
use Rattle.goal_terms.specs.declared.answers.OpaqueTypeKey.{OpaqueTypeKey}
use Rattle.goal_terms.specs.declared.modes.TypingMode.{TypingMode}
use Rattle.goal_terms.specs.declared.predicates.Clause.{Clause}
use Rattle.goal_terms.specs.declared.predicates.ClauseKind.{ClauseKind}
use Rattle.goal_terms.specs.declared.predicates.Goal.{Goal}
use Rattle.goal_terms.specs.declared.predicates.Predicate.{Predicate}
use Rattle.goal_terms.specs.declared.terms.Term.{Term}
use Rattle.goal_terms.specs.declared.terms.Term.TheVariants as expected
use Rattle.goal_terms.specs.declared.terms.Ty.{Ty}
use Rattle.goal_tables.specs.Rows.{impl_of}
use Rattle.goal_kinds.specs.Rules.{MatchedHeader}
use Rattle.goal_lists.specs.RowWords.{value_in}
use Rattle.goal_kinds.specs.declared.faults.Fault.{Fault}
use Rattle.goal_kinds.specs.declared.faults.Fault.TheVariants as fault
use Rattle.goal_lists.specs.declared.lists.FirstUse.{FirstUse}
use Rattle.goal_lists.specs.declared.lists.FirstUse.TheVariants as first
use Rattle.goal_kinds.specs.declared.rules.RuleArguments.{RuleArguments}
use Rattle.goal_kinds.specs.declared.rules.RuleArguments.TheVariants as arguments
use Rattle.goal_kinds.specs.declared.rules.RuleEntry.{RuleEntry}
use Rattle.goal_kinds.specs.declared.rules.RuleEntry.TheVariants as entry
use Rattle.goal_lists.specs.declared.lists.RuleHeader.{RuleHeader}
use Rattle.goal_lists.specs.declared.lists.RuleHeader.TheVariants as header
use Rattle.goal_kinds.specs.declared.rules.RuleTerm.{RuleTerm}
use Rattle.goal_kinds.specs.declared.rules.RuleTerm.TheVariants as term
use Rattle.goal_solver.specs.AddedGoals.{IsClosedGoal, IsRefutedIn, IsPending, count_of}
use Rattle.goal_solver.specs.Answers.{IsOwed}
use Rattle.goal_solver.specs.Equating.{IsEquated, equation}
use Rattle.goal_solver.specs.GoingBack.{GoesBack, restored, begun, at_depth}
use Rattle.goal_solver.specs.HiddenTypes.{NormalizesArgs, RefusesArgs, EntersHidden, checked_in}
use Rattle.goal_solver.specs.OpenHeaders.{IsFollowed, StopsOpening}
use Rattle.goal_solver.specs.OpenRuns.{OpenProgress, open_start, open_header, other_header, AnswersAlone, MatchesHeader, MayOpen, RunsThrough}
use Rattle.goal_solver.specs.Binding.{StandsForNoAlias}
use Rattle.goal_solver.specs.State.{State, kinds_of}
use Rattle.goal_solver.specs.Variables.{with_variables, kind_for, fresh_args}

-- what a refusal rests on; nothing is said of another answer or fault
abbrev pub WhenRefused : {T : Type 0} → Result T Fault → Type 0 → Type 0
WhenRefused r P = IfErr r (λ f. f ≡ fault.NoSolution → P)

-- two lists of terms are refused to be equal, as `eq_args` does it: all that it says of a refusal is so, and nothing is bound
pub record RefusesEqual (env : List Clause) (ts us : List Tree) (old new : State) : Type 0 where
  pub equated : IsEquated old new (equation env ts us) (Err fault.NoSolution)
  pub undone : new ≡ restored old new
  pub back : GoesBack old new

-- a goal is refused: it is refuted if it is closed
pub record RefusesGoal (old new : State) (g : Goal Predicate) : Type 0 where
  pub refuted : (m : TypingMode) → IsOwed new m → IsClosedGoal g.predicate g.param_env.items → IsRefutedIn old m g

-- so is one of the goals at listed places
abbrev pub RefusesListed : State → State → List (GoalSource × Goal Predicate) → List ℕ → Type 0
RefusesListed old new goals places = (i : ℕ) × (p : GoalSource × Goal Predicate) × (slice_get goals i ≡ Some p) × (0 < count_of i places) × RefusesGoal old new p.1

-- or one of those that are pending
abbrev pub RefusesOne : State → State → Type 0
RefusesOne old new = (i : ℕ) × (p : GoalSource × Goal Predicate) × IsPending old i p × RefusesGoal old new p.1

-- the goals that are pending are refused, as `try_evaluate_added_goals` does it: one of them is, and what came of the others goes back
pub record RefusesPending (old new : State) : Type 0 where
  pub one : RefusesOne old new
  pub undone : new ≡ restored old new
  pub back : GoesBack old new

-- a header is refused: its terms under fresh variables can't be made equal to the given ones
abbrev pub RefusesMatch : List Clause → MatchedHeader → List Tree → State → State → Type 0
RefusesMatch env h given s u =
    RefusesEqual env (map (instance (fresh_args h.params (length (kinds_of s)))) h.terms) given (with_variables (map kind_for h.params) s) u

-- so it is only where the row and the given terms are there
abbrev pub RefusesMatchIf : List Clause → Option MatchedHeader → Option (List Tree) → State → State → Type 0
RefusesMatchIf env (Some h) (Some given) s u = RefusesMatch env h given s u
RefusesMatchIf env (Some h) None s u = ⊥
RefusesMatchIf env None o s u = ⊥

-- arguments that an entry names are refused only where they are those of a header
abbrev pub RefusesNames : List Clause → List (List Tree) → RuleArguments → State → State → Type 0
RefusesNames env named (arguments.Given args) s u = ⊥
RefusesNames env named (arguments.Header h args) s u = RefusesMatchIf env (open_header s.tables h) (Some (trees_of args.items)) s u
RefusesNames env named (arguments.OtherImpl i j n) s u = RefusesMatchIf env (open_header s.tables (header.Impl i)) (other_header (impl_of s.tables j) (slice_get named n)) s u
RefusesNames env named (arguments.Followed n own) s u = ⊥

-- an alias among a header's given terms is refused
pub record RefusesOpening (env : List Clause) (named : List (List Tree)) (a : RuleArguments) (old new : State) : Type 0 where
  pub header : RuleHeader
  pub terms : List Tree
  pub given : List Tree
  pub matches : MatchesHeader named a old header terms given
  pub followed : List Tree
  pub known : State
  pub follows : IsFollowed given old followed known
  pub stops : StopsOpening env terms followed known new

-- arguments that an entry names are refused where given terms are opened, or once they are
abbrev pub RefusesArguments : List Clause → List (List Tree) → RuleArguments → State → State → Type 0
RefusesArguments env named a s u =
    RefusesOpening env named a s u
    ⊎ ((b : RuleArguments) × (z : State) × (k : ℕ) × (k ≤ s.remaining_depth) × MayOpen env named a s b z × RefusesNames env named b (at_depth k z) (at_depth k u))

-- the head form of a term is refused for an expected one: the term stands for no alias, and the two can't be made equal
abbrev pub RefusesForm : List Clause → Tree → Tree → State → State → Type 0
RefusesForm env v t s u = StandsForNoAlias s t × RefusesEqual env (v ∷ []) (t ∷ []) s u

-- that of a row's value under earlier arguments
abbrev pub RefusesValue : List Clause → Tree → Option Tree → Option (List Tree) → State → State → Type 0
RefusesValue env v (Some t) (Some ts) s u = RefusesForm env v (instance ts t) s u
RefusesValue env v (Some t) None s u = ⊥
RefusesValue env v None o s u = ⊥

-- the term that a clause chooses is refused for an expected one: the clause is decided, and the two can't be made equal
abbrev pub RefusesChoice : List Clause → Tree → ClauseKind → Tree → Tree → State → State → Type 0
RefusesChoice env v k held refuted s u =
    ((z : State) × AnswersAlone env k s z (Ok certainty.Yes) × RefusesEqual env (v ∷ []) (held ∷ []) z u)
    ⊎ ((z : State) × AnswersAlone env k s z (Err fault.NoSolution) × RefusesEqual env (v ∷ []) (refuted ∷ []) z u)

-- what an entry says is refused for its expected term
abbrev pub RefusesTerm : List Clause → List (List Tree) → Tree → RuleTerm → State → State → Type 0
RefusesTerm env named v (term.AsItStands e) s u = RefusesEqual env (v ∷ []) (tree_of_term e ∷ []) s u
RefusesTerm env named v (term.Normalized e) s u = RefusesForm env v (tree_of_term e) s u
RefusesTerm env named v (term.Value w n) s u = RefusesValue env v (value_in s.tables w) (slice_get named n) s u
RefusesTerm env named v (term.ChosenBy k a b) s u = RefusesChoice env v k (tree_of_term a) (tree_of_term b) s u

-- the hidden type of an opaque type is refused: it can't be made equal to the type that was entered, or to the type that type checking found
abbrev pub RefusesFirst : List Clause → Tree → FirstUse → Option Tree → List Tree → State → State → Type 0
RefusesFirst env v first.Expected o ts s u = ⊥
RefusesFirst env v first.TypeChecked (Some t) ts s u = RefusesEqual env (v ∷ []) (instance ts t ∷ []) s u
RefusesFirst env v first.TypeChecked None ts s u = ⊥

abbrev pub RefusesMeeting : List Clause → Tree → FirstUse → OpaqueTypeKey → Option Ty → State → State → Type 0
RefusesMeeting env v f k (Some earlier) s u = RefusesEqual env (v ∷ []) (tree_of_ty earlier ∷ []) s u
RefusesMeeting env v f k None s u = RefusesFirst env v f (checked_in s.tables k.def_id) (trees_of k.args.items) s u

-- under its normalized arguments
abbrev pub RefusesUnder : List Clause → Tree → OpaqueTypeKey → FirstUse → List Tree → State → State → Type 0
RefusesUnder env v k f ts s u = (earlier : Option Ty) × (y : State) × EntersHidden k.def_id ts v s y earlier × RefusesMeeting env v f k earlier y u

-- or it is refuted that one of these arguments has a head form
abbrev pub RefusesHidden : List Clause → Term → OpaqueTypeKey → FirstUse → State → State → Type 0
RefusesHidden env (expected.Const e) k f s u = ⊥
RefusesHidden env (expected.Ty t) k f s u =
    RefusesArgs env k.args.items s u ⊎ ((ts : List Tree) × (z : State) × NormalizesArgs env k.args.items s (Some ts) z × RefusesUnder env (tree_of_ty t) k f ts z u)

-- the step of an entry is refused, and what is left then: only a header, an equation, a term, a hidden type, an evaluation and a rule that doesn't stand can be
unfoldable pub StepRefused : List Clause → RuleEntry → State → OpenProgress → State → Type 0
StepRefused env (entry.Arguments a) s p u = RefusesArguments env p.named a s u
StepRefused env (entry.Equation ts us) s p u = RefusesEqual env (trees_of ts.items) (trees_of us.items) s u
StepRefused env (entry.Clause g k) s p u = ⊥
StepRefused env (entry.RowClauses w n) s p u = ⊥
StepRefused env (entry.RowConditions b i n) s p u = ⊥
StepRefused env (entry.Term v e) s p u = RefusesTerm env p.named (tree_of_term v) e s u
StepRefused env (entry.HiddenType v k f) s p u = RefusesHidden env v k f s u
StepRefused env (entry.Access a) s p u = ⊥
StepRefused env (entry.DelayedFault f) s p u = ⊥
StepRefused env entry.Evaluation s p u = RefusesPending s u
StepRefused env entry.Ambiguous s p u = ⊥
StepRefused env entry.Undecided s p u = ⊥
StepRefused env entry.Refused s p u = u ≡ s

-- the steps of the entries before one are taken, in order, and the step of that one is refused
pub record StopsAtEntry (env : List Clause) (es : List RuleEntry) (old new : State) : Type 0 where
  pub before : List RuleEntry
  pub at : RuleEntry
  pub behind : List RuleEntry
  pub split : es ≡ before ++ at ∷ behind
  pub last : State
  pub progress : OpenProgress
  pub through : RunsThrough env before old open_start last progress
  pub refused : StepRefused env at last progress new

-- the steps of all entries are taken, in order, and the closing evaluation is refused
pub record StopsAtEnd (env : List Clause) (es : List RuleEntry) (old new : State) : Type 0 where
  pub last : State
  pub progress : OpenProgress
  pub through : RunsThrough env es old open_start last progress
  pub refused : RefusesPending last new

-- what a refusal of a list's run rests on: the step of an entry, or the closing evaluation
abbrev pub StopsSomewhere : List Clause → List RuleEntry → State → State → Type 0
StopsSomewhere env es old new = StopsAtEntry env es old new ⊎ StopsAtEnd env es old new

-- a list is refused: in a trial, at one of its entries or at the closing evaluation, and everything goes back then but for terms and records
pub record IsRefusedOpen (env : List Clause) (es : List RuleEntry) (old new : State) : Type 0 where
  pub stopped : State
  pub stops : StopsSomewhere env es (begun old) stopped
  pub back : new ≡ restored old stopped

-- so it is of the hidden type of an opaque type
abbrev pub RefusesFirstOf : List Clause → Term → FirstUse → OpaqueTypeKey → State → State → Type 0
RefusesFirstOf env e f key old new = RefusesFirst env (tree_of_term e) f (checked_in old.tables key.def_id) (trees_of key.args.items) old new
