-- What running a list of entries with inference variables does: one step for each entry, in order, and a closing evaluation.
use Rattle.std.specs.Prelude.{◌≡◌, ◌⊎◌, ◌≤◌, Bool, true, false, List, [], ◌∷◌, ◌++◌, length, map, Option, Some, None, option_map, slice_get, Result, Ok, Err, Vec, ℕ}
use Rattle.std.specs.Global.{Global}
use Rattle.std.specs.List.{AllZip}
use Rattle.goal_terms.specs.Folding.{instance, instantiating}
use Rattle.goal_terms.specs.PredicateTrees.{PredicateTree, holds_const, tree_of_kind, tree_of_whole_clause, folded_predicate}
use Rattle.goal_terms.specs.Tree.{Tree}
use Rattle.goal_terms.specs.TreeOf.{trees_of, tree_of_ty, tree_of_term}
use Rattle.goal_terms.specs.declared.answers.Certainty.{Certainty}
use Rattle.goal_terms.specs.declared.answers.Certainty.TheVariants as certainty
use Rattle.goal_terms.specs.declared.answers.GoalSource.{GoalSource}
use Rattle.goal_terms.specs.declared.answers.GoalSource.TheVariants as source
use Rattle.goal_terms.specs.declared.answers.OpaqueAccess.{OpaqueAccess}
use Rattle.goal_terms.specs.declared.answers.OpaqueTypeKey.{OpaqueTypeKey}
use Rattle.goal_terms.specs.declared.answers.Response.{Response}
use Rattle.goal_terms.specs.declared.ids.OpaqueId.{OpaqueId}
use Rattle.goal_terms.specs.declared.modes.TypingMode.{TypingMode}
use Rattle.goal_terms.specs.declared.predicates.BoundConstness.{BoundConstness}
use Rattle.goal_terms.specs.declared.predicates.Clause.{Clause}
use Rattle.goal_terms.specs.declared.predicates.ClauseKind.{ClauseKind}
use Rattle.goal_terms.specs.declared.predicates.ClauseKind.TheVariants as clause
use Rattle.goal_terms.specs.declared.predicates.Goal.{Goal}
use Rattle.goal_terms.specs.declared.predicates.Predicate.{Predicate}
use Rattle.goal_terms.specs.declared.predicates.Predicate.TheVariants as predicate
use Rattle.goal_terms.specs.declared.predicates.TraitRef.{TraitRef}
use Rattle.goal_terms.specs.declared.terms.GenericArg.{GenericArg}
use Rattle.goal_terms.specs.declared.terms.Term.{Term}
use Rattle.goal_terms.specs.declared.terms.Term.TheVariants as expected
use Rattle.goal_terms.specs.declared.terms.Ty.{Ty}
use Rattle.goal_tables.specs.Rows.{impl_of, inherent_impl_of}
use Rattle.goal_tables.specs.declared.rows.ImplRow.{ImplRow}
use Rattle.goal_tables.specs.declared.rows.Tables.{Tables}
use Rattle.goal_kinds.specs.Rules.{MatchedHeader}
use Rattle.goal_lists.specs.RowWords.{clauses_in, conditions_in, value_in}
use Rattle.goal_lists.specs.Settings.{is_headline}
use Rattle.goal_kinds.specs.declared.faults.Fault.{Fault}
use Rattle.goal_kinds.specs.declared.faults.Fault.TheVariants as fault
use Rattle.goal_lists.specs.declared.lists.FirstUse.{FirstUse}
use Rattle.goal_lists.specs.declared.lists.FirstUse.TheVariants as first
use Rattle.goal_lists.specs.declared.lists.RowClauses.{RowClauses}
use Rattle.goal_lists.specs.declared.lists.RowClauses.TheVariants as clauses
use Rattle.goal_kinds.specs.declared.rules.RuleArguments.{RuleArguments}
use Rattle.goal_kinds.specs.declared.rules.RuleArguments.TheVariants as arguments
use Rattle.goal_kinds.specs.declared.rules.RuleEntry.{RuleEntry}
use Rattle.goal_kinds.specs.declared.rules.RuleEntry.TheVariants as entry
use Rattle.goal_lists.specs.declared.lists.RuleHeader.{RuleHeader}
use Rattle.goal_lists.specs.declared.lists.RuleHeader.TheVariants as header
use Rattle.goal_kinds.specs.declared.rules.RuleTerm.{RuleTerm}
use Rattle.goal_kinds.specs.declared.rules.RuleTerm.TheVariants as term
use Rattle.goal_solver.specs.Added.{has_goals, with_goals, RecordsAccess, RecordsFault}
use Rattle.goal_solver.specs.AddedGoals.{IsAnswerable, IsGoalAnswer, AllPendingTake, ArePendingAnswerable, ArePendingClosed, ArePendingUndecided, IsPendingAnswer, ChangesTaken}
use Rattle.goal_solver.specs.Answers.{IsOwed}
use Rattle.goal_solver.specs.Binding.{AddsNormalization, StandsForAlias, StandsForNoAlias}
use Rattle.goal_solver.specs.Equating.{IsEquated, equation}
use Rattle.goal_solver.specs.GoingBack.{GoesBack, restored, begun, at_depth}
use Rattle.goal_solver.specs.HiddenTypes.{NormalizesArgs, EntersHidden, bounds_in, checked_in}
use Rattle.goal_solver.specs.OpenForms.{is_sure}
use Rattle.goal_solver.specs.OpenHeaders.{IsFollowed, Opens}
use Rattle.goal_solver.specs.Relating.{ChangesRecords, LeavesOpen, SaysYes, all_bound}
use Rattle.goal_solver.specs.Responses.{ListsSinceMark, both_certain}
use Rattle.goal_solver.specs.State.{State, kinds_of}
use Rattle.goal_solver.specs.TranslatedArgs.{Asks, IsSameEnvironment}
use Rattle.goal_solver.specs.Variables.{with_variables, kind_for, fresh_args}
use Rattle.goal_solver.specs.declared.eval.run_rule.open_arguments.OpenRun.{OpenRun}
use Rattle.goal_solver.specs.declared.eval.run_rule.opened_headers.AskedMatch.{AskedMatch}
use Rattle.goal_terms.specs.Erased.{erased}
use Rattle.goal_terms.specs.View.{trees_seen}
use Rattle.goal_lists.specs.Interned.{AreIn, erased_all}
use Rattle.goal_terms.specs.declared.answers.ParamKind.{ParamKind}
use Rattle.goal_terms.specs.declared.ids.ImplId.{ImplId}
use Rattle.goal_solver.specs.declared.eval.run_rule.open_arguments.NamedArgs.{NamedArgs}

-- how far such a list was run: the arguments that were named, and how sure all entries so far are
pub record OpenProgress : Type 0 where
  pub named : List (List Tree)
  pub certainty : Certainty

-- the trees of lists of arguments
abbrev pub named_trees : List (Vec GenericArg Global) → List (List Tree)
named_trees named = map (λ (args : Vec GenericArg Global). trees_of args.items) named

abbrev pub open_progress : OpenRun → OpenProgress
open_progress r = record { named = named_trees r.named.items; certainty = r.certainty }

-- where a run begins
abbrev pub open_start : OpenProgress
open_start = record { named = []; certainty = certainty.Yes }

-- after an entry of a certainty: all are as sure as the least sure one
abbrev pub after_entry : OpenProgress → Certainty → OpenProgress
after_entry p c = record { named = p.named; certainty = both_certain p.certainty c }

-- after one that names arguments, which come last
abbrev pub after_naming : OpenProgress → List Tree → Certainty → OpenProgress
after_naming p ts c = record { named = p.named ++ ts ∷ []; certainty = both_certain p.certainty c }

-- two lists of terms are made equal, as `eq_args` does it
pub record Equates (env : List Clause) (ts us : List Tree) (old new : State) (c : Certainty) : Type 0 where
  pub equated : IsEquated old new (equation env ts us) (Ok c)
  pub alone : ChangesRecords old new
  pub back : GoesBack old new

-- the goals that are pending are evaluated, as `try_evaluate_added_goals` does it
pub record Evaluates (old new : State) (c : Certainty) : Type 0 where
  pub sound : (m : TypingMode) → IsOwed new m → ArePendingAnswerable old → IsPendingAnswer old m (Ok c)
  pub decided : (m : TypingMode) → IsOwed new m → ArePendingAnswerable old → LeavesOpen (Ok c) → ArePendingUndecided old m
  pub given : (m : TypingMode) → IsOwed new m → ArePendingAnswerable old → SaysYes (Ok c) → AllPendingTake old m new
  pub closed : ArePendingClosed old → new.inference ≡ old.inference
  pub taken : SaysYes (Ok c) → has_goals new ≡ false
  pub alone : ChangesTaken old new
  pub back : GoesBack old new

-- nothing is done, and the list is undecided from here on
abbrev pub StaysUndecided : State → Certainty → State → Type 0
StaysUndecided s c u = (u ≡ s) × (c ≡ certainty.Maybe)

-- what a clause says, as a goal's predicate
abbrev pub predicate_of : ClauseKind → Predicate
predicate_of (clause.Trait q) = predicate.Trait q
predicate_of (clause.Projection q) = predicate.Projection q
predicate_of (clause.HostEffect q) = predicate.HostEffect q

-- a goal asks, from a source and in an environment, for what a clause says
pub record IsGoalOf (from : GoalSource) (env : List Clause) (q : PredicateTree) (g : GoalSource × Goal Predicate) : Type 0 where
  pub kind : ClauseKind
  pub source : g.0 ≡ from
  pub asks : g.1.predicate ≡ predicate_of kind
  pub same : tree_of_kind kind ≡ q
  pub environment : map tree_of_whole_clause g.1.param_env.items ≡ map tree_of_whole_clause env

-- a goal for each of some clauses is added, in order, and nothing else changes
pub record AddsGoals (from : GoalSource) (env : List Clause) (qs : List PredicateTree) (old new : State) : Type 0 where
  pub added : List (GoalSource × Goal Predicate)
  pub asked : AllZip (IsGoalOf from env) qs added
  pub is : new ≡ with_goals added old

-- a header as its row has it
abbrev pub open_header : Tables → RuleHeader → Option MatchedHeader
open_header t (header.Impl i) = option_map (λ r. record { params = r.params.items; terms = trees_of r.trait_args.items }) (impl_of t i)
open_header t (header.InherentImpl i) = option_map (λ q. record { params = q.params.items; terms = tree_of_ty q.self_ty ∷ [] }) (inherent_impl_of t i)

-- a header is matched: fresh variables stand for its parameters, and are named, and its terms are made equal to given ones
pub record Matches (env : List Clause) (h : MatchedHeader) (given : List Tree) (s : State) (ts : List Tree) (c : Certainty) (u : State) : Type 0 where
  pub fresh : ts ≡ fresh_args h.params (length (kinds_of s))
  pub equates : Equates env (map (instance ts) h.terms) given (with_variables (map kind_for h.params) s) u c

-- so it is where the row and the given terms are there; else no arguments are named
abbrev pub MatchesIf : List Clause → Option MatchedHeader → Option (List Tree) → State → List Tree → Certainty → State → Type 0
MatchesIf env (Some h) (Some given) s ts c u = Matches env h given s ts c u
MatchesIf env (Some h) None s ts c u = (ts ≡ []) × StaysUndecided s c u
MatchesIf env None o s ts c u = (ts ≡ []) × StaysUndecided s c u

-- the header of an impl under arguments
abbrev pub other_header : Option ImplRow → Option (List Tree) → Option (List Tree)
other_header (Some r) (Some z) = Some (map (instance z) (trees_of r.trait_args.items))
other_header (Some r) None = None
other_header None o = None

-- earlier arguments are named, with others behind them
abbrev pub Follows : Option (List Tree) → List Tree → State → List Tree → Certainty → State → Type 0
Follows (Some z) own s ts c u = (ts ≡ z ++ own) × (u ≡ s) × (c ≡ certainty.Yes)
Follows None own s ts c u = (ts ≡ []) × StaysUndecided s c u

-- an entry names arguments
abbrev pub NamesOpen : List Clause → List (List Tree) → RuleArguments → State → List Tree → Certainty → State → Type 0
NamesOpen env named (arguments.Given args) s ts c u = (ts ≡ trees_of args.items) × (u ≡ s) × (c ≡ certainty.Yes)
NamesOpen env named (arguments.Header h args) s ts c u = MatchesIf env (open_header s.tables h) (Some (trees_of args.items)) s ts c u
NamesOpen env named (arguments.OtherImpl i j n) s ts c u =
    MatchesIf env (open_header s.tables (header.Impl i)) (other_header (impl_of s.tables j) (slice_get named n)) s ts c u
NamesOpen env named (arguments.Followed n own) s ts c u = Follows (slice_get named n) (trees_of own.items) s ts c u

-- the header that an entry matches, if it matches one, and what it is matched with
abbrev pub asked_header : Tables → List (List Tree) → RuleArguments → Option (RuleHeader × Option (List Tree))
asked_header t named (arguments.Header h args) = Some (h, Some (trees_of args.items))
asked_header t named (arguments.OtherImpl i j n) = Some (header.Impl i, other_header (impl_of t j) (slice_get named n))
asked_header t named _ = None

-- an entry matches a header of a row with given terms
pub record MatchesHeader (named : List (List Tree)) (a : RuleArguments) (s : State) (h : RuleHeader) (terms given : List Tree) : Type 0 where
  pub asked : asked_header s.tables named a ≡ Some (h, Some given)
  pub params : List ParamKind
  pub has : open_header s.tables h ≡ Some (record { params = params; terms = terms })

-- so it does for what is asked of a header with numbers for the given terms, bindings followed
pub record IsMatchOf (h : RuleHeader) (given : List Tree) (s : State) (T : List Tree) (m : AskedMatch) : Type 0 where
  pub same : m.header ≡ h
  pub params : List ParamKind
  pub has : open_header s.tables h ≡ Some (record { params = params; terms = trees_seen m.terms })
  pub within : AreIn T m.given.items
  pub follows : erased_all T m.given.items ≡ all_bound s (map erased given)

pub record IsAskedMatch (named : List (List Tree)) (a : RuleArguments) (s : State) (T : List Tree) (m : AskedMatch) : Type 0 where
  pub given : List Tree
  pub asked : asked_header s.tables named a ≡ Some (m.header, Some given)
  pub is : IsMatchOf m.header given s T m

-- its given terms are opened: with bindings followed, and then alias by alias
pub record OpensArguments (env : List Clause) (named : List (List Tree)) (a : RuleArguments) (old : State) (opened : RuleArguments) (new : State) : Type 0 where
  pub header : RuleHeader
  pub terms : List Tree
  pub given : List Tree
  pub matches : MatchesHeader named a old header terms given
  pub followed : List Tree
  pub known : State
  pub follows : IsFollowed given old followed known
  pub args : Vec GenericArg Global
  pub is : opened ≡ arguments.Header header args
  pub opens : Opens env terms followed known (trees_of args.items) new

-- they are, or stay as they stand
abbrev pub MayOpen : List Clause → List (List Tree) → RuleArguments → State → RuleArguments → State → Type 0
MayOpen env named a s b z = ((b ≡ a) × (z ≡ restored s z)) ⊎ OpensArguments env named a s b z

-- an entry names arguments, for given terms that may be opened, at no greater depth
abbrev pub NamesArguments : List Clause → List (List Tree) → RuleArguments → State → List Tree → Certainty → State → Type 0
NamesArguments env named a s ts c u =
    (b : RuleArguments) × (z : State) × (k : ℕ) × (k ≤ s.remaining_depth) × MayOpen env named a s b z × NamesOpen env named b (at_depth k z) ts c (at_depth k u)

-- what a row's clauses are asked for
abbrev pub source_of : RowClauses → GoalSource
source_of (clauses.Impl i) = source.ImplWhereBound
source_of (clauses.Item i) = source.AliasWellFormed
source_of (clauses.Free i) = source.Misc
source_of (clauses.Inherent i) = source.Misc

-- the clauses of a row under arguments
abbrev pub clauses_with : List Tree → List Clause → List PredicateTree
clauses_with ts cs = map (λ (k : Clause). folded_predicate (instantiating ts) 0 (tree_of_kind k.kind)) cs

-- and its const conditions, of a constness
abbrev pub conditions_with : BoundConstness → List Tree → List TraitRef → List PredicateTree
conditions_with b ts rs = map (λ (r : TraitRef). holds_const b r.def_id (map (instance ts) (trees_of r.args.items))) rs

-- goals for what a row lists, under earlier arguments, are added
abbrev pub AddsRow : {A : Type 0} → (List Tree → List A → List PredicateTree) → GoalSource → List Clause → Option (List A) → Option (List Tree) → State → Certainty → State → Type 0
AddsRow under from env (Some xs) (Some ts) s c u = AddsGoals from env (under ts xs) s u × (c ≡ certainty.Yes)
AddsRow under from env (Some xs) None s c u = StaysUndecided s c u
AddsRow under from env None o s c u = StaysUndecided s c u

-- the expected term is given the head form of a term, bindings followed: the goal is added that the alias which it stands for normalizes to the expected term, and any other term is made equal to that
abbrev pub GivesForm : List Clause → Tree → Tree → State → Certainty → State → Type 0
GivesForm env v t s c u =
    ((a : Tree) × StandsForAlias s t a × AddsNormalization s u a v env × (c ≡ certainty.Yes))
    ⊎ (StandsForNoAlias s t × Equates env (v ∷ []) (t ∷ []) s u c)

-- that of a row's value under earlier arguments
abbrev pub GivesValue : List Clause → Tree → Option Tree → Option (List Tree) → State → Certainty → State → Type 0
GivesValue env v (Some t) (Some ts) s c u = GivesForm env v (instance ts t) s c u
GivesValue env v (Some t) None s c u = StaysUndecided s c u
GivesValue env v None o s c u = StaysUndecided s c u

-- a goal asks in an environment what a clause says
pub record AsksFor (env : List Clause) (k : ClauseKind) (g : Goal Predicate) : Type 0 where
  pub environment : IsSameEnvironment env g.param_env.items
  pub asks : Asks g.predicate (tree_of_kind k)

-- a clause is asked as a goal by itself, which is answered as one that was added: exactly, if it is closed. Only a yes binds
pub record AnswersAlone (env : List Clause) (k : ClauseKind) (old new : State) (r : Result Certainty Fault) : Type 0 where
  pub goal : Goal Predicate
  pub asks : AsksFor env k goal
  pub answer : (m : TypingMode) → IsOwed new m → IsAnswerable old goal.predicate goal.param_env.items → IsGoalAnswer old m goal r
  pub alone : ChangesRecords old new
  pub undone : is_sure r ≡ false → new ≡ restored old new
  pub back : GoesBack old new

-- what is said of an answer to a clause, and of a refusal of it; of other faults nothing is
abbrev pub WhenAsked : Result Certainty Fault → Type 0 → Type 0
WhenAsked (Ok c) A = A
WhenAsked (Err fault.NoSolution) A = A
WhenAsked (Err f) A = Unit {0}

-- the expected term is given the one of two terms that a clause chooses: the first where it holds, the second where it is refuted, and so far none where it is undecided
abbrev pub Chooses : List Clause → Tree → ClauseKind → Tree → Tree → State → Certainty → State → Type 0
Chooses env v k held refuted s c u =
    ((z : State) × AnswersAlone env k s z (Ok certainty.Yes) × Equates env (v ∷ []) (held ∷ []) z u c)
    ⊎ ((z : State) × AnswersAlone env k s z (Err fault.NoSolution) × Equates env (v ∷ []) (refuted ∷ []) z u c)
    ⊎ (AnswersAlone env k s u (Ok certainty.Maybe) × (c ≡ certainty.Maybe))

-- whether a clause chooses a term
abbrev pub is_chosen : RuleTerm → Bool
is_chosen (term.ChosenBy k a b) = true
is_chosen _ = false

-- whether the step of an entry may evaluate goals
abbrev pub evaluates : RuleEntry → Bool
evaluates entry.Evaluation = true
evaluates (entry.Term v e) = true
evaluates (entry.Arguments a) = true
evaluates _ = false

-- the expected term is given what an entry says; a term as it stands is made equal to it
abbrev pub GivesTerm : List Clause → List (List Tree) → Tree → RuleTerm → State → Certainty → State → Type 0
GivesTerm env named v (term.AsItStands e) s c u = Equates env (v ∷ []) (tree_of_term e ∷ []) s u c
GivesTerm env named v (term.Normalized e) s c u = GivesForm env v (tree_of_term e) s c u
GivesTerm env named v (term.Value w n) s c u = GivesValue env v (value_in s.tables w) (slice_get named n) s c u
GivesTerm env named v (term.ChosenBy k a b) s c u = Chooses env v k (tree_of_term a) (tree_of_term b) s c u

-- the first use of an opaque type that is being defined takes its hidden type: the expected term as it is, or the type that type checking found, under the arguments as they are given
abbrev pub TakesFirst : List Clause → Tree → FirstUse → Option Tree → List Tree → State → Certainty → State → Type 0
TakesFirst env v first.Expected o ts s c u = (u ≡ s) × (c ≡ certainty.Yes)
TakesFirst env v first.TypeChecked (Some t) ts s c u = Equates env (v ∷ []) (instance ts t ∷ []) s u c
TakesFirst env v first.TypeChecked None ts s c u = StaysUndecided s c u

-- a later one makes the expected term equal to the type that was entered
abbrev pub MeetsHidden : List Clause → Tree → FirstUse → OpaqueTypeKey → Option Ty → State → Certainty → State → Type 0
MeetsHidden env v f k (Some earlier) s c u = Equates env (v ∷ []) (tree_of_ty earlier ∷ []) s u c
MeetsHidden env v f k None s c u = TakesFirst env v f (checked_in s.tables k.def_id) (trees_of k.args.items) s c u

-- an opaque type under arguments, and its hidden type
pub record HiddenType : Type 0 where
  pub opaque : OpaqueId
  pub args : List Tree
  pub hidden : Tree

abbrev pub hidden_as : OpaqueId → List Tree → Tree → HiddenType
hidden_as i ts v = record { opaque = i; args = ts; hidden = v }

-- the bounds of an opaque type are added as goals, with the hidden type in its place
abbrev pub AddsBounds : List Clause → HiddenType → State → State → Type 0
AddsBounds env h old new = AddsGoals source.AliasWellFormed env (clauses_with (h.args ++ h.hidden ∷ []) (bounds_in old.tables h.opaque)) old new

-- an expected type is the hidden type of an opaque type under its normalized arguments: it is entered and made equal to what else is known of it, and the bounds are added
abbrev pub DefinesUnder : List Clause → Tree → OpaqueTypeKey → FirstUse → Option (List Tree) → State → Certainty → State → Type 0
DefinesUnder env v k f None s c u = StaysUndecided s c u
DefinesUnder env v k f (Some ts) s c u =
    (earlier : Option Ty) × (y : State) × (z : State) × EntersHidden k.def_id ts v s y earlier × MeetsHidden env v f k earlier y c z × AddsBounds env (hidden_as k.def_id ts v) z u

-- its arguments are normalized first; where one is undecided nothing is entered, and a constant is no hidden type
abbrev pub Defines : List Clause → Term → OpaqueTypeKey → FirstUse → State → Certainty → State → Type 0
Defines env (expected.Const e) k f s c u = StaysUndecided s c u
Defines env (expected.Ty t) k f s c u = (o : Option (List Tree)) × (z : State) × NormalizesArgs env k.args.items s o z × DefinesUnder env (tree_of_ty t) k f o z c u

-- that the mode is read is recorded; outside the headline modes the list may stay undecided in place of this
abbrev pub ReadsMode : OpaqueAccess → State → Certainty → State → Type 0
ReadsMode a s c u =
    (RecordsAccess a s u × (c ≡ certainty.Yes))
    ⊎ ((is_headline s.typing_mode ≡ false) × (u ≡ record s { accesses = u.accesses }) × GoesBack s u × (c ≡ certainty.Maybe))

-- something is done with a certainty, which joins those before it
abbrev pub Joins : OpenProgress → OpenProgress → (Certainty → Type 0) → Type 0
Joins p q Does = (c : Certainty) × Does c × (q ≡ after_entry p c)

-- the step of an entry: what the call that it stands for may do to a context, and how far the list was run then
unfoldable pub Steps : List Clause → RuleEntry → State → OpenProgress → State → OpenProgress → Type 0
Steps env (entry.Arguments a) s p u q = (ts : List Tree) × (c : Certainty) × NamesArguments env p.named a s ts c u × (q ≡ after_naming p ts c)
Steps env (entry.Equation ts us) s p u q = Joins p q (λ c. Equates env (trees_of ts.items) (trees_of us.items) s u c)
Steps env (entry.Clause g k) s p u q = Joins p q (λ c. AddsGoals g env (tree_of_kind k ∷ []) s u × (c ≡ certainty.Yes))
Steps env (entry.RowClauses w n) s p u q = Joins p q (λ c. AddsRow clauses_with (source_of w) env (clauses_in s.tables w) (slice_get p.named n) s c u)
Steps env (entry.RowConditions b i n) s p u q = Joins p q (λ c. AddsRow (conditions_with b) source.ImplWhereBound env (conditions_in s.tables i) (slice_get p.named n) s c u)
Steps env (entry.Term v e) s p u q = Joins p q (λ c. GivesTerm env p.named (tree_of_term v) e s c u)
Steps env (entry.HiddenType v k f) s p u q = Joins p q (λ c. Defines env v k f s c u)
Steps env (entry.Access a) s p u q = Joins p q (λ c. ReadsMode a s c u)
Steps env (entry.DelayedFault f) s p u q = RecordsFault f s u × (q ≡ p)
Steps env entry.Evaluation s p u q = (c : Certainty) × Evaluates s u c × (q ≡ p)
Steps env entry.Ambiguous s p u q = (u ≡ s) × (q ≡ after_entry p certainty.Maybe)
Steps env entry.Undecided s p u q = (u ≡ s) × (q ≡ after_entry p certainty.Maybe)
Steps env entry.Refused s p u q = ⊥

-- a chain of states: the step of each entry, in order, and no other step
unfoldable pub RunsThrough : List Clause → List RuleEntry → State → OpenProgress → State → OpenProgress → Type 0
RunsThrough env [] s p u q = (u ≡ s) × (q ≡ p)
RunsThrough env (e ∷ es) s p u q = (z : State) × (r : OpenProgress) × Steps env e s p z r × RunsThrough env es z r u q

-- the closing evaluation: the goals are evaluated, and the response lists what came since the mark, as sure as the entries and the goals are
pub record Closes (c : Certainty) (old new : State) (r : Response) : Type 0 where
  pub answered : Certainty
  pub evaluates : Evaluates old new answered
  pub certainty : r.certainty ≡ both_certain c answered
  pub lists : ListsSinceMark new r.certainty r

-- a list is run: in a trial, through all entries and the closing evaluation, and everything goes back then but for terms and records
pub record RunsOpen (env : List Clause) (es : List RuleEntry) (old new : State) (r : Response) : Type 0 where
  pub last : State
  pub progress : OpenProgress
  pub through : RunsThrough env es (begun old) open_start last progress
  pub closed : State
  pub closes : Closes progress.certainty last closed r
  pub back : new ≡ restored old closed

-- the arguments that were named first, second, and so on
abbrev pub args_at : List (Vec GenericArg Global) → ℕ → Option (List Tree)
args_at named n = slice_get (named_trees named) n

-- a row's where clauses of a constness are added so
abbrev pub AddsRowConditions : BoundConstness → List Clause → Option (List TraitRef) → Option (List Tree) → State → Certainty → State → Type 0
AddsRowConditions k env rows args s c u = AddsRow (conditions_with k) source.ImplWhereBound env rows args s c u

-- a header as it is given
abbrev pub header_with : List ParamKind → List GenericArg → MatchedHeader
header_with ps args = record { params = ps; terms = trees_of args }

-- the header of an impl, and that of another impl under arguments that were named
abbrev pub impl_header : Tables → ImplId → Option MatchedHeader
impl_header t i = open_header t (header.Impl i)

abbrev pub given_header : Tables → ImplId → List (Vec GenericArg Global) → ℕ → Option (List Tree)
given_header t i named n = other_header (impl_of t i) (slice_get (named_trees named) n)

-- the arguments that are named when a header is matched
abbrev pub Names : List Clause → MatchedHeader → List Tree → State → NamedArgs → State → Type 0
Names env h given s n u = Matches env h given s (trees_of n.args.items) n.certainty u

abbrev pub NamesIf : List Clause → Option MatchedHeader → Option (List Tree) → State → NamedArgs → State → Type 0
NamesIf env h given s n u = MatchesIf env h given s (trees_of n.args.items) n.certainty u

-- the hidden type of an opaque type is taken from what defines it first
abbrev pub TakesFirstOf : List Clause → Term → FirstUse → OpaqueTypeKey → State → Certainty → State → Type 0
TakesFirstOf env e f key s c u = TakesFirst env (tree_of_term e) f (checked_in s.tables key.def_id) (trees_of key.args.items) s c u
