-- Running a rule's list of entries: how far it was run, and what the answer says.
use Rattle.std.specs.Prelude.{◌≡◌, ◌⊎◌, ℕ, Bool, true, false, ◌||◌, List, [], ◌∷◌, ◌++◌, Option, Some, None, Result, Ok, Err}
use Rattle.std.specs.List.{All, Contains, list_any}
use Rattle.goal_terms.specs.NodeTests.{is_any_infer, some_node}
use Rattle.goal_terms.specs.Sorts.{IsTerm}
use Rattle.goal_terms.specs.Tree.{Tree}
use Rattle.goal_terms.specs.TreeOf.{tree_of_term}
use Rattle.goal_terms.specs.declared.answers.Certainty.{Certainty}
use Rattle.goal_terms.specs.declared.answers.Certainty.TheVariants as certainty
use Rattle.goal_terms.specs.declared.answers.DelayedFault.{DelayedFault}
use Rattle.goal_terms.specs.declared.answers.Response.{Response}
use Rattle.goal_terms.specs.declared.heads.Node.{Node}
use Rattle.goal_terms.specs.declared.modes.TypingMode.{TypingMode}
use Rattle.goal_terms.specs.declared.predicates.Clause.{Clause}
use Rattle.goal_tables.specs.Predicates.{some_in_args, some_in_clause_kind, some_in_env}
use Rattle.goal_tables.specs.declared.rows.Tables.{Tables}
use Rattle.goal_lists.specs.Causes.{IsFaultCaused}
use Rattle.goal_lists.specs.Answers.{setting_of, erased_predicate}
use Rattle.goal_lists.specs.Entries.{Arguments, of_header, Entry, ExpectedTerm, chosen_by}
use Rattle.goal_lists.specs.InternedEntries.{header_trees}
use Rattle.goal_lists.specs.Level.{Level}
use Rattle.goal_kinds.specs.RuleLists.{names_arguments, entry_of, before}
use Rattle.goal_kinds.specs.Rules.{has_term, RuleHolds, RuleGives, RuleRefuted}
use Rattle.goal_lists.specs.Settings.{Setting}
use Rattle.goal_kinds.specs.declared.faults.Fault.{Fault}
use Rattle.goal_kinds.specs.declared.faults.Fault.TheVariants as fault
use Rattle.goal_lists.specs.declared.lists.RowHeader.{RowHeader}
use Rattle.goal_kinds.specs.declared.rules.Candidate.{Candidate}
use Rattle.goal_kinds.specs.declared.rules.Rule.{Rule}
use Rattle.goal_kinds.specs.declared.rules.RuleArguments.{RuleArguments}
use Rattle.goal_kinds.specs.declared.rules.RuleArguments.TheVariants as arguments
use Rattle.goal_kinds.specs.declared.rules.RuleEntry.{RuleEntry}
use Rattle.goal_kinds.specs.declared.rules.RuleEntry.TheVariants as entry
use Rattle.goal_kinds.specs.declared.rules.RuleTerm.{RuleTerm}
use Rattle.goal_kinds.specs.declared.rules.RuleTerm.TheVariants as term
use Rattle.goal_solver.specs.Answers.{expected_variable, GivesTo}
use Rattle.goal_eval.specs.Lists.{list_held, progress_at, Leads}
use Rattle.goal_solver.specs.State.{State}
use Rattle.goal_eval.specs.declared.eval.lists.ListOutcome.{ListOutcome}
use Rattle.goal_eval.specs.declared.eval.lists.progress.ListRun.{ListRun}
use Rattle.goal_eval.specs.declared.eval.lists.progress.Reached.{Reached}
use Rattle.goal_lists.specs.declared.outcomes.Outcome.TheVariants as outcome
use Rattle.goal_solver.specs.declared.eval.run_rule.asked.Asked.{Asked}
use Rattle.goal_solver.specs.declared.eval.run_rule.asked.Asked.TheVariants as asked
use Rattle.goal_solver.specs.declared.eval.run_rule.recorded.ToRecord.{ToRecord}
use Rattle.goal_solver.specs.declared.eval.run_rule.recorded.ToRecord.TheVariants as recorded
use Rattle.goal_terms.specs.declared.predicates.ClauseKind.{ClauseKind}
use Rattle.goal_terms.specs.declared.terms.Term.{Term}
use Rattle.goal_terms.specs.PredicateTrees.{tree_of_kind}
use Rattle.goal_terms.specs.Erased.{erased}

-- whether something in the arguments that an entry names passes a test
abbrev pub some_in_arguments : (Node → Bool) → RuleArguments → Bool
some_in_arguments p (arguments.Given args) = some_in_args p args.items
some_in_arguments p (arguments.Header h args) = some_in_args p args.items
some_in_arguments p (arguments.OtherImpl i j n) = false
some_in_arguments p (arguments.Followed n own) = some_in_args p own.items

-- whether something in the term of an entry passes
abbrev pub some_in_term : (Node → Bool) → RuleTerm → Bool
some_in_term p (term.AsItStands e) = some_node p (tree_of_term e)
some_in_term p (term.Normalized e) = some_node p (tree_of_term e)
some_in_term p (term.Value v n) = false
some_in_term p (term.ChosenBy k a b) = some_in_clause_kind p k || some_node p (tree_of_term a) || some_node p (tree_of_term b)

-- whether something in an entry passes, expected terms aside; the hidden type of an opaque type always counts as such
abbrev pub some_in_entry : (Node → Bool) → RuleEntry → Bool
some_in_entry p (entry.Arguments a) = some_in_arguments p a
some_in_entry p (entry.Equation ts us) = some_in_args p ts.items || some_in_args p us.items
some_in_entry p (entry.Clause g k) = some_in_clause_kind p k
some_in_entry p (entry.RowClauses c n) = false
some_in_entry p (entry.RowConditions b i n) = false
some_in_entry p (entry.Term v e) = some_in_term p e
some_in_entry p (entry.HiddenType v k f) = true
some_in_entry p (entry.Access a) = false
some_in_entry p (entry.DelayedFault f) = false
some_in_entry p entry.Evaluation = false
some_in_entry p entry.Ambiguous = false
some_in_entry p entry.Undecided = false
some_in_entry p entry.Refused = false

-- a rule and an environment hold no inference variable, expected terms aside, and no opaque type is being defined by the rule
abbrev pub IsClosedRule : List RuleEntry → List Clause → Type 0
IsClosedRule es env = (list_any (some_in_entry is_any_infer) es || some_in_env is_any_infer env) ≡ false

-- the expected variable of an entry's term; none where the expected term is no general variable
abbrev pub asked_by : RuleEntry → List (Option ℕ)
asked_by (entry.Term v e) = expected_variable v ∷ []
asked_by (entry.Arguments a) = []
asked_by (entry.Equation ts us) = []
asked_by (entry.Clause g k) = []
asked_by (entry.RowClauses c n) = []
asked_by (entry.RowConditions b i n) = []
asked_by (entry.HiddenType v k f) = []
asked_by (entry.Access a) = []
asked_by (entry.DelayedFault f) = []
asked_by entry.Evaluation = []
asked_by entry.Ambiguous = []
asked_by entry.Undecided = []
asked_by entry.Refused = []

-- the expected variables of a list of entries, in order
unfoldable pub asked_of : List RuleEntry → List (Option ℕ)
asked_of [] = []
asked_of (e ∷ es) = asked_by e ++ asked_of es

-- no term is asked for, or one, for a general variable
abbrev pub IsAskedOnce : List (Option ℕ) → Type 0
IsAskedOnce [] = Unit {0}
IsAskedOnce (None ∷ os) = ⊥
IsAskedOnce (Some n ∷ []) = Unit {0}
IsAskedOnce (Some n ∷ o ∷ os) = ⊥

-- what a list of entries is run over, in a mode
abbrev pub setting_over : State → TypingMode → List Clause → Setting
setting_over s m env = setting_of s.tables m env

-- an answer to a rule lists no value where no term is asked for, and else just the term that the rule gives, for its expected variable
abbrev pub ListsTerm : Setting → Level → Rule → List (Option ℕ) → Response → Type 0
ListsTerm S L r [] x = x.var_values.items ≡ []
ListsTerm S L r (None ∷ os) x = ⊥
ListsTerm S L r (Some n ∷ []) x = (t : Tree) × RuleGives S L r t × GivesTo n t x
ListsTerm S L r (Some n ∷ o ∷ os) x = ⊥

-- a yes to a rule says that it holds, with the term that it gives
abbrev pub IsRuleResponse : Setting → Level → Rule → Certainty → Response → Type 0
IsRuleResponse S L r certainty.Yes x = RuleHolds S L r × ListsTerm S L r (asked_of r.entries.items) x
IsRuleResponse S L r certainty.Maybe x = Unit {0}

-- and a refusal is final
abbrev pub IsRuleAnswer : Setting → Level → Rule → Result Response Fault → Type 0
IsRuleAnswer S L r (Ok x) = IsRuleResponse S L r x.certainty x
IsRuleAnswer S L r (Err fault.NoSolution) = RuleRefuted S L r
IsRuleAnswer S L r (Err f) = Unit {0}

-- a rule gives no type and no constant, doesn't hold without a term, and isn't refuted
abbrev pub IsRuleOpen : Setting → Level → Rule → Type 0
IsRuleOpen S L r = ((t : Tree) → IsTerm t → RuleGives S L r t → ⊥) × (has_term r.entries.items ≡ false → RuleHolds S L r → ⊥) × (RuleRefuted S L r → ⊥)

-- what an entry says to record
abbrev pub to_record : RuleEntry → ToRecord
to_record (entry.Access a) = recorded.Access a
to_record (entry.DelayedFault f) = recorded.DelayedFault f
to_record (entry.Arguments a) = recorded.Nothing
to_record (entry.Equation ts us) = recorded.Nothing
to_record (entry.Clause g k) = recorded.Nothing
to_record (entry.RowClauses c n) = recorded.Nothing
to_record (entry.RowConditions b i n) = recorded.Nothing
to_record (entry.Term v e) = recorded.Nothing
to_record (entry.HiddenType v k f) = recorded.Nothing
to_record entry.Evaluation = recorded.Nothing
to_record entry.Ambiguous = recorded.Nothing
to_record entry.Undecided = recorded.Nothing
to_record entry.Refused = recorded.Nothing

-- it is recorded
abbrev pub IsKept : State → ToRecord → Type 0
IsKept s (recorded.Access a) = Contains s.accesses a
IsKept s (recorded.DelayedFault f) = Contains s.delayed_faults f
IsKept s recorded.Nothing = Unit {0}

-- what an entry says to record is recorded
abbrev pub IsRecorded : State → RuleEntry → Type 0
IsRecorded s e = IsKept s (to_record e)

-- all that a list of entries says to record is recorded
abbrev pub AreRecorded : State → List RuleEntry → Type 0
AreRecorded s es = All (IsRecorded s) es

-- a yes says so
abbrev pub IsRecordedAnswer : State → List RuleEntry → Response → Type 0
IsRecordedAnswer s es x = x.certainty ≡ certainty.Yes → AreRecorded s es

-- each delayed fault that has come since is one of the list's, or has its cause in the tables
unfoldable pub AreListed : List RuleEntry → State → State → Type 0
AreListed es before after = (f : DelayedFault) → Contains after.delayed_faults f → Contains before.delayed_faults f ⊎ (Contains es (entry.DelayedFault f) ⊎ IsFaultCaused before.tables f)

-- the response of a candidate
abbrev pub response_of : Result Candidate Fault → Result Response Fault
response_of (Ok c) = Ok c.result
response_of (Err f) = Err f

-- a row's header that is matched with given arguments
abbrev pub header_at : List Tree → RowHeader → Arguments
header_at gs h = of_header h.params.now (header_trees h.terms) gs

-- where an entry of a rule leads a run through the list that the rule stands for, by the numbers of their terms
abbrev pub RuleRunsOn : Tables → Level → List Tree → ListRun → RuleEntry → List Tree → ListRun → Reached → Type 0
RuleRunsOn t L T r e U s q = (rest all : List Entry) → Leads L (progress_at T r) (before (names_arguments e) (entry_of t e) rest) rest all (progress_at U s) q

-- for which variable a list has a term, by the expected variables of its terms
abbrev pub asked_as : List (Option ℕ) → Asked
asked_as [] = asked.Nothing
asked_as (None ∷ os) = asked.Others
asked_as (Some n ∷ []) = asked.Variable n
asked_as (Some n ∷ o ∷ os) = asked.Others

-- with one more of them
abbrev pub asked_and : Asked → Option ℕ → Asked
asked_and asked.Nothing (Some n) = asked.Variable n
asked_and asked.Nothing None = asked.Others
asked_and (asked.Variable m) o = asked.Others
asked_and asked.Others o = asked.Others

-- and with one more entry
abbrev pub asked_next : Asked → RuleEntry → Asked
asked_next a (entry.Term v e) = asked_and a (expected_variable v)
asked_next a _ = a

-- a list of entries that holds records all that it says to
abbrev pub AreRecordedWhere : State → List RuleEntry → ListOutcome → Type 0
AreRecordedWhere s es o = list_held o ≡ outcome.Holds → AreRecorded s es

-- the first of two terms where a clause holds, the second where it is refuted
abbrev pub chosen_term : ClauseKind → Term → Term → ExpectedTerm
chosen_term k first second = chosen_by (erased_predicate (tree_of_kind k)) (erased (tree_of_term first)) (erased (tree_of_term second))
