-- The list of entries that a rule stands for over the tables, and what it means that both say the same.
use Rattle.std.specs.Prelude.{◌≡◌, ◌↔◌, Bool, true, false, List, [], ◌∷◌, ◌++◌, map, Option, Some, None, IfSome}
use Rattle.std.specs.Option.{option_map}
use Rattle.goal_terms.specs.Erased.{erased}
use Rattle.goal_terms.specs.PredicateTrees.{tree_of_kind}
use Rattle.goal_terms.specs.Tree.{Tree}
use Rattle.goal_terms.specs.TreeOf.{tree_of_term, tree_of_ty}
use Rattle.goal_terms.specs.declared.answers.Certainty.{Certainty}
use Rattle.goal_terms.specs.declared.answers.Certainty.TheVariants as certainty
use Rattle.goal_tables.specs.Rows.{impl_of, opaque_of}
use Rattle.goal_tables.specs.declared.rows.Tables.{Tables}
use Rattle.goal_terms.specs.declared.answers.OpaqueTypeKey.{OpaqueTypeKey}
use Rattle.goal_lists.specs.declared.lists.FirstUse.{FirstUse}
use Rattle.goal_lists.specs.RowWords.{header_arguments, other_arguments, given, clauses_in, conditions_in, value_in}
use Rattle.goal_lists.specs.Answers.{erased_predicate}
use Rattle.goal_lists.specs.Entries.{Arguments, given_arguments, followed_by, ExpectedTerm, as_it_stands, head_form_of, value_under, chosen_by, Entry, arguments, equal_terms, clause, row_clauses, row_conditions, expected, hidden_type, access, delayed_fault, evaluation, ambiguous, undecided, refused, ListHolds, ListGives, ListRefuted}
use Rattle.goal_lists.specs.Level.{Level}
use Rattle.goal_kinds.specs.Rules.{RuleHolds, RuleGives, RuleRefuted}
use Rattle.goal_lists.specs.Settings.{Setting}
use Rattle.goal_kinds.specs.declared.rules.Rule.{Rule}
use Rattle.goal_kinds.specs.declared.rules.RuleArguments.{RuleArguments}
use Rattle.goal_kinds.specs.declared.rules.RuleArguments.TheVariants as named
use Rattle.goal_kinds.specs.declared.rules.RuleEntry.{RuleEntry}
use Rattle.goal_kinds.specs.declared.rules.RuleEntry.TheVariants as entry
use Rattle.goal_kinds.specs.declared.rules.RuleTerm.{RuleTerm}
use Rattle.goal_kinds.specs.declared.rules.RuleTerm.TheVariants as term

-- arguments that later entries take, if their rows are there
abbrev pub arguments_of : Tables → RuleArguments → Option Arguments
arguments_of t (named.Given args) = Some (given_arguments (given args))
arguments_of t (named.Header h args) = header_arguments t h (given args)
arguments_of t (named.OtherImpl i j n) = other_arguments (impl_of t i) (impl_of t j) n
arguments_of t (named.Followed n own) = Some (followed_by n (given own))

-- what the expected term is, if its row is there and has a value
abbrev pub expected_of : Tables → RuleTerm → Option ExpectedTerm
expected_of t (term.AsItStands e) = Some (as_it_stands (erased (tree_of_term e)))
expected_of t (term.Normalized e) = Some (head_form_of (erased (tree_of_term e)))
expected_of t (term.Value v n) = option_map (λ e. value_under e n) (value_in t v)
expected_of t (term.ChosenBy k a b) = Some (chosen_by (erased_predicate (tree_of_kind k)) (erased (tree_of_term a)) (erased (tree_of_term b)))

-- what an opaque type that is being defined stands for, if its row is there
abbrev pub hidden_of : Tables → OpaqueTypeKey → FirstUse → Option ExpectedTerm
hidden_of t k f = option_map (λ r. hidden_type k.def_id (given k.args) f (tree_of_ty r.typeck_hidden) r.bounds.items) (opaque_of t k.def_id)

-- an entry, if its rows are there; the goal's variable for the expected term says nothing
abbrev pub entry_of : Tables → RuleEntry → Option Entry
entry_of t (entry.Arguments a) = option_map arguments (arguments_of t a)
entry_of t (entry.Equation ts us) = Some (equal_terms (given ts) (given us))
entry_of t (entry.Clause g k) = Some (clause g (erased_predicate (tree_of_kind k)))
entry_of t (entry.RowClauses c n) = option_map (λ cs. row_clauses cs n) (clauses_in t c)
entry_of t (entry.RowConditions c i n) = option_map (λ rs. row_conditions c rs n) (conditions_in t i)
entry_of t (entry.Term v e) = option_map expected (expected_of t e)
entry_of t (entry.HiddenType v k f) = option_map expected (hidden_of t k f)
entry_of t (entry.Access a) = Some (access a)
entry_of t (entry.DelayedFault f) = Some (delayed_fault f)
entry_of t entry.Evaluation = Some evaluation
entry_of t entry.Ambiguous = Some ambiguous
entry_of t entry.Undecided = Some undecided
entry_of t entry.Refused = Some refused

-- whether an entry names arguments, by which later ones are counted
abbrev pub names_arguments : RuleEntry → Bool
names_arguments (entry.Arguments a) = true
names_arguments _ = false

-- an entry and those behind it; one that is missing is undecided, and where it names arguments the list ends there
abbrev pub before : Bool → Option Entry → List Entry → List Entry
before b (Some e) es = e ∷ es
before true None es = undecided ∷ []
before false None es = undecided ∷ es

-- the entries that those of a rule stand for
unfoldable pub entries_of : Tables → List RuleEntry → List Entry
entries_of t [] = []
entries_of t (e ∷ es) = before (names_arguments e) (entry_of t e) (entries_of t es)

-- the list of a rule
abbrev pub list_of_rule : Tables → Rule → Option (List Entry)
list_of_rule t r = Some (entries_of t r.entries.items)

-- a rule and its list say the same: both hold, give a term, or are refuted
abbrev pub RuleListHolds : Setting → Level → Rule → Type 0
RuleListHolds S L r = ListHolds L (list_of_rule S.tables r) ↔ RuleHolds S L r

abbrev pub RuleListGives : Setting → Level → Rule → Tree → Type 0
RuleListGives S L r t = ListGives L (list_of_rule S.tables r) t ↔ RuleGives S L r t

abbrev pub RuleListRefuted : Setting → Level → Rule → Type 0
RuleListRefuted S L r = ListRefuted L (list_of_rule S.tables r) ↔ RuleRefuted S L r

-- a list, behind which nothing is decided where the certainty is `Maybe`
abbrev pub entries_then : Certainty → List Entry
entries_then certainty.Yes = []
entries_then certainty.Maybe = undecided ∷ []

abbrev pub list_then : Certainty → Option (List Entry) → Option (List Entry)
list_then c o = option_map (λ es. es ++ entries_then c) o

-- a rule's entries are those of a list one by one, and all rows that they name are there
abbrev pub IsListed : Tables → Rule → Option (List Entry) → Type 0
IsListed t r None = ⊥
IsListed t r (Some es) = map (entry_of t) r.entries.items ≡ map Some es

-- a rule stands for the list of a candidate, if that is told, with nothing decided behind it by a certainty
abbrev pub IsToldBy : Tables → Certainty → Option (Option (List Entry)) → Rule → Type 0
IsToldBy t c told r = IfSome told (λ o. list_of_rule t r ≡ list_then c o)
