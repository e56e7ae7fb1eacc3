-- Entries whose terms are given by their numbers in a table: what they stand for.
use Rattle.std.specs.Prelude.{◌∷◌, [], List, Option, Vec, map, IfSome}
use Rattle.std.specs.Global.{Global}
use Rattle.std.specs.List.{All}
use Rattle.std.specs.Option.{option_map}
use Rattle.goal_terms.specs.Tree.{Tree}
use Rattle.goal_terms.specs.TreeOf.{trees_of, tree_of_ty, tree_of_term}
use Rattle.goal_terms.specs.declared.predicates.Clause.{Clause}
use Rattle.goal_lists.specs.Answers.{setting_of}
use Rattle.goal_lists.specs.Entries.{Arguments, given_arguments, of_header, of_other_header, followed_by, ExpectedTerm, as_it_stands, head_form_of, value_under, chosen_by, Entry, arguments, equal_terms, clause, row_clauses, row_conditions, expected, hidden_type, access, delayed_fault, evaluation, ambiguous, undecided, refused}
use Rattle.goal_lists.specs.Interned.{erased_at, erased_all, IsIn, AreIn, predicate_at, PredicateIn}
use Rattle.goal_lists.specs.Settings.{Setting}
use Rattle.goal_lists.specs.declared.lists.HeaderTerms.{HeaderTerms}
use Rattle.goal_lists.specs.declared.lists.HeaderTerms.TheVariants as header
use Rattle.goal_lists.specs.declared.lists.RowValueTerm.{RowValueTerm}
use Rattle.goal_lists.specs.declared.lists.RowValueTerm.TheVariants as value
use Rattle.goal_lists.specs.declared.lists.InternedArguments.{InternedArguments}
use Rattle.goal_lists.specs.declared.lists.InternedArguments.TheVariants as named
use Rattle.goal_lists.specs.declared.lists.InternedTerm.{InternedTerm}
use Rattle.goal_lists.specs.declared.lists.InternedTerm.TheVariants as terms
use Rattle.goal_lists.specs.declared.lists.InternedEntry.{InternedEntry}
use Rattle.goal_lists.specs.declared.lists.InternedEntry.TheVariants as entries
use Rattle.goal_lists.specs.ImplTerms.{Projection}
use Rattle.goal_lists.specs.declared.lists.ListSetting.{ListSetting}
use Rattle.goal_lists.specs.declared.lists.AskedProjection.{AskedProjection}

-- the terms of a row's header, as they stand there
abbrev pub header_trees : HeaderTerms → List Tree
header_trees (header.Arguments args) = trees_of args.now
header_trees (header.SelfType ty) = tree_of_ty ty.now ∷ []

-- a row's value, as it stands there
abbrev pub value_tree : RowValueTerm → Tree
value_tree (value.Term t) = tree_of_term t.now
value_tree (value.Ty ty) = tree_of_ty ty.now

-- arguments that are named
abbrev pub arguments_at : List Tree → InternedArguments → Arguments
arguments_at T (named.Given ids) = given_arguments (erased_all T ids.items)
arguments_at T (named.OfHeader i h ids) = of_header h.params.now (header_trees h.terms) (erased_all T ids.items)
arguments_at T (named.OfOtherHeader i j h args n) = of_other_header h.params.now (header_trees h.terms) (trees_of args.now) n
arguments_at T (named.FollowedBy n ids) = followed_by n (erased_all T ids.items)

abbrev pub ArgumentsIn : List Tree → InternedArguments → Type 0
ArgumentsIn T (named.Given ids) = AreIn T ids.items
ArgumentsIn T (named.OfHeader i h ids) = AreIn T ids.items
ArgumentsIn T (named.OfOtherHeader i j h args n) = Unit {0}
ArgumentsIn T (named.FollowedBy n ids) = AreIn T ids.items

-- what the expected term is
abbrev pub term_at : List Tree → InternedTerm → ExpectedTerm
term_at T (terms.AsItStands id) = as_it_stands (erased_at T id)
term_at T (terms.HeadFormOf id) = head_form_of (erased_at T id)
term_at T (terms.ValueUnder i v n) = value_under (value_tree v) n
term_at T (terms.ChosenBy p a b) = chosen_by (predicate_at T p) (erased_at T a) (erased_at T b)
term_at T (terms.HiddenType i ids f r) = hidden_type i (erased_all T ids.items) f (tree_of_ty r.now.typeck_hidden) r.now.bounds.items

abbrev pub TermIn : List Tree → InternedTerm → Type 0
TermIn T (terms.AsItStands id) = IsIn T id
TermIn T (terms.HeadFormOf id) = IsIn T id
TermIn T (terms.ValueUnder i v n) = Unit {0}
TermIn T (terms.ChosenBy p a b) = PredicateIn T p × IsIn T a × IsIn T b
TermIn T (terms.HiddenType i ids f r) = AreIn T ids.items

-- an entry
abbrev pub entry_at : List Tree → InternedEntry → Entry
entry_at T (entries.Arguments a) = arguments (arguments_at T a)
entry_at T (entries.EqualTerms a b) = equal_terms (erased_all T a.items) (erased_all T b.items)
entry_at T (entries.Clause g p) = clause g (predicate_at T p)
entry_at T (entries.RowClauses r cs n) = row_clauses cs.now n
entry_at T (entries.RowConditions c i rs n) = row_conditions c rs.now n
entry_at T (entries.Expected e) = expected (term_at T e)
entry_at T (entries.Access a) = access a
entry_at T (entries.DelayedFault f) = delayed_fault f
entry_at T entries.Evaluation = evaluation
entry_at T entries.Ambiguous = ambiguous
entry_at T entries.Undecided = undecided
entry_at T entries.Refused = refused

-- its numbers are in the table
abbrev pub EntryIn : List Tree → InternedEntry → Type 0
EntryIn T (entries.Arguments a) = ArgumentsIn T a
EntryIn T (entries.EqualTerms a b) = AreIn T a.items × AreIn T b.items
EntryIn T (entries.Clause g p) = PredicateIn T p
EntryIn T (entries.RowClauses r cs n) = Unit {0}
EntryIn T (entries.RowConditions c i rs n) = Unit {0}
EntryIn T (entries.Expected e) = TermIn T e
EntryIn T (entries.Access a) = Unit {0}
EntryIn T (entries.DelayedFault f) = Unit {0}
EntryIn T entries.Evaluation = Unit {0}
EntryIn T entries.Ambiguous = Unit {0}
EntryIn T entries.Undecided = Unit {0}
EntryIn T entries.Refused = Unit {0}

-- some entries
abbrev pub entries_at : List Tree → List InternedEntry → List Entry
entries_at T es = map (entry_at T) es

abbrev pub EntriesIn : List Tree → List InternedEntry → Type 0
EntriesIn T es = All (EntryIn T) es

-- the list of a rule, if that isn't refused
abbrev pub list_at : List Tree → Option (Vec InternedEntry Global) → Option (List Entry)
list_at T o = option_map (λ es. entries_at T es.items) o

abbrev pub ListIn : List Tree → Option (Vec InternedEntry Global) → Type 0
ListIn T o = IfSome o (λ es. EntriesIn T es.items)

-- what a list is made for, with an environment
abbrev pub setting_at : ListSetting → List Clause → Setting
setting_at S env = setting_of S.rows.now S.mode.now env

-- a projection as it is asked
abbrev pub projection_at : List Tree → AskedProjection → Projection
projection_at T p = record { item = p.item.now; trait_params = p.trait_params; args = erased_all T p.args.now }

abbrev pub ProjectionIn : List Tree → AskedProjection → Type 0
ProjectionIn T p = AreIn T p.args.now × IsIn T p.rigid_alias
