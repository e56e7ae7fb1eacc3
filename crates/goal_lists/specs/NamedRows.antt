-- Entries over numbers that can be named by ids again: what they borrow is their rows', and what stands in them is of the sort that its place takes.
use Rattle.std.specs.Prelude.{◌≡◌, ◌∷◌, [], List, map, Option, Some, None, Vec, IfSome}
use Rattle.std.specs.Global.{Global}
use Rattle.std.specs.List.{All}
use Rattle.goal_terms.specs.PredicateTrees.{PredicateTree, holds, equals, holds_const}
use Rattle.goal_terms.specs.Sorts.{IsTerm}
use Rattle.goal_interner.specs.TableMeaning.{tree_at}
use Rattle.goal_terms.specs.Tree.{Tree, alias}
use Rattle.goal_terms.specs.TreeOf.{trees_of, tree_of_term}
use Rattle.goal_terms.specs.declared.ids.OpaqueId.{OpaqueId}
use Rattle.goal_interner.specs.declared.term_nodes.TermId.{TermId}
use Rattle.goal_terms.specs.declared.terms.AliasTerm.{AliasTerm}
use Rattle.goal_terms.specs.declared.terms.AliasTermKind.{AliasTermKind}
use Rattle.goal_terms.specs.declared.terms.AliasTermKind.TheVariants.{OpaqueTy}
use Rattle.goal_terms.specs.declared.terms.Term.{Term}
use Rattle.goal_tables.specs.Rows.{impl_of, item_of, definition_of, opaque_of}
use Rattle.goal_tables.specs.declared.rows.DefRow.{DefRow}
use Rattle.goal_tables.specs.declared.rows.ImplRow.{ImplRow}
use Rattle.goal_tables.specs.declared.rows.Tables.{Tables}
use Rattle.goal_lists.specs.Candidates.{Candidate, assumption}
use Rattle.goal_lists.specs.Entries.{of_header, of_other_header, ExpectedTerm, as_it_stands, head_form_of, chosen_by, Entry, clause, expected}
use Rattle.goal_lists.specs.InternedEntries.{header_trees, value_tree}
use Rattle.goal_lists.specs.RowWords.{header_arguments, other_arguments, clauses_in, conditions_in, value_in}
use Rattle.goal_lists.specs.Words.{Each}
use Rattle.goal_lists.specs.declared.candidates.interned.InternedCandidate.{InternedCandidate}
use Rattle.goal_lists.specs.declared.candidates.interned.InternedCandidate.TheVariants as candidates
use Rattle.goal_lists.specs.declared.lists.AskedProjection.{AskedProjection}
use Rattle.goal_lists.specs.declared.lists.InternedArguments.{InternedArguments}
use Rattle.goal_lists.specs.declared.lists.InternedArguments.TheVariants as named
use Rattle.goal_lists.specs.declared.lists.RowHeader.{RowHeader}
use Rattle.goal_lists.specs.declared.lists.FirstUse.{FirstUse}
use Rattle.goal_lists.specs.declared.lists.RuleHeader.{RuleHeader}
use Rattle.goal_lists.specs.declared.lists.InternedTerm.{InternedTerm}
use Rattle.goal_lists.specs.declared.lists.InternedTerm.TheVariants as terms
use Rattle.goal_lists.specs.declared.lists.InternedEntry.{InternedEntry}
use Rattle.goal_lists.specs.declared.lists.InternedEntry.TheVariants as entries

-- a header is that of the row with its id
abbrev pub HeaderIsOf : Tables → RuleHeader → RowHeader → Type 0
HeaderIsOf t i h = (gs : List Tree) → header_arguments t i gs ≡ Some (of_header h.params.now (header_trees h.terms) gs)

-- arguments are matched with the headers that the tables have under their ids
abbrev pub ArgumentsNameRows : Tables → InternedArguments → Type 0
ArgumentsNameRows t (named.OfHeader i h ids) = HeaderIsOf t i h
ArgumentsNameRows t (named.OfOtherHeader i j h args n) =
    other_arguments (impl_of t i) (impl_of t j) n ≡ Some (of_other_header h.params.now (header_trees h.terms) (trees_of args.now) n)
ArgumentsNameRows t _ = Unit {0}

-- a value is that of the row with its id
abbrev pub TermNamesRow : Tables → InternedTerm → Type 0
TermNamesRow t (terms.ValueUnder i v n) = value_in t i ≡ Some (value_tree v)
TermNamesRow t (terms.HiddenType i ids f r) = opaque_of t i ≡ Some r.now
TermNamesRow t _ = Unit {0}

-- what an entry borrows is what the tables have under the id beside it
abbrev pub NamesItsRows : Tables → InternedEntry → Type 0
NamesItsRows t (entries.Arguments a) = ArgumentsNameRows t a
NamesItsRows t (entries.RowClauses i cs n) = clauses_in t i ≡ Some cs.now
NamesItsRows t (entries.RowConditions c i rs n) = conditions_in t i ≡ Some rs.now
NamesItsRows t (entries.Expected e) = TermNamesRow t e
NamesItsRows t _ = Unit {0}

-- the tree of an alias
abbrev pub IsAlias : Tree → Type 0
IsAlias (alias k ts) = Unit {0}
IsAlias _ = ⊥

-- a predicate equates an alias with a type or a constant, if it is no trait's
abbrev pub IsSortedPredicate : PredicateTree → Type 0
IsSortedPredicate (holds i ts) = Unit {0}
IsSortedPredicate (equals a t) = IsAlias a × IsTerm t
IsSortedPredicate (holds_const c i ts) = Unit {0}

-- an expected term is a type or a constant
abbrev pub IsSortedTerm : ExpectedTerm → Type 0
IsSortedTerm (as_it_stands t) = IsTerm t
IsSortedTerm (head_form_of t) = IsTerm t
IsSortedTerm (chosen_by p t u) = IsSortedPredicate p × IsTerm t × IsTerm u
IsSortedTerm _ = Unit {0}

abbrev pub IsSorted : Entry → Type 0
IsSorted (clause g p) = IsSortedPredicate p
IsSorted (expected e) = IsSortedTerm e
IsSorted _ = Unit {0}

-- so are all entries of a list, if it isn't refused
abbrev pub ListNamesItsRows : Tables → Option (Vec InternedEntry Global) → Type 0
ListNamesItsRows t o = IfSome o (λ es. All (NamesItsRows t) es.items)

abbrev pub ListIsSorted : Option (List Entry) → Type 0
ListIsSorted o = IfSome o (Each IsSorted)

-- a term is the expected one of a goal that asks for one
abbrev pub IsExpected : Option Term → Tree → Type 0
IsExpected None t = ⊥
IsExpected (Some e) t = t ≡ tree_of_term e

-- a candidate that is a clause is sorted
abbrev pub CandidateIsSorted : Candidate → Type 0
CandidateIsSorted (assumption p) = IsSortedPredicate p
CandidateIsSorted _ = Unit {0}

-- the impl of a candidate is the one that the tables have under its id
abbrev pub CandidateIsOf : Tables → InternedCandidate → Type 0
CandidateIsOf t (candidates.Impl r) = impl_of t r.now.id ≡ Some r.now
CandidateIsOf t _ = Unit {0}

-- the item of a projection is the one that the tables have under its id
abbrev pub ProjectionIsOf : Tables → AskedProjection → Type 0
ProjectionIsOf t p = item_of t p.item.now.id ≡ Some p.item.now

-- a claim, if the rows that a candidate and a projection borrow are those of the tables
abbrev pub IfRowsOf : Tables → InternedCandidate → AskedProjection → Type 0 → Type 0
IfRowsOf t c p A = CandidateIsOf t c → ProjectionIsOf t p → A

-- so it is with the row of an impl
abbrev pub ImplIsOf : Tables → ImplRow → Type 0
ImplIsOf t r = impl_of t r.id ≡ Some r

-- and with that of a definition
abbrev pub DefinitionIsOf : Tables → DefRow → Type 0
DefinitionIsOf t d = definition_of t d.id ≡ Some d

-- what each of some entries borrows is what the tables have under the id beside it
abbrev pub EntriesNameRows : Tables → Vec InternedEntry Global → Type 0
EntriesNameRows t = λ es. All (NamesItsRows t) es.items

-- an expected term is the hidden type of an opaque type that is being defined, by arguments of numbers
abbrev pub IsHiddenType : OpaqueId → List TermId → FirstUse → InternedTerm → Type 0
IsHiddenType i ids f (terms.HiddenType j v g r) = (j ≡ i) × (v.items ≡ ids) × (g ≡ f)
IsHiddenType i ids f _ = ⊥

-- it is all that a list asks for
abbrev pub IsDefined : OpaqueId → List TermId → FirstUse → List InternedEntry → Type 0
IsDefined i ids f es = (e : InternedTerm) × IsHiddenType i ids f e × (es ≡ entries.Expected e ∷ [])

-- so it is of the opaque type of a kind of alias
abbrev pub DefinesKind : AliasTermKind → List TermId → FirstUse → List InternedEntry → Type 0
DefinesKind k ids f es = (i : OpaqueId) × (k ≡ OpaqueTy i) × IsDefined i ids f es

-- and of the one that an alias is, by its arguments
abbrev pub Defines : List Tree → AliasTerm → FirstUse → List InternedEntry → Type 0
Defines T a f es = (ids : List TermId) × (map (tree_at T) ids ≡ trees_of a.args.items) × DefinesKind a.kind ids f es
