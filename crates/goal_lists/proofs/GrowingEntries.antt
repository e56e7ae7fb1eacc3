-- Entries in a table of terms stay there, and stay the same, when the table grows.
use Rattle.std.proofs.Common.{◌≡◌, List, ap, ap₂, refl}
use Rattle.goal_interner.specs.TableMeaning.{Keeps}
use Rattle.goal_terms.specs.Tree.{Tree}
use Rattle.goal_terms.specs.TreeOf.{tree_of_ty}
use Rattle.goal_lists.specs.Entries.{given_arguments, of_header, followed_by, as_it_stands, head_form_of, arguments, equal_terms, clause, expected, hidden_type}
use Rattle.goal_lists.specs.InternedEntries.{header_trees, arguments_at, ArgumentsIn, term_at, TermIn, entry_at, EntryIn, projection_at, ProjectionIn}
use Rattle.goal_lists.specs.declared.lists.AskedProjection.{AskedProjection}
use Rattle.goal_lists.specs.declared.lists.InternedArguments.{InternedArguments}
use Rattle.goal_lists.specs.declared.lists.InternedArguments.TheVariants as named
use Rattle.goal_lists.specs.declared.lists.InternedTerm.{InternedTerm}
use Rattle.goal_lists.specs.declared.lists.InternedTerm.TheVariants as terms
use Rattle.goal_lists.specs.declared.lists.InternedEntry.{InternedEntry}
use Rattle.goal_lists.specs.declared.lists.InternedEntry.TheVariants as entries
use Rattle.goal_lists.proofs.InternedLemmas.{in-grown, same-grown, are_in-grown, all_same-grown, predicate_in-grown, predicate_same-grown}

-- arguments that are named
pub arguments_in-grown : (T U : List Tree) → Keeps T U → (a : InternedArguments) → ArgumentsIn T a → ArgumentsIn U a
arguments_in-grown T U k (named.Given ids) h = are_in-grown T U k ids.items h
arguments_in-grown T U k (named.OfHeader i r ids) h = are_in-grown T U k ids.items h
arguments_in-grown T U k (named.OfOtherHeader i j r args n) h = tt
arguments_in-grown T U k (named.FollowedBy n ids) h = are_in-grown T U k ids.items h

pub arguments_same-grown : (T U : List Tree) → Keeps T U → (a : InternedArguments) → ArgumentsIn T a → arguments_at U a ≡ arguments_at T a
arguments_same-grown T U k (named.Given ids) h = ap given_arguments (all_same-grown T U k ids.items h)
arguments_same-grown T U k (named.OfHeader i r ids) h = ap (of_header r.params.now (header_trees r.terms)) (all_same-grown T U k ids.items h)
arguments_same-grown T U k (named.OfOtherHeader i j r args n) h = refl
arguments_same-grown T U k (named.FollowedBy n ids) h = ap (followed_by n) (all_same-grown T U k ids.items h)

-- what the expected term is
pub term_in-grown : (T U : List Tree) → Keeps T U → (e : InternedTerm) → TermIn T e → TermIn U e
term_in-grown T U k (terms.AsItStands id) h = in-grown T U k id h
term_in-grown T U k (terms.HeadFormOf id) h = in-grown T U k id h
term_in-grown T U k (terms.ValueUnder i v n) h = tt
term_in-grown T U k (terms.HiddenType i ids f r) h = are_in-grown T U k ids.items h
term_in-grown T U k (terms.ChosenBy p a b) h = (predicate_in-grown T U k p h.0, in-grown T U k a h.1, in-grown T U k b h.2)

pub term_same-grown : (T U : List Tree) → Keeps T U → (e : InternedTerm) → TermIn T e → term_at U e ≡ term_at T e
term_same-grown T U k (terms.AsItStands id) h = ap as_it_stands (same-grown T U k id h)
term_same-grown T U k (terms.HeadFormOf id) h = ap head_form_of (same-grown T U k id h)
term_same-grown T U k (terms.ValueUnder i v n) h = refl
term_same-grown T U k (terms.HiddenType i ids f r) h = ap (λ args. hidden_type i args f (tree_of_ty r.now.typeck_hidden) r.now.bounds.items) (all_same-grown T U k ids.items h)
term_same-grown T U k (terms.ChosenBy p a b) h =
    let first = predicate_same-grown T U k p h.0 in
    let second = same-grown T U k a h.1 in
    let third = same-grown T U k b h.2 in
    cc (first, second, third)

-- an entry
pub entry_in-grown : (T U : List Tree) → Keeps T U → (e : InternedEntry) → EntryIn T e → EntryIn U e
entry_in-grown T U k (entries.Arguments a) h = arguments_in-grown T U k a h
entry_in-grown T U k (entries.EqualTerms a b) h = (are_in-grown T U k a.items h.0, are_in-grown T U k b.items h.1)
entry_in-grown T U k (entries.Clause g p) h = predicate_in-grown T U k p h
entry_in-grown T U k (entries.RowClauses r cs n) h = tt
entry_in-grown T U k (entries.RowConditions c i rs n) h = tt
entry_in-grown T U k (entries.Expected e) h = term_in-grown T U k e h
entry_in-grown T U k (entries.Access a) h = tt
entry_in-grown T U k (entries.DelayedFault f) h = tt
entry_in-grown T U k entries.Evaluation h = tt
entry_in-grown T U k entries.Ambiguous h = tt
entry_in-grown T U k entries.Undecided h = tt
entry_in-grown T U k entries.Refused h = tt

pub entry_same-grown : (T U : List Tree) → Keeps T U → (e : InternedEntry) → EntryIn T e → entry_at U e ≡ entry_at T e
entry_same-grown T U k (entries.Arguments a) h = ap arguments (arguments_same-grown T U k a h)
entry_same-grown T U k (entries.EqualTerms a b) h = ap₂ equal_terms (all_same-grown T U k a.items h.0) (all_same-grown T U k b.items h.1)
entry_same-grown T U k (entries.Clause g p) h = ap (clause g) (predicate_same-grown T U k p h)
entry_same-grown T U k (entries.RowClauses r cs n) h = refl
entry_same-grown T U k (entries.RowConditions c i rs n) h = refl
entry_same-grown T U k (entries.Expected e) h = ap expected (term_same-grown T U k e h)
entry_same-grown T U k (entries.Access a) h = refl
entry_same-grown T U k (entries.DelayedFault f) h = refl
entry_same-grown T U k entries.Evaluation h = refl
entry_same-grown T U k entries.Ambiguous h = refl
entry_same-grown T U k entries.Undecided h = refl
entry_same-grown T U k entries.Refused h = refl

-- a projection as it is asked
pub projection_in-grown : (T U : List Tree) → Keeps T U → (p : AskedProjection) → ProjectionIn T p → ProjectionIn U p
projection_in-grown T U k p h = (are_in-grown T U k p.args.now h.0, in-grown T U k p.rigid_alias h.1)

pub projection_same-grown : (T U : List Tree) → Keeps T U → (p : AskedProjection) → ProjectionIn T p → projection_at U p ≡ projection_at T p
projection_same-grown T U k p h =
    ap (λ ts. record { item = p.item.now; trait_params = p.trait_params; args = ts }) (all_same-grown T U k p.args.now h.0)
