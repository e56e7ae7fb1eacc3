-- Rules and candidates whose terms are given by their numbers in a table: what they stand for.
use Rattle.std.specs.Prelude.{◌<◌, List, length, map}
use Rattle.std.specs.List.{All}
use Rattle.goal_terms.specs.Erased.{erased}
use Rattle.goal_terms.specs.PredicateTrees.{PredicateTree, holds, equals, holds_const}
use Rattle.goal_terms.specs.Sorts.{IsArgument}
use Rattle.goal_interner.specs.TableMeaning.{tree_at}
use Rattle.goal_terms.specs.Tree.{Tree}
use Rattle.goal_interner.specs.declared.term_nodes.TermId.{TermId}
use Rattle.goal_lists.specs.Builtins.{Listed, nothing_listed, listed, listed_rigid, listed_by_size}
use Rattle.goal_lists.specs.Candidates.{Candidate, assumption, implied_bound, by_impl, built_in, error}
use Rattle.goal_lists.specs.Premises.{Premise, predicate, equation, TraitTree, ConstRule}
use Rattle.goal_lists.specs.declared.candidates.interned.InternedTrait.{InternedTrait}
use Rattle.goal_lists.specs.declared.candidates.interned.InternedPredicate.{InternedPredicate}
use Rattle.goal_lists.specs.declared.candidates.interned.InternedPredicate.TheVariants as predicates
use Rattle.goal_lists.specs.declared.candidates.interned.InternedPremise.{InternedPremise}
use Rattle.goal_lists.specs.declared.candidates.interned.InternedPremise.TheVariants as premises
use Rattle.goal_lists.specs.declared.candidates.interned.InternedConstRule.{InternedConstRule}
use Rattle.goal_lists.specs.declared.candidates.interned.InternedCandidate.{InternedCandidate}
use Rattle.goal_lists.specs.declared.candidates.interned.InternedCandidate.TheVariants as candidates
use Rattle.goal_lists.specs.declared.candidates.interned.ListedTerm.{ListedTerm}
use Rattle.goal_lists.specs.declared.candidates.interned.ListedTerm.TheVariants as terms

-- the term of a number, without lifetimes
abbrev pub erased_at : List Tree → TermId → Tree
erased_at T id = erased (tree_at T id)

-- the terms of some numbers
abbrev pub erased_all : List Tree → List TermId → List Tree
erased_all T ids = map (erased_at T) ids

-- an argument has this number
abbrev pub IsIn : List Tree → TermId → Type 0
IsIn T id = (id.0 < length T) × IsArgument (tree_at T id)

-- arguments have these numbers
abbrev pub AreIn : List Tree → List TermId → Type 0
AreIn T ids = All (IsIn T) ids

-- a trait with its arguments
abbrev pub trait_at : List Tree → InternedTrait → TraitTree
trait_at T r = record { def_id = r.def_id; args = erased_all T r.args.items }

abbrev pub TraitIn : List Tree → InternedTrait → Type 0
TraitIn T r = AreIn T r.args.items

-- a predicate
abbrev pub predicate_at : List Tree → InternedPredicate → PredicateTree
predicate_at T (predicates.Trait r) = holds r.def_id (erased_all T r.args.items)
predicate_at T (predicates.Projection a t) = equals (erased_at T a) (erased_at T t)
predicate_at T (predicates.HostEffect c r) = holds_const c r.def_id (erased_all T r.args.items)

abbrev pub PredicateIn : List Tree → InternedPredicate → Type 0
PredicateIn T (predicates.Trait r) = TraitIn T r
PredicateIn T (predicates.Projection a t) = IsIn T a × IsIn T t
PredicateIn T (predicates.HostEffect c r) = TraitIn T r

-- a premise
abbrev pub premise_at : List Tree → InternedPremise → Premise
premise_at T (premises.Predicate p) = predicate (predicate_at T p)
premise_at T (premises.Equation a b) = equation (erased_at T a) (erased_at T b)

abbrev pub PremiseIn : List Tree → InternedPremise → Type 0
PremiseIn T (premises.Predicate p) = PredicateIn T p
PremiseIn T (premises.Equation a b) = IsIn T a × IsIn T b

-- what a rule for const traits asks for
abbrev pub const_rule_at : List Tree → InternedConstRule → ConstRule
const_rule_at T r = record { premises = map (premise_at T) r.premises.items; conditions = map (trait_at T) r.conditions.items }

abbrev pub ConstRuleIn : List Tree → InternedConstRule → Type 0
ConstRuleIn T r = All (PremiseIn T) r.premises.items × All (TraitIn T) r.conditions.items

-- a candidate
abbrev pub candidate_at : List Tree → InternedCandidate → Candidate
candidate_at T (candidates.Assumption p) = assumption (predicate_at T p)
candidate_at T (candidates.ImpliedBound b conditions) = implied_bound (trait_at T b) (map (trait_at T) conditions.items)
candidate_at T (candidates.Impl r) = by_impl r.now
candidate_at T candidates.BuiltIn = built_in
candidate_at T candidates.Error = error

abbrev pub CandidateIn : List Tree → InternedCandidate → Type 0
CandidateIn T (candidates.Assumption p) = PredicateIn T p
CandidateIn T (candidates.ImpliedBound b conditions) = TraitIn T b × All (TraitIn T) conditions.items
CandidateIn T (candidates.Impl r) = Unit {0}
CandidateIn T candidates.BuiltIn = Unit {0}
CandidateIn T candidates.Error = Unit {0}

-- what a built-in rule lists
abbrev pub listed_at : List Tree → ListedTerm → Listed
listed_at T terms.Nothing = nothing_listed
listed_at T (terms.Behind ps v) = listed (map (premise_at T) ps.items) (erased_at T v)
listed_at T terms.Rigid = listed_rigid
listed_at T (terms.BySize i) = listed_by_size i

abbrev pub ListedIn : List Tree → ListedTerm → Type 0
ListedIn T terms.Nothing = Unit {0}
ListedIn T (terms.Behind ps v) = All (PremiseIn T) ps.items × IsIn T v
ListedIn T terms.Rigid = Unit {0}
ListedIn T (terms.BySize i) = Unit {0}
