-- What stands in a table of terms stays there, and stays the same, when the table grows.
use Rattle.std.proofs.Common.{◌≡◌, List, [], ◌∷◌, map, ap, ap₂, refl, subst, sym, arith}
use Rattle.std.proofs.lemmas.List.Elements.{All-head, All-tail}
use Rattle.std.specs.List.{All}
use Rattle.std.specs.Prelude.{get_or}
use Rattle.goal_terms.specs.Erased.{erased}
use Rattle.goal_terms.specs.PredicateTrees.{holds, equals, holds_const}
use Rattle.goal_terms.specs.Sorts.{IsArgument}
use Rattle.goal_interner.specs.TableMeaning.{Keeps}
use Rattle.goal_terms.specs.Tree.{Tree}
use Rattle.goal_interner.specs.declared.term_nodes.TermId.{TermId}
use Rattle.goal_lists.specs.Candidates.{assumption, implied_bound}
use Rattle.goal_lists.specs.Interned.{erased_at, erased_all, IsIn, AreIn, trait_at, TraitIn, predicate_at, PredicateIn, premise_at, PremiseIn, candidate_at, CandidateIn}
use Rattle.goal_lists.specs.Premises.{predicate, equation}
use Rattle.goal_lists.specs.declared.candidates.interned.InternedTrait.{InternedTrait}
use Rattle.goal_lists.specs.declared.candidates.interned.InternedPredicate.{InternedPredicate}
use Rattle.goal_lists.specs.declared.candidates.interned.InternedPredicate.TheVariants as predicates
use Rattle.goal_lists.specs.declared.candidates.interned.InternedPremise.{InternedPremise}
use Rattle.goal_lists.specs.declared.candidates.interned.InternedPremise.TheVariants as premises
use Rattle.goal_lists.specs.declared.candidates.interned.InternedCandidate.{InternedCandidate}
use Rattle.goal_lists.specs.declared.candidates.interned.InternedCandidate.TheVariants as candidates

-- lists whose elements each have a property that grows, or stand for something that stays the same
pub all-grow : {A : Type 0} (P Q : A → Type 0) → ((x : A) → P x → Q x) → (xs : List A) → All P xs → All Q xs
all-grow P Q f xs h k d below = f (get_or xs k d) (h k d below)

pub map-same : {A B : Type 0} (P : A → Type 0) (f g : A → B) → ((x : A) → P x → f x ≡ g x) → (xs : List A) → All P xs → map f xs ≡ map g xs
map-same P f g e [] h = refl
map-same P f g e (x ∷ xs) h = ap₂ (λ y ys. y ∷ ys) (e x (All-head P x xs h)) (map-same P f g e xs (All-tail P x xs h))

-- a term
pub in-grown : (T U : List Tree) → Keeps T U → (id : TermId) → IsIn T id → IsIn U id
in-grown T U k id h = (omega (arith, k.longer, h.0), subst IsArgument (sym (k.same id h.0)) h.1)

pub same-grown : (T U : List Tree) → Keeps T U → (id : TermId) → IsIn T id → erased_at U id ≡ erased_at T id
same-grown T U k id h = ap erased (k.same id h.0)

-- some terms
pub are_in-grown : (T U : List Tree) → Keeps T U → (ids : List TermId) → AreIn T ids → AreIn U ids
are_in-grown T U k ids h = all-grow (IsIn T) (IsIn U) (in-grown T U k) ids h

pub all_same-grown : (T U : List Tree) → Keeps T U → (ids : List TermId) → AreIn T ids → erased_all U ids ≡ erased_all T ids
all_same-grown T U k ids h = map-same (IsIn T) (erased_at U) (erased_at T) (same-grown T U k) ids h

-- a trait with its arguments
pub trait_in-grown : (T U : List Tree) → Keeps T U → (r : InternedTrait) → TraitIn T r → TraitIn U r
trait_in-grown T U k r h = are_in-grown T U k r.args.items h

pub trait_same-grown : (T U : List Tree) → Keeps T U → (r : InternedTrait) → TraitIn T r → trait_at U r ≡ trait_at T r
trait_same-grown T U k r h = ap (λ ts. record { def_id = r.def_id; args = ts }) (all_same-grown T U k r.args.items h)

-- a predicate
pub predicate_in-grown : (T U : List Tree) → Keeps T U → (p : InternedPredicate) → PredicateIn T p → PredicateIn U p
predicate_in-grown T U k (predicates.Trait r) h = trait_in-grown T U k r h
predicate_in-grown T U k (predicates.Projection a t) h = (in-grown T U k a h.0, in-grown T U k t h.1)
predicate_in-grown T U k (predicates.HostEffect c r) h = trait_in-grown T U k r h

pub predicate_same-grown : (T U : List Tree) → Keeps T U → (p : InternedPredicate) → PredicateIn T p → predicate_at U p ≡ predicate_at T p
predicate_same-grown T U k (predicates.Trait r) h = ap (holds r.def_id) (all_same-grown T U k r.args.items h)
predicate_same-grown T U k (predicates.Projection a t) h = ap₂ equals (same-grown T U k a h.0) (same-grown T U k t h.1)
predicate_same-grown T U k (predicates.HostEffect c r) h = ap (holds_const c r.def_id) (all_same-grown T U k r.args.items h)

-- a premise
pub premise_in-grown : (T U : List Tree) → Keeps T U → (p : InternedPremise) → PremiseIn T p → PremiseIn U p
premise_in-grown T U k (premises.Predicate p) h = predicate_in-grown T U k p h
premise_in-grown T U k (premises.Equation a b) h = (in-grown T U k a h.0, in-grown T U k b h.1)

pub premise_same-grown : (T U : List Tree) → Keeps T U → (p : InternedPremise) → PremiseIn T p → premise_at U p ≡ premise_at T p
premise_same-grown T U k (premises.Predicate p) h = ap predicate (predicate_same-grown T U k p h)
premise_same-grown T U k (premises.Equation a b) h = ap₂ equation (same-grown T U k a h.0) (same-grown T U k b h.1)

-- a candidate
pub candidate_in-grown : (T U : List Tree) → Keeps T U → (c : InternedCandidate) → CandidateIn T c → CandidateIn U c
candidate_in-grown T U k (candidates.Assumption p) h = predicate_in-grown T U k p h
candidate_in-grown T U k (candidates.ImpliedBound b cs) h =
    (trait_in-grown T U k b h.0, all-grow (TraitIn T) (TraitIn U) (trait_in-grown T U k) cs.items h.1)
candidate_in-grown T U k (candidates.Impl r) h = tt
candidate_in-grown T U k candidates.BuiltIn h = tt
candidate_in-grown T U k candidates.Error h = tt

pub candidate_same-grown : (T U : List Tree) → Keeps T U → (c : InternedCandidate) → CandidateIn T c → candidate_at U c ≡ candidate_at T c
candidate_same-grown T U k (candidates.Assumption p) h = ap assumption (predicate_same-grown T U k p h)
candidate_same-grown T U k (candidates.ImpliedBound b cs) h =
    ap₂ implied_bound (trait_same-grown T U k b h.0) (map-same (TraitIn T) (trait_at U) (trait_at T) (trait_same-grown T U k) cs.items h.1)
candidate_same-grown T U k (candidates.Impl r) h = refl
candidate_same-grown T U k candidates.BuiltIn h = refl
candidate_same-grown T U k candidates.Error h = refl

-- lists of these
pub traits_same-grown : (T U : List Tree) → Keeps T U → (rs : List InternedTrait) → All (TraitIn T) rs → map (trait_at U) rs ≡ map (trait_at T) rs
traits_same-grown T U k rs h = map-same (TraitIn T) (trait_at U) (trait_at T) (trait_same-grown T U k) rs h

pub premises_in-grown : (T U : List Tree) → Keeps T U → (ps : List InternedPremise) → All (PremiseIn T) ps → All (PremiseIn U) ps
premises_in-grown T U k ps h = all-grow (PremiseIn T) (PremiseIn U) (premise_in-grown T U k) ps h

pub premises_same-grown : (T U : List Tree) → Keeps T U → (ps : List InternedPremise) → All (PremiseIn T) ps → map (premise_at U) ps ≡ map (premise_at T) ps
premises_same-grown T U k ps h = map-same (PremiseIn T) (premise_at U) (premise_at T) (premise_same-grown T U k) ps h
