-- What a rule asks for: predicates and equal terms.
use Rattle.std.specs.Prelude.{List, map}
use Rattle.goal_terms.specs.PredicateTrees.{PredicateTree, holds, equals, holds_const, tree_of_kind}
use Rattle.goal_terms.specs.Tree.{Tree}
use Rattle.goal_terms.specs.TreeOf.{trees_of}
use Rattle.goal_terms.specs.declared.answers.TraitGoalProvenVia.{TraitGoalProvenVia}
use Rattle.goal_terms.specs.declared.ids.TraitId.{TraitId}
use Rattle.goal_terms.specs.declared.predicates.BoundConstness.{BoundConstness}
use Rattle.goal_terms.specs.declared.predicates.Clause.{Clause}
use Rattle.goal_terms.specs.declared.predicates.TraitRef.{TraitRef}
use Rattle.goal_lists.specs.Headers.{under}
use Rattle.goal_lists.specs.Level.{Level}
use Rattle.goal_lists.specs.Words.{Each, Exists}

-- a predicate that must hold, or two terms that must be equal
pub data Premise : Type 0 where
  predicate : PredicateTree → Premise
  equation : Tree → Tree → Premise

-- a trait with its arguments
pub record TraitTree : Type 0 where
  pub def_id : TraitId
  pub args : List Tree

-- what must hold, and which traits must hold as const traits with the goal's constness
pub record ConstRule : Type 0 where
  pub premises : List Premise
  pub conditions : List TraitTree

-- a predicate of a row under arguments
abbrev pub predicate_under : List Tree → PredicateTree → PredicateTree
predicate_under s (holds i ts) = holds i (map (under s) ts)
predicate_under s (equals a t) = equals (under s a) (under s t)
predicate_under s (holds_const c i ts) = holds_const c i (map (under s) ts)

-- a row's where clauses under arguments, as premises; lifetimes that they bind say nothing here
abbrev pub clauses_under : List Tree → List Clause → List Premise
clauses_under s clauses = map (λ c. predicate (predicate_under s (tree_of_kind c.kind))) clauses

-- a row's trait references under arguments
abbrev pub trait_under : List Tree → TraitRef → TraitTree
trait_under s r = record { def_id = r.def_id; args = map (under s) (trees_of r.args.items) }

abbrev pub traits_under : List Tree → List TraitRef → List TraitTree
traits_under s refs = map (trait_under s) refs

-- const conditions, as premises with a constness
abbrev pub conditions_as : BoundConstness → List TraitTree → List Premise
conditions_as c refs = map (λ r. predicate (holds_const c r.def_id r.args)) refs

-- a predicate holds, by the goals of a level
unfoldable pub ClauseHolds : Level → PredicateTree → Type 0
ClauseHolds L (holds i ts) = (c : TraitGoalProvenVia) × L.through c i ts
ClauseHolds L (equals a t) = L.equation_holds a t
ClauseHolds L (holds_const c i ts) = L.const_holds c i ts

-- a predicate is refuted
unfoldable pub ClauseRefuted : Level → PredicateTree → Type 0
ClauseRefuted L (holds i ts) = L.trait_refuted i ts
ClauseRefuted L (equals a t) = L.equation_refuted a t
ClauseRefuted L (holds_const c i ts) = L.const_refuted c i ts

-- a premise holds, or is refuted
unfoldable pub PremiseHolds : Level → Premise → Type 0
PremiseHolds L (predicate p) = ClauseHolds L p
PremiseHolds L (equation t u) = L.equal t u

unfoldable pub PremiseRefuted : Level → Premise → Type 0
PremiseRefuted L (predicate p) = ClauseRefuted L p
PremiseRefuted L (equation t u) = L.unequal t u

-- all premises hold; one of them is refuted
unfoldable pub PremisesHold : Level → List Premise → Type 0
PremisesHold L ps = Each (PremiseHolds L) ps

unfoldable pub PremisesRefuted : Level → List Premise → Type 0
PremisesRefuted L ps = Exists (PremiseRefuted L) ps
