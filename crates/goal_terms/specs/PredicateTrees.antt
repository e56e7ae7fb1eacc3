-- Predicates and clauses without their Rust shape, and what a rewriting makes of them.
use Rattle.std.specs.Prelude.{ℕ, List, map}
use Rattle.goal_terms.specs.Folding.{Folding, raised, folded}
use Rattle.goal_terms.specs.Tree.{Tree}
use Rattle.goal_terms.specs.TreeOf.{tree_of_term, tree_of_alias, trees_of}
use Rattle.goal_terms.specs.declared.ids.TraitId.{TraitId}
use Rattle.goal_terms.specs.declared.predicates.BoundConstness.{BoundConstness}
use Rattle.goal_terms.specs.declared.predicates.Clause.{Clause}
use Rattle.goal_terms.specs.declared.predicates.ClauseKind.{ClauseKind}
use Rattle.goal_terms.specs.declared.predicates.ClauseKind.TheVariants as clause
use Rattle.goal_terms.specs.declared.predicates.HostEffectPredicate.{HostEffectPredicate}
use Rattle.goal_terms.specs.declared.predicates.ProjectionPredicate.{ProjectionPredicate}
use Rattle.goal_terms.specs.declared.predicates.TraitPredicate.{TraitPredicate}
use Rattle.goal_terms.specs.declared.predicates.TraitRef.{TraitRef}

-- a trait with its arguments, that an alias and a term are equal, or a trait that holds as a const trait
pub data PredicateTree : Type 0 where
  holds : TraitId → List Tree → PredicateTree
  equals : Tree → Tree → PredicateTree
  holds_const : BoundConstness → TraitId → List Tree → PredicateTree

-- a predicate below its binder of so many lifetimes
pub record ClauseTree : Type 0 where
  pub bound_regions : ℕ
  pub kind : PredicateTree

-- the trees of predicates and clauses
abbrev pub tree_of_trait_ref : TraitRef → PredicateTree
tree_of_trait_ref r = holds r.def_id (trees_of r.args.items)

abbrev pub tree_of_trait_predicate : TraitPredicate → PredicateTree
tree_of_trait_predicate q = tree_of_trait_ref q.trait_ref

abbrev pub tree_of_projection : ProjectionPredicate → PredicateTree
tree_of_projection q = equals (tree_of_alias q.projection_term) (tree_of_term q.term)

abbrev pub tree_of_host_effect : HostEffectPredicate → PredicateTree
tree_of_host_effect q = holds_const q.constness q.trait_ref.def_id (trees_of q.trait_ref.args.items)

abbrev pub tree_of_kind : ClauseKind → PredicateTree
tree_of_kind (clause.Trait q) = tree_of_trait_predicate q
tree_of_kind (clause.Projection q) = tree_of_projection q
tree_of_kind (clause.HostEffect q) = tree_of_host_effect q

abbrev pub tree_of_whole_clause : Clause → ClauseTree
tree_of_whole_clause c = record { bound_regions = c.bound_regions; kind = tree_of_kind c.kind }

-- a predicate with its terms rewritten, below a number of binders
abbrev pub folded_predicate : Folding → ℕ → PredicateTree → PredicateTree
folded_predicate f d (holds i ts) = holds i (map (folded f d) ts)
folded_predicate f d (equals a t) = equals (folded f d a) (folded f d t)
folded_predicate f d (holds_const c i ts) = holds_const c i (map (folded f d) ts)

-- a clause, which is a binder
abbrev pub folded_clause : Folding → ℕ → ClauseTree → ClauseTree
folded_clause f d c = record { bound_regions = c.bound_regions; kind = folded_predicate f (raised d 1) c.kind }
