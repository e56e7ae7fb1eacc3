-- Clones of clauses and keys.
use Rattle.std.proofs.Common.{◌≡◌, List, ap, ◌∙◌}
use Rattle.std.specs.List.{AllZip}
use Rattle.goal_terms.specs.PredicateTrees.{holds, equals, holds_const, tree_of_kind, tree_of_trait_ref}
use Rattle.goal_terms.specs.TreeOf.{tree_of_alias, tree_of_term, tree_of_arg, trees_of}
use Rattle.goal_terms.specs.contracts.answers.OpaqueTypeKeyClone.TheImpl.{is_clone-value as is_key_clone}
use Rattle.goal_terms.specs.contracts.predicates.ClauseClone.TheImpl.{is_clone-value}
use Rattle.goal_terms.specs.contracts.predicates.ClauseKindClone.TheImpl.{is_clone-value as is_kind_clone}
use Rattle.goal_terms.specs.contracts.predicates.TraitRefClone.TheImpl.{is_clone-value as is_trait_clone}
use Rattle.goal_terms.specs.declared.answers.OpaqueTypeKey.{OpaqueTypeKey}
use Rattle.goal_terms.specs.declared.predicates.Clause.{Clause}
use Rattle.goal_terms.specs.declared.predicates.ClauseKind.{ClauseKind}
use Rattle.goal_terms.specs.declared.predicates.ClauseKind.TheVariants as clause
use Rattle.goal_terms.specs.declared.predicates.TraitRef.{TraitRef}
use Rattle.goal_terms.specs.declared.terms.GenericArg.{GenericArg}
use Rattle.goal_solver.specs.Stored.{IsSameKey}
use Rattle.goal_solver.proofs.BindingLemmas.{zip-map}

-- arguments
args-clone : (xs ys : List GenericArg) → AllZip (λ a b. tree_of_arg b ≡ tree_of_arg a) xs ys → trees_of ys ≡ trees_of xs
args-clone xs ys h = zip-map (λ a b. tree_of_arg b ≡ tree_of_arg a) tree_of_arg (λ a b e. e) xs ys h

-- a trait with its arguments
trait-clone : (x y : TraitRef) → is_trait_clone.it x y → tree_of_trait_ref y ≡ tree_of_trait_ref x
trait-clone x y r =
    ap (λ i. holds i (trees_of y.args.items)) r.0 ∙ ap (holds x.def_id) (args-clone x.args.items y.args.items r.1.0)

-- what a clause says
pub kind-clone : (x y : ClauseKind) → is_kind_clone.it x y → tree_of_kind y ≡ tree_of_kind x
kind-clone (clause.Trait q) (clause.Trait p) r = trait-clone q.trait_ref p.trait_ref r
kind-clone (clause.Projection q) (clause.Projection p) r = ap (λ t. equals t (tree_of_term p.term)) r.0 ∙ ap (equals (tree_of_alias q.projection_term)) r.1
kind-clone (clause.HostEffect q) (clause.HostEffect p) r =
    ap (λ b. holds_const b p.trait_ref.def_id (trees_of p.trait_ref.args.items)) r.1
    ∙ ap (λ i. holds_const q.constness i (trees_of p.trait_ref.args.items)) r.0.0
    ∙ ap (holds_const q.constness q.trait_ref.def_id) (args-clone q.trait_ref.args.items p.trait_ref.args.items r.0.1.0)
kind-clone (clause.Trait q) (clause.Projection p) r = absurd r
kind-clone (clause.Trait q) (clause.HostEffect p) r = absurd r
kind-clone (clause.Projection q) (clause.Trait p) r = absurd r
kind-clone (clause.Projection q) (clause.HostEffect p) r = absurd r
kind-clone (clause.HostEffect q) (clause.Trait p) r = absurd r
kind-clone (clause.HostEffect q) (clause.Projection p) r = absurd r

-- and a clause
pub clause-regions : (x y : Clause) → is_clone-value.it x y → y.bound_regions ≡ x.bound_regions
clause-regions x y r = r.0

pub clause-kind : (x y : Clause) → is_clone-value.it x y → tree_of_kind y.kind ≡ tree_of_kind x.kind
clause-kind x y r = kind-clone x.kind y.kind r.1

-- and a key
pub key-clone : (x y : OpaqueTypeKey) → is_key_clone.it x y → IsSameKey y x
key-clone x y r = (r.0, args-clone x.args.items y.args.items r.1.0)
