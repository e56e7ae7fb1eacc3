-- What stands in predicates and in environments.
use Rattle.std.specs.Prelude.{Bool, false, ◌||◌, List, [], Option, Some, None}
use Rattle.std.specs.List.{list_any}
use Rattle.goal_terms.specs.NodeTests.{some_node}
use Rattle.goal_terms.specs.TreeOf.{tree_of_arg, tree_of_term, tree_of_alias}
use Rattle.goal_terms.specs.declared.heads.Node.{Node}
use Rattle.goal_terms.specs.declared.predicates.Clause.{Clause}
use Rattle.goal_terms.specs.declared.predicates.ClauseKind.{ClauseKind}
use Rattle.goal_terms.specs.declared.predicates.ClauseKind.TheVariants as clause
use Rattle.goal_terms.specs.declared.predicates.NormalizesTo.{NormalizesTo}
use Rattle.goal_terms.specs.declared.predicates.Predicate.{Predicate}
use Rattle.goal_terms.specs.declared.predicates.Predicate.TheVariants as predicate
use Rattle.goal_terms.specs.declared.terms.AliasTerm.{AliasTerm}
use Rattle.goal_terms.specs.declared.terms.GenericArg.{GenericArg}
use Rattle.goal_terms.specs.declared.terms.Term.{Term}
use Rattle.goal_tables.specs.Clauses.{lies_in_trait_ref, lies_in_const_ref, lies_in_equation, lies_in_clauses}
use Rattle.goal_tables.specs.declared.rows.Tables.{Tables}
use Rattle.goal_tables.specs.declared.faults.TermFault.{TermFault}

-- whether a fault lies in an environment; parameters of any number may stand in it
abbrev pub lies_in_env : Tables → TermFault → List Clause → Bool
lies_in_env t f env = lies_in_clauses t [] f env

-- whether something in the arguments passes a test
abbrev pub some_in_args : (Node → Bool) → List GenericArg → Bool
some_in_args p args = list_any (λ a. some_node p (tree_of_arg a)) args

-- whether something in an alias or in a term passes
abbrev pub some_in_equation : (Node → Bool) → AliasTerm → Term → Bool
some_in_equation p a e = some_node p (tree_of_alias a) || some_node p (tree_of_term e)

-- whether something in a clause passes
abbrev pub some_in_clause_kind : (Node → Bool) → ClauseKind → Bool
some_in_clause_kind p (clause.Trait q) = some_in_args p q.trait_ref.args.items
some_in_clause_kind p (clause.Projection q) = some_in_equation p q.projection_term q.term
some_in_clause_kind p (clause.HostEffect q) = some_in_args p q.trait_ref.args.items

-- whether something in an environment passes
abbrev pub some_in_env : (Node → Bool) → List Clause → Bool
some_in_env p env = list_any (λ c. some_in_clause_kind p c.kind) env

-- whether a fault lies in a predicate
abbrev pub lies_in_predicate : Tables → TermFault → Predicate → Bool
lies_in_predicate t f (predicate.Trait q) = lies_in_trait_ref t [] f q.trait_ref
lies_in_predicate t f (predicate.Projection q) = lies_in_equation t [] f q.projection_term q.term
lies_in_predicate t f (predicate.HostEffect q) = lies_in_const_ref t [] f q.trait_ref
lies_in_predicate t f (predicate.NormalizesTo q) = lies_in_equation t [] f q.alias q.term
lies_in_predicate t f predicate.Ambiguous = false

-- whether something in a predicate passes a test
abbrev pub some_in_predicate : (Node → Bool) → Predicate → Bool
some_in_predicate p (predicate.Trait q) = some_in_args p q.trait_ref.args.items
some_in_predicate p (predicate.Projection q) = some_in_equation p q.projection_term q.term
some_in_predicate p (predicate.HostEffect q) = some_in_args p q.trait_ref.args.items
some_in_predicate p (predicate.NormalizesTo q) = some_in_equation p q.alias q.term
some_in_predicate p predicate.Ambiguous = false

-- the goal of an alias's term, if a predicate is one
abbrev pub normalization_of : Predicate → Option NormalizesTo
normalization_of (predicate.NormalizesTo q) = Some q
normalization_of (predicate.Trait q) = None
normalization_of (predicate.Projection q) = None
normalization_of (predicate.HostEffect q) = None
normalization_of predicate.Ambiguous = None
