-- Flaws: that an id, a number of arguments or a kind is wrong in a goal, or that something in it passes a test.
use Rattle.std.specs.Prelude.{Bool, ◌||◌, List, []}
use Rattle.std.specs.List.{list_any}
use Rattle.goal_terms.specs.NodeTests.{some_node}
use Rattle.goal_terms.specs.Tree.{Tree, node_of}
use Rattle.goal_terms.specs.TreeOf.{tree_of_arg}
use Rattle.goal_terms.specs.declared.heads.Node.{Node}
use Rattle.goal_terms.specs.declared.predicates.Clause.{Clause}
use Rattle.goal_terms.specs.declared.predicates.ClauseKind.{ClauseKind}
use Rattle.goal_terms.specs.declared.predicates.TraitRef.{TraitRef}
use Rattle.goal_terms.specs.declared.terms.AliasTerm.{AliasTerm}
use Rattle.goal_terms.specs.declared.terms.GenericArg.{GenericArg}
use Rattle.goal_terms.specs.declared.terms.Term.{Term}
use Rattle.goal_tables.specs.Clauses.{lies_in_trait_ref, lies_in_equation, lies_in_clause_kind}
use Rattle.goal_tables.specs.Predicates.{some_in_args, some_in_equation, some_in_clause_kind}
use Rattle.goal_tables.specs.Sites.{lies_here, lies_in}
use Rattle.goal_tables.specs.declared.rows.Tables.{Tables}
use Rattle.goal_tables.specs.declared.faults.TermFault.{TermFault}
use Rattle.goal_tables.specs.declared.faults.TermFault.TheVariants.{UnknownItem, WrongArgumentCount, WrongArgumentKind}

-- whether there is a flaw, by which faults lie in something and whether something in it passes
abbrev pub is_flawed : (TermFault → Bool) → Bool → Bool
is_flawed lies passes = lies UnknownItem || lies WrongArgumentCount || lies WrongArgumentKind || passes

-- whether one lies at the top of a term
unfoldable pub flaw_lies_here : Tables → (Node → Bool) → Tree → Bool
flaw_lies_here t p u = is_flawed (λ f. lies_here t [] f u) (p (node_of u))

-- whether one lies anywhere in a term
unfoldable pub flaw_lies_in : Tables → (Node → Bool) → Tree → Bool
flaw_lies_in t p u = is_flawed (λ f. lies_in t [] f u) (some_node p u)

-- in some argument
abbrev pub flaw_lies_in_args : Tables → (Node → Bool) → List GenericArg → Bool
flaw_lies_in_args t p args = list_any (λ a. flaw_lies_in t p (tree_of_arg a)) args

-- in a trait reference
unfoldable pub flaw_lies_in_trait_ref : Tables → (Node → Bool) → TraitRef → Bool
flaw_lies_in_trait_ref t p r = is_flawed (λ f. lies_in_trait_ref t [] f r) (some_in_args p r.args.items)

-- in an alias, in a term that it is to equal, or between the two
unfoldable pub flaw_lies_in_equation : Tables → (Node → Bool) → AliasTerm → Term → Bool
flaw_lies_in_equation t p a e = is_flawed (λ f. lies_in_equation t [] f a e) (some_in_equation p a e)

-- in a clause
unfoldable pub flaw_lies_in_clause_kind : Tables → (Node → Bool) → ClauseKind → Bool
flaw_lies_in_clause_kind t p k = is_flawed (λ f. lies_in_clause_kind t [] f k) (some_in_clause_kind p k)

-- in some clause of an environment
abbrev pub flaw_lies_in_env : Tables → (Node → Bool) → List Clause → Bool
flaw_lies_in_env t p env = list_any (λ c. flaw_lies_in_clause_kind t p c.kind) env
