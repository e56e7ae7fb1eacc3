-- Whether the term that a goal asks for is free in a context.
use Rattle.std.specs.Prelude.{Bool, true, false, ◌||◌, List, Option, Some, None, is_some}
use Rattle.std.specs.List.{list_any}
use Rattle.goal_terms.specs.NodeTests.{some_node, is_infer}
use Rattle.goal_terms.specs.Tree.{node_of}
use Rattle.goal_terms.specs.TreeOf.{tree_of_ty, tree_of_term, tree_of_alias}
use Rattle.goal_terms.specs.declared.heads.Node.{Node}
use Rattle.goal_terms.specs.declared.heads.Node.TheVariants as nodes
use Rattle.goal_terms.specs.declared.heads.Variable.{Variable}
use Rattle.goal_terms.specs.declared.heads.Variable.TheVariants as variables
use Rattle.goal_terms.specs.declared.predicates.Clause.{Clause}
use Rattle.goal_terms.specs.declared.predicates.NormalizesTo.{NormalizesTo}
use Rattle.goal_terms.specs.declared.terms.AliasTerm.{AliasTerm}
use Rattle.goal_terms.specs.declared.terms.InferTy.TheVariants as infer
use Rattle.goal_tables.specs.Predicates.{some_in_env}
use Rattle.goal_infer.specs.declared.occurs.Occurrence.{Occurrence}
use Rattle.goal_infer.specs.declared.occurs.Occurrence.TheVariants.{Nowhere, InAliasesAlone, Outside}
use Rattle.goal_infer.specs.Resolution.{binding_of, resolution}
use Rattle.goal_solver.specs.State.{State}

-- whether a variable stands somewhere
abbrev pub is_somewhere : Occurrence → Bool
is_somewhere Nowhere = false
is_somewhere InAliasesAlone = true
is_somewhere Outside = true

-- the general variable at a node
abbrev pub general_variable : Node → Option Variable
general_variable (nodes.Variable (variables.Ty (infer.TyVar n))) = Some (variables.Ty (infer.TyVar n))
general_variable (nodes.Variable (variables.Const n)) = Some (variables.Const n)
general_variable _ = None

-- whether a variable stands in what a node stands for, the bindings of a context being followed
unfoldable pub reaches : State → Variable → Node → Bool
reaches s v (nodes.Head h) = false
reaches s v (nodes.Alias k) = false
reaches s v (nodes.Variable w) = some_node (is_infer v) (resolution s.terms s.inference w)

-- whether a variable is bound
abbrev pub is_bound : State → Variable → Bool
is_bound s v = is_some (binding_of s.inference v)

-- whether a variable stands in a hidden type
abbrev pub stands_in_storage : State → Variable → Bool
stands_in_storage s v = list_any (λ e. some_node (reaches s v) (tree_of_ty e.1)) s.storage

-- whether a variable is bound, or stands in an alias, in an environment or in a hidden type
abbrev pub is_taken : State → Variable → AliasTerm → List Clause → Bool
is_taken s v a env =
    is_bound s v || some_node (reaches s v) (tree_of_alias a) || some_in_env (reaches s v) env || stands_in_storage s v

-- whether what is asked for is no general variable, or one that is taken
abbrev pub lacks_free_variable : State → Option Variable → AliasTerm → List Clause → Bool
lacks_free_variable s None a env = true
lacks_free_variable s (Some v) a env = is_taken s v a env

-- whether the expected term of a goal isn't free
abbrev pub lacks_free_term : State → NormalizesTo → List Clause → Bool
lacks_free_term s q env = lacks_free_variable s (general_variable (node_of (tree_of_term q.term))) q.alias env
