-- Tests of what stands in a term.
use Rattle.std.specs.Prelude.{ℕ, zero, suc, Bool, true, false, ◌==◌, ◌||◌, not, List, [], ◌∷◌, Option, Some, None}
use Rattle.goal_terms.specs.Tree.{Tree, Trees, node, alias, variable, none, more}
use Rattle.goal_terms.specs.Regions.{region_of}
use Rattle.goal_terms.specs.SameTree.{same_node}
use Rattle.goal_terms.specs.declared.answers.VarKind.{VarKind}
use Rattle.goal_terms.specs.declared.answers.VarKind.TheVariants as kind
use Rattle.goal_terms.specs.declared.heads.Head.TheVariants.{TyError, ConstError}
use Rattle.goal_terms.specs.declared.heads.Node.{Node}
use Rattle.goal_terms.specs.declared.heads.Node.TheVariants as nodes
use Rattle.goal_terms.specs.declared.heads.Variable.{Variable}
use Rattle.goal_terms.specs.declared.heads.Variable.TheVariants as variables
use Rattle.goal_terms.specs.declared.terms.InferTy.TheVariants as infer
use Rattle.goal_terms.specs.declared.terms.Region.{Region}
use Rattle.goal_terms.specs.declared.terms.Region.TheVariants as regions
use Rattle.goal_terms.specs.declared.node_tests.NodeTest.{NodeTest}
use Rattle.goal_terms.specs.declared.node_tests.NodeTest.TheVariants as test
use Rattle.goal_terms.specs.declared.node_tests.Within.{Within}
use Rattle.goal_terms.specs.declared.node_tests.Within.TheVariants.{Everything, OutsideAliases}

-- whether two kinds of variables are the same
abbrev pub same_var_kind : VarKind → VarKind → Bool
same_var_kind kind.Ty kind.Ty = true
same_var_kind kind.Int kind.Int = true
same_var_kind kind.Float kind.Float = true
same_var_kind kind.Const kind.Const = true
same_var_kind kind.Region kind.Region = true
same_var_kind _ _ = false

-- whether a variable of this number and kind was made
abbrev pub is_made : List VarKind → ℕ → VarKind → Bool
is_made [] n k = false
is_made (v ∷ vs) zero k = same_var_kind v k
is_made (v ∷ vs) (suc n) k = is_made vs n k

-- whether a lifetime is a variable that wasn't made
abbrev pub region_is_unmade : List VarKind → Option Region → Bool
region_is_unmade vs (Some (regions.Var n)) = not (is_made vs n kind.Region)
region_is_unmade vs _ = false

-- whether a node is, or names as its lifetime, a variable that wasn't made
abbrev pub is_unmade : List VarKind → Node → Bool
is_unmade vs (nodes.Variable (variables.Ty (infer.TyVar n))) = not (is_made vs n kind.Ty)
is_unmade vs (nodes.Variable (variables.Ty (infer.IntVar n))) = not (is_made vs n kind.Int)
is_unmade vs (nodes.Variable (variables.Ty (infer.FloatVar n))) = not (is_made vs n kind.Float)
is_unmade vs (nodes.Variable (variables.Const n)) = not (is_made vs n kind.Const)
is_unmade vs (nodes.Head h) = region_is_unmade vs (region_of (nodes.Head h))
is_unmade vs (nodes.Alias k) = false

-- the number of a general variable
abbrev pub general_variable_at : Node → Option ℕ
general_variable_at (nodes.Variable (variables.Ty (infer.TyVar n))) = Some n
general_variable_at (nodes.Variable (variables.Const n)) = Some n
general_variable_at _ = None

-- whether a node is the general variable of this number
abbrev pub has_number : ℕ → Option ℕ → Bool
has_number n None = false
has_number n (Some m) = m == n

-- whether a node is this inference variable
abbrev pub is_infer : Variable → Node → Bool
is_infer v n = same_node n (nodes.Variable v)

-- whether a node is an inference variable
abbrev pub is_any_infer : Node → Bool
is_any_infer (nodes.Head h) = false
is_any_infer (nodes.Alias k) = false
is_any_infer (nodes.Variable v) = true

-- whether a node is an alias
abbrev pub is_alias : Node → Bool
is_alias (nodes.Head h) = false
is_alias (nodes.Alias k) = true
is_alias (nodes.Variable v) = false

-- whether a node is an error
abbrev pub is_error : Node → Bool
is_error (nodes.Head (TyError n)) = true
is_error (nodes.Head (ConstError n)) = true
is_error _ = false

-- whether a node passes a test
abbrev pub passes : NodeTest → Node → Bool
passes (test.Unmade made) n = is_unmade made.now n
passes (test.IsVariable number) n = has_number number (general_variable_at n)
passes (test.IsInfer v) n = is_infer v n
passes test.IsAnyInfer n = is_any_infer n
passes test.IsError n = is_error n

-- whether some node of a term passes
unfoldable mutual
  pub some_node : (Node → Bool) → Tree → Bool
  some_node p (node h ts) = p (nodes.Head h) || some_in_row p ts
  some_node p (alias k ts) = p (nodes.Alias k) || some_in_row p ts
  some_node p (variable v) = p (nodes.Variable v)

  pub some_in_row : (Node → Bool) → Trees → Bool
  some_in_row p none = false
  some_in_row p (more t ts) = some_node p t || some_in_row p ts

-- whether some node of a term passes that is no alias and stands in none
unfoldable mutual
  pub some_node_outside_aliases : (Node → Bool) → Tree → Bool
  some_node_outside_aliases p (node h ts) = p (nodes.Head h) || some_in_row_outside_aliases p ts
  some_node_outside_aliases p (alias k ts) = false
  some_node_outside_aliases p (variable v) = p (nodes.Variable v)

  pub some_in_row_outside_aliases : (Node → Bool) → Trees → Bool
  some_in_row_outside_aliases p none = false
  some_in_row_outside_aliases p (more t ts) = some_node_outside_aliases p t || some_in_row_outside_aliases p ts

-- whether a test doesn't look at a node, nor at what stands in it
abbrev pub is_left_out : Within → Node → Bool
is_left_out OutsideAliases (nodes.Alias k) = true
is_left_out _ _ = false

-- whether some node of a term passes, where the test looks
abbrev pub some_node_within : Within → (Node → Bool) → Tree → Bool
some_node_within Everything p t = some_node p t
some_node_within OutsideAliases p t = some_node_outside_aliases p t
