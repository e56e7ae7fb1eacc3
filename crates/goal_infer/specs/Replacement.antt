-- Terms with trees put for their inference variables.
use Rattle.std.specs.Prelude.{ℕ, Bool, true, false, IsTrue}
use Rattle.goal_terms.specs.Tree.{Tree, Trees, node, alias, variable, none, more, node_of}
use Rattle.goal_terms.specs.SameTree.{same_node}
use Rattle.goal_terms.specs.Sorts.{sort_of}
use Rattle.goal_terms.specs.declared.answers.VarKind.{VarKind}
use Rattle.goal_terms.specs.declared.answers.VarKind.TheVariants as kind
use Rattle.goal_terms.specs.declared.heads.Head.TheVariants as head
use Rattle.goal_terms.specs.declared.heads.Node.{Node}
use Rattle.goal_terms.specs.declared.heads.Node.TheVariants as nodes
use Rattle.goal_terms.specs.declared.heads.Variable.{Variable}
use Rattle.goal_terms.specs.declared.heads.Variable.TheVariants as variables
use Rattle.goal_terms.specs.declared.sorts.Sort.{Sort}
use Rattle.goal_terms.specs.declared.sorts.Sort.TheVariants as sorts
use Rattle.goal_terms.specs.declared.terms.InferTy.TheVariants as infer

-- the number of a variable
abbrev pub number_of : Variable → ℕ
number_of (variables.Ty (infer.TyVar n)) = n
number_of (variables.Ty (infer.IntVar n)) = n
number_of (variables.Ty (infer.FloatVar n)) = n
number_of (variables.Const n) = n

-- what a variable stands for
abbrev pub kind_of_variable : Variable → VarKind
kind_of_variable (variables.Ty (infer.TyVar n)) = kind.Ty
kind_of_variable (variables.Ty (infer.IntVar n)) = kind.Int
kind_of_variable (variables.Ty (infer.FloatVar n)) = kind.Float
kind_of_variable (variables.Const n) = kind.Const

-- whether two variables are the same
abbrev pub same_variable : Variable → Variable → Bool
same_variable v w = same_node (nodes.Variable v) (nodes.Variable w)

-- a term with trees put for its variables
unfoldable mutual
  pub replaced : (Variable → Tree) → Tree → Tree
  replaced ρ (node h ts) = node h (replaced_row ρ ts)
  replaced ρ (alias k ts) = alias k (replaced_row ρ ts)
  replaced ρ (variable v) = ρ v

  pub replaced_row : (Variable → Tree) → Trees → Trees
  replaced_row ρ none = none
  replaced_row ρ (more t ts) = more (replaced ρ t) (replaced_row ρ ts)

-- whether a sort is that of types
abbrev pub is_type_sort : Sort → Bool
is_type_sort sorts.Ty = true
is_type_sort sorts.Const = false
is_type_sort sorts.Lifetime = false
is_type_sort sorts.Clause = false

-- whether a term is a type
abbrev pub is_type : Tree → Bool
is_type t = is_type_sort (sort_of (node_of t))

-- whether a sort is that of constants
abbrev pub is_const_sort : Sort → Bool
is_const_sort sorts.Ty = false
is_const_sort sorts.Const = true
is_const_sort sorts.Lifetime = false
is_const_sort sorts.Clause = false

-- whether a node is an integer type or a variable for one
abbrev pub is_integer : Node → Bool
is_integer (nodes.Head (head.Int i)) = true
is_integer (nodes.Head (head.Uint i)) = true
is_integer (nodes.Variable (variables.Ty (infer.IntVar n))) = true
is_integer _ = false

-- whether a node is a floating type or a variable for one
abbrev pub is_floating : Node → Bool
is_floating (nodes.Head (head.Float i)) = true
is_floating (nodes.Variable (variables.Ty (infer.FloatVar n))) = true
is_floating _ = false

-- whether a variable may stand for what has a node at its top
unfoldable pub takes : Variable → Node → Bool
takes (variables.Ty (infer.TyVar n)) m = is_type_sort (sort_of m)
takes (variables.Ty (infer.IntVar n)) m = is_integer m
takes (variables.Ty (infer.FloatVar n)) m = is_floating m
takes (variables.Const n) m = is_const_sort (sort_of m)

-- for each variable stands a tree that it may stand for
unfoldable pub OfKinds : (Variable → Tree) → Type 0
OfKinds ρ = (v : Variable) → IsTrue (takes v (node_of (ρ v)))
