-- Fresh variables.
use Rattle.std.specs.Prelude.{ℕ, suc, List, [], ◌∷◌, ◌++◌, map, None}
use Rattle.goal_terms.specs.Tree.{Tree, variable}
use Rattle.goal_terms.specs.TreeOf.{leaf}
use Rattle.goal_terms.specs.declared.answers.ParamKind.{ParamKind}
use Rattle.goal_terms.specs.declared.answers.ParamKind.TheVariants as param
use Rattle.goal_terms.specs.declared.answers.VarKind.{VarKind}
use Rattle.goal_terms.specs.declared.answers.VarKind.TheVariants as kind
use Rattle.goal_terms.specs.declared.heads.Head.TheVariants as head
use Rattle.goal_terms.specs.declared.heads.Variable.TheVariants as variables
use Rattle.goal_terms.specs.declared.terms.InferTy.TheVariants as infer
use Rattle.goal_terms.specs.declared.terms.Region.TheVariants as region
use Rattle.goal_infer.specs.Inference.{Inference}
use Rattle.goal_infer.specs.declared.undo.InferVariable.{InferVariable}
use Rattle.goal_solver.specs.State.{State}

-- an unbound variable of a kind
abbrev pub unbound : VarKind → InferVariable
unbound k = record { kind = k; binding = None }

-- the variables of a state, and unbound ones of these kinds after them
abbrev pub with_kinds : List VarKind → Inference → Inference
with_kinds ks s = record s { variables = s.variables ++ map unbound ks }

-- a context with unbound variables of these kinds, and nothing else changed
abbrev pub with_variables : List VarKind → State → State
with_variables ks s = record s { inference = with_kinds ks s.inference }

-- the kind of the variable that stands for a parameter
abbrev pub kind_for : ParamKind → VarKind
kind_for param.Ty = kind.Ty
kind_for param.Const = kind.Const
kind_for param.Lifetime = kind.Region

-- the argument that is the variable of a number
abbrev pub fresh_arg : ParamKind → ℕ → Tree
fresh_arg param.Ty n = variable (variables.Ty (infer.TyVar n))
fresh_arg param.Const n = variable (variables.Const n)
fresh_arg param.Lifetime n = leaf (head.Lifetime (region.Var n))

-- the arguments that are the variables from a number on
abbrev pub fresh_args : List ParamKind → ℕ → List Tree
fresh_args [] n = []
fresh_args (k ∷ ks) n = fresh_arg k n ∷ fresh_args ks (suc n)
