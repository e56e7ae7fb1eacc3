-- Opaque types that are being defined: their arguments are normalized, and their hidden types are entered by these.
use Rattle.std.specs.Prelude.{◌≡◌, false, List, [], ◌∷◌, ◌++◌, Option, Some, None, option_map, Result, Ok, Err, IfOk}
use Rattle.goal_terms.specs.Tree.{Tree, node_of}
use Rattle.goal_terms.specs.TreeOf.{tree_of_arg, tree_of_const, tree_of_term, tree_of_ty, trees_of}
use Rattle.goal_terms.specs.declared.answers.OpaqueTypeKey.{OpaqueTypeKey}
use Rattle.goal_terms.specs.declared.ids.OpaqueId.{OpaqueId}
use Rattle.goal_terms.specs.declared.modes.TypingMode.{TypingMode}
use Rattle.goal_terms.specs.declared.predicates.Clause.{Clause}
use Rattle.goal_terms.specs.declared.terms.GenericArg.{GenericArg}
use Rattle.goal_terms.specs.declared.terms.GenericArg.TheVariants as argument
use Rattle.goal_terms.specs.declared.terms.Term.{Term}
use Rattle.goal_terms.specs.declared.terms.Ty.{Ty}
use Rattle.goal_tables.specs.Rows.{opaque_of}
use Rattle.goal_tables.specs.declared.rows.OpaqueRow.{OpaqueRow}
use Rattle.goal_tables.specs.declared.rows.Tables.{Tables}
use Rattle.goal_kinds.specs.declared.faults.Fault.{Fault}
use Rattle.goal_kinds.specs.declared.faults.Fault.TheVariants as fault
use Rattle.goal_solver.specs.Added.{EntersType}
use Rattle.goal_solver.specs.Answers.{IsOwed, level_over}
use Rattle.goal_solver.specs.Binding.{bound_term}
use Rattle.goal_solver.specs.GoingBack.{restored}
use Rattle.goal_solver.specs.HeadForms.{IsClosedForm, IsFormAnswer, IsFormOpen, IsAnswered}
use Rattle.goal_eval.specs.Pending.{is_alias}
use Rattle.goal_solver.specs.State.{State}

-- the head form of a term is asked for, as `structurally_normalize_term` answers it, but that an alias with inference variables has none
pub record AsksForm (env : List Clause) (t : Tree) (old new : State) (r : Result (Option Term) Fault) : Type 0 where
  pub sound : (m : TypingMode) → IsOwed new m → IsFormAnswer (level_over old m env) (bound_term old t) r
  pub decided : (m : TypingMode) → IsOwed new m → IsClosedForm (bound_term old t) env → r ≡ Ok None → IsFormOpen (level_over old m env) (bound_term old t)
  pub itself : is_alias (node_of (bound_term old t)) ≡ false → IfOk r (IsAnswered (bound_term old t))
  pub back : new ≡ restored old new

-- the type or the constant that an argument is
abbrev pub tree_in : GenericArg → Option Tree
tree_in (argument.Ty t) = Some (tree_of_ty t)
tree_in (argument.Const c) = Some (tree_of_const c)
tree_in (argument.Lifetime r) = None

-- what is found for the type or the constant that an argument is, if it is one; else the argument stays as it is
abbrev pub NormalizesTerm : List Clause → Tree → Option Tree → State → Option Tree → State → Type 0
NormalizesTerm env t None s o u = (o ≡ Some t) × (u ≡ s)
NormalizesTerm env t (Some e) s o u = (a : Option Term) × AsksForm env e s u (Ok a) × (o ≡ option_map tree_of_term a)

-- an argument is normalized; nothing is found where its head form is undecided
abbrev pub NormalizesArg : List Clause → GenericArg → State → Option Tree → State → Type 0
NormalizesArg env x s o u = NormalizesTerm env (tree_of_arg x) (tree_in x) s o u

-- what is found comes behind what was found before it, if both are there
abbrev pub behind_all : Option (List Tree) → Option Tree → Option (List Tree)
behind_all (Some ts) (Some t) = Some (ts ++ t ∷ [])
behind_all (Some ts) None = None
behind_all None o = None

-- some arguments are normalized, in order, behind what was found before them
unfoldable pub NormalizesAll : List Clause → Option (List Tree) → List GenericArg → State → Option (List Tree) → State → Type 0
NormalizesAll env made [] s o u = (o ≡ made) × (u ≡ s)
NormalizesAll env made (x ∷ xs) s o u = (z : State) × (a : Option Tree) × NormalizesArg env x s a z × NormalizesAll env (behind_all made a) xs z o u

-- all arguments of an opaque type are normalized; nothing is found where one of them is undecided
abbrev pub NormalizesArgs : List Clause → List GenericArg → State → Option (List Tree) → State → Type 0
NormalizesArgs env xs s o u = NormalizesAll env (Some []) xs s o u

-- it is refuted that an argument has a head form
abbrev pub RefusesArg : List Clause → GenericArg → State → State → Type 0
RefusesArg env x s u = (t : Tree) × (tree_in x ≡ Some t) × AsksForm env t s u (Err fault.NoSolution)

-- so it is of one of some arguments, and not of those before it
pub record RefusesArgs (env : List Clause) (xs : List GenericArg) (old new : State) : Type 0 where
  pub before : List GenericArg
  pub at : GenericArg
  pub behind : List GenericArg
  pub split : xs ≡ before ++ at ∷ behind
  pub last : State
  pub made : Option (List Tree)
  pub normalized : NormalizesArgs env before old made last
  pub refused : RefusesArg env at last new

-- a type is entered for an opaque type under arguments, as `register_hidden_type_in_storage` does it
pub record EntersHidden (i : OpaqueId) (ts : List Tree) (v : Tree) (old new : State) (earlier : Option Ty) : Type 0 where
  pub key : OpaqueTypeKey
  pub hidden : Ty
  pub same_type : key.def_id ≡ i
  pub same_args : trees_of key.args.items ≡ ts
  pub same_hidden : tree_of_ty hidden ≡ v
  pub entered : EntersType key hidden old new earlier

-- the bounds of an opaque type, if it has a row
abbrev pub bounds_of_row : Option OpaqueRow → List Clause
bounds_of_row None = []
bounds_of_row (Some r) = r.bounds.items

abbrev pub bounds_in : Tables → OpaqueId → List Clause
bounds_in t i = bounds_of_row (opaque_of t i)

-- the type that type checking found for it
abbrev pub checked_in : Tables → OpaqueId → Option Tree
checked_in t i = option_map (λ (r : OpaqueRow). tree_of_ty r.typeck_hidden) (opaque_of t i)
