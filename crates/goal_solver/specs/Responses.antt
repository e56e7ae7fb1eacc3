-- What a response lists of a context: what came since the innermost trial began.
use Rattle.std.specs.Prelude.{◌≡◌, ℕ, List, length, drop, min, Option, Some, None, slice_get}
use Rattle.std.specs.List.{AllZip, filter_map}
use Rattle.goal_terms.specs.Erased.{erased}
use Rattle.goal_terms.specs.Tree.{Tree}
use Rattle.goal_terms.specs.TreeOf.{tree_of_term, tree_of_ty}
use Rattle.goal_terms.specs.declared.answers.Certainty.{Certainty}
use Rattle.goal_terms.specs.declared.answers.Certainty.TheVariants as certainty
use Rattle.goal_terms.specs.declared.answers.OpaqueTypeKey.{OpaqueTypeKey}
use Rattle.goal_terms.specs.declared.answers.Response.{Response}
use Rattle.goal_terms.specs.declared.answers.VarKind.{VarKind}
use Rattle.goal_terms.specs.declared.answers.VarKind.TheVariants as kind
use Rattle.goal_terms.specs.declared.heads.Variable.{Variable}
use Rattle.goal_terms.specs.declared.heads.Variable.TheVariants as variables
use Rattle.goal_terms.specs.declared.terms.InferTy.TheVariants as infer
use Rattle.goal_terms.specs.declared.terms.Term.{Term}
use Rattle.goal_terms.specs.declared.terms.Ty.{Ty}
use Rattle.goal_infer.specs.Inference.{Inference}
use Rattle.goal_infer.specs.Replacement.{number_of, replaced}
use Rattle.goal_infer.specs.Resolution.{resolution}
use Rattle.goal_infer.specs.declared.undo.InferVariable.{InferVariable}
use Rattle.goal_solver.specs.State.{State, kinds_of}
use Rattle.goal_solver.specs.Stored.{IsSameKey}

-- two certainties together: yes where both are
abbrev pub both_certain : Certainty → Certainty → Certainty
both_certain certainty.Yes c = c
both_certain certainty.Maybe c = certainty.Maybe

-- the variable of a kind and a number; there is none for lifetimes, since theirs are never bound
abbrev pub variable_of_kind : VarKind → ℕ → Option Variable
variable_of_kind kind.Ty n = Some (variables.Ty (infer.TyVar n))
variable_of_kind kind.Int n = Some (variables.Ty (infer.IntVar n))
variable_of_kind kind.Float n = Some (variables.Ty (infer.FloatVar n))
variable_of_kind kind.Const n = Some (variables.Const n)
variable_of_kind kind.Region n = None

-- the variable of a number, of the kind that it was made with; none where it wasn't made
abbrev pub variable_made : Option InferVariable → ℕ → Option Variable
variable_made None n = None
variable_made (Some x) n = variable_of_kind x.kind n

-- the variable of a number in a state of inference
abbrev pub variable_at : Inference → ℕ → Option Variable
variable_at s n = variable_made (slice_get s.variables n) n

-- the variables of some numbers, in order
abbrev pub variables_at : Inference → List ℕ → List Variable
variables_at s ns = filter_map (variable_at s) ns

-- the variables that were bound since the innermost trial began, in the order in which they were
abbrev pub bound_since_mark : State → List Variable
bound_since_mark s = variables_at s.inference (drop s.mark.inference.trail s.inference.trail)

-- what stands for each variable of a context after all bindings, lifetimes aside
abbrev pub bindings_of : State → Variable → Tree
bindings_of s = resolution s.terms s.inference

-- a variable's number is listed with the term that stands for the variable, lifetimes aside
abbrev pub IsValueOf : (Variable → Tree) → Variable → ℕ × Term → Type 0
IsValueOf ρ v p = (p.0 ≡ number_of v) × (erased (tree_of_term p.1) ≡ ρ v)

-- a term is another with trees put for its variables, lifetimes aside; where this changes nothing, it is that very term
abbrev pub IsWithBindings : (Variable → Tree) → Tree → Tree → Type 0
IsWithBindings ρ t u = (erased u ≡ replaced ρ (erased t)) × (replaced ρ (erased t) ≡ erased t → u ≡ t)

-- an entry is listed with the identical key, and its type with the bindings followed
abbrev pub IsEntryOf : (Variable → Tree) → OpaqueTypeKey × Ty → OpaqueTypeKey × Ty → Type 0
IsEntryOf ρ e f = IsSameKey f.0 e.0 × IsWithBindings ρ (tree_of_ty e.1) (tree_of_ty f.1)

-- a response lists what was made, bound, equated and entered since the innermost trial began, in order
pub record ListsSinceMark (s : State) (c : Certainty) (r : Response) : Type 0 where
  pub certainty : r.certainty ≡ c
  pub proven_via : r.proven_via ≡ None
  pub base : r.base ≡ min s.mark.inference.variables (length (kinds_of s))
  pub vars : r.vars.items ≡ drop s.mark.inference.variables (kinds_of s)
  pub values : AllZip (IsValueOf (bindings_of s)) (bound_since_mark s) r.var_values.items
  pub equations : r.region_equations.items ≡ drop s.mark.inference.equations s.inference.equations
  pub entries : AllZip (IsEntryOf (bindings_of s)) (drop s.mark.storage s.storage) r.opaque_entries.items
