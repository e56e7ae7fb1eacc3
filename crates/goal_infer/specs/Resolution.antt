-- What the bindings of a state make of terms.
use Rattle.std.specs.Prelude.{◌≡◌, ◌≢◌, ℕ, ◌+◌, ◌<◌, ◌≤◌, ◌==◌, if◌then◌else◌, List, [], ◌∷◌, length, Option, Some, None, slice_get}
use Rattle.std.specs.List.{All}
use Rattle.goal_terms.specs.Tree.{Tree, variable}
use Rattle.goal_terms.specs.Erased.{erased}
use Rattle.goal_terms.specs.NodeTests.{same_var_kind}
use Rattle.goal_interner.specs.TableMeaning.{tree_at}
use Rattle.goal_terms.specs.declared.answers.VarKind.{VarKind}
use Rattle.goal_terms.specs.declared.heads.Node.{Node}
use Rattle.goal_terms.specs.declared.heads.Node.TheVariants as nodes
use Rattle.goal_terms.specs.declared.heads.Variable.{Variable}
use Rattle.goal_interner.specs.declared.term_nodes.TermId.{TermId}
use Rattle.goal_infer.specs.Inference.{Inference}
use Rattle.goal_infer.specs.Replacement.{number_of, kind_of_variable, replaced, OfKinds}
use Rattle.goal_infer.specs.declared.undo.InferVariable.{InferVariable}

-- the term of a number, without lifetimes
unfoldable pub term_at : List Tree → TermId → Tree
term_at T id = erased (tree_at T id)

-- what a variable is bound to, if it was made and is of this kind
abbrev pub binding_in : Option InferVariable → VarKind → Option TermId
binding_in None k = None
binding_in (Some x) k = if same_var_kind x.kind k then x.binding else None

-- what a variable is bound to; one that wasn't made to nothing
unfoldable pub binding_of : Inference → Variable → Option TermId
binding_of s v = binding_in (slice_get s.variables (number_of v)) (kind_of_variable v)

-- what a node is bound to, if it is a variable
abbrev pub binding_at : Inference → Node → Option TermId
binding_at s (nodes.Head h) = None
binding_at s (nodes.Alias k) = None
binding_at s (nodes.Variable v) = binding_of s v

-- how many variables are unbound
unfoldable pub unbound_count : List InferVariable → ℕ
unbound_count [] = 0
unbound_count (v ∷ vs) = one_if_none v.binding + unbound_count vs where
  one_if_none : Option TermId → ℕ
  one_if_none None = 1
  one_if_none (Some id) = 0

-- the term that a variable is bound to, itself resolved, or else the variable
abbrev pub bound_tree : List Tree → (Variable → Tree) → Variable → Option TermId → Tree
bound_tree T ρ v None = variable v
bound_tree T ρ v (Some id) = replaced ρ (term_at T id)

-- the term that the variable of a number is bound to is put for it
unfoldable pub bound_at : List Tree → Inference → ℕ → (Variable → Tree) → Variable → Tree
bound_at T s n ρ v = if number_of v == n then bound_tree T ρ v (binding_of s v) else variable v

-- what stands for each variable after the bindings of some numbers, in order
unfoldable pub resolution_after : List Tree → Inference → List ℕ → (Variable → Tree) → Variable → Tree
resolution_after T s [] ρ = ρ
resolution_after T s (n ∷ ns) ρ = resolution_after T s ns (λ v. replaced (bound_at T s n ρ) (ρ v))

-- what stands for each variable after all bindings
unfoldable pub resolution : List Tree → Inference → Variable → Tree
resolution T s = resolution_after T s s.trail variable

-- the term of a number after all bindings
unfoldable pub resolved : List Tree → Inference → TermId → Tree
resolved T s id = replaced (resolution T s) (term_at T id)

-- for each bound variable stands the term that it is bound to
unfoldable pub Agrees : List Tree → Inference → (Variable → Tree) → Type 0
Agrees T s ρ = (v : Variable) (id : TermId) → binding_of s v ≡ Some id → ρ v ≡ replaced ρ (term_at T id)

-- no number stands twice
abbrev pub StandOnce : List ℕ → Type 0
StandOnce ns = (i j n : ℕ) → slice_get ns i ≡ Some n → slice_get ns j ≡ Some n → i ≡ j

-- the bindings have a resolution, which is most general, each variable was bound once, and each chain of bound variables ends
pub record IsSolved (T : List Tree) (s : Inference) : Type 0 where
  pub within : (v : Variable) (id : TermId) → binding_of s v ≡ Some id → id.0 < length T
  pub free : (v : Variable) → binding_of s v ≡ None → resolution T s v ≡ variable v
  pub agrees : Agrees T s (resolution T s)
  pub kinds : OfKinds (resolution T s)
  pub general : (ρ : Variable → Tree) → Agrees T s ρ → (v : Variable) → ρ v ≡ replaced ρ (resolution T s v)
  pub off_trail : (n : ℕ) (x : InferVariable) → slice_get s.variables n ≡ Some x → x.binding ≡ None → All (λ m. m ≢ n) s.trail
  pub on_trail : All (λ n. n < length s.variables) s.trail
  pub once : StandOnce s.trail
  pub counted : length s.trail + unbound_count s.variables ≡ length s.variables
  pub chain : Variable → ℕ
  pub short : (v : Variable) → chain v ≤ length s.trail
  pub ends : (v : Variable) → binding_of s v ≡ None → chain v ≡ 0
  pub begins : (v : Variable) (id : TermId) → binding_of s v ≡ Some id → 0 < chain v
  pub falls : (v w : Variable) (id : TermId) → binding_of s v ≡ Some id → term_at T id ≡ variable w → chain w < chain v
