-- What a walk from variable to variable comes to.
use Rattle.std.proofs.Common.{◌≡◌, ℕ, zero, suc, ◌+◌, ◌<◌, ◌≤◌, true, false, List, [], ◌∷◌, length, Option, Some, None, refl, sym, ap, ◌∙◌, arith}
use Rattle.std.specs.Prelude.{slice_get, if◌then◌else◌}
use Rattle.goal_terms.specs.Tree.{Tree, node, alias, variable, node_of}
use Rattle.goal_terms.specs.Erased.{erased}
use Rattle.goal_terms.specs.NodeTests.{same_var_kind}
use Rattle.goal_interner.specs.TableMeaning.{tree_at}
use Rattle.goal_terms.specs.declared.heads.Node.{Node}
use Rattle.goal_terms.specs.declared.heads.Node.TheVariants as nodes
use Rattle.goal_terms.specs.declared.heads.Variable.{Variable}
use Rattle.goal_interner.specs.declared.term_nodes.TermId.{TermId}
use Rattle.goal_infer.specs.Inference.{Inference}
use Rattle.goal_infer.specs.Replacement.{number_of, kind_of_variable, replaced}
use Rattle.goal_infer.specs.Resolution.{term_at, binding_in, binding_of, binding_at, resolution, resolved, Agrees, IsSolved}
use Rattle.goal_infer.specs.declared.undo.InferVariable.{InferVariable}

-- no variable has a number past the end
slice_get-beyond : {A : Type 0} (xs : List A) (n : ℕ) → length xs ≤ n → slice_get xs n ≡ None
slice_get-beyond [] n l = refl
slice_get-beyond (x ∷ xs) zero l = absurd (omega arith)
slice_get-beyond (x ∷ xs) (suc n) l = slice_get-beyond xs n (omega arith)

pub binding_of-unmade : (s : Inference) (v : Variable) → length s.variables ≤ number_of v → None ≡ binding_of s v
unfolding binding_of
binding_of-unmade s v l = sym (ap (λ o. binding_in o (kind_of_variable v)) (slice_get-beyond s.variables (number_of v) l))

pub binding_of-same : (s : Inference) (v : Variable) (x : InferVariable) → slice_get s.variables (number_of v) ≡ Some x →
    same_var_kind x.kind (kind_of_variable v) ≡ true → x.binding ≡ binding_of s v
unfolding binding_of
binding_of-same s v x e h =
    sym (ap (λ o. binding_in o (kind_of_variable v)) e ∙ ap (λ b. if b then x.binding else None) h)

pub binding_of-other : (s : Inference) (v : Variable) (x : InferVariable) → slice_get s.variables (number_of v) ≡ Some x →
    same_var_kind x.kind (kind_of_variable v) ≡ false → None ≡ binding_of s v
unfolding binding_of
binding_of-other s v x e h =
    sym (ap (λ o. binding_in o (kind_of_variable v)) e ∙ ap (λ b. if b then x.binding else None) h)

-- a tree with a variable at its top
erased-variable : (t : Tree) (v : Variable) → node_of t ≡ nodes.Variable v → erased t ≡ variable v
unfolding erased
erased-variable (node h ts) v e = absurd (cc)
erased-variable (alias k ts) v e = absurd (cc)
erased-variable (variable w) v e = let p : w ≡ v = cc in ap variable p

pub term_at-variable : (T : List Tree) (id : TermId) (v : Variable) → node_of (tree_at T id) ≡ nodes.Variable v → term_at T id ≡ variable v
unfolding term_at
term_at-variable T id v e = erased-variable (tree_at T id) v e

pub node_of-variable : (t : Tree) (v : Variable) → erased t ≡ variable v → node_of t ≡ nodes.Variable v
unfolding erased
node_of-variable (node h ts) v e = absurd (cc)
node_of-variable (alias k ts) v e = absurd (cc)
node_of-variable (variable w) v e = let p : w ≡ v = cc in ap nodes.Variable p

-- what a node that is bound is
abbrev variable_in : Inference → Node → TermId → Type 0
variable_in s n id = (v : Variable) × (n ≡ nodes.Variable v) × (binding_of s v ≡ Some id)

bound_node : (s : Inference) (n : Node) (id : TermId) → binding_at s n ≡ Some id → variable_in s n id
bound_node s (nodes.Head h) id e = absurd (cc)
bound_node s (nodes.Alias k) id e = absurd (cc)
bound_node s (nodes.Variable v) id e = (v, refl, e)

-- the walk is within what is left of the chain
abbrev pub IsNear : List Tree → Inference → TermId → ℕ → Type 0
IsNear T s id k = (solved : IsSolved T s) (v : Variable) → term_at T id ≡ variable v → solved.chain v + k ≤ length s.variables

pub near-next : (T : List Tree) (s : Inference) (id next : TermId) (k : ℕ) → IsNear T s id k →
    Some next ≡ binding_at s (node_of (tree_at T id)) → IsNear T s next (k + 1)
near-next T s id next k near e solved w f =
    let b : variable_in s (node_of (tree_at T id)) next = bound_node s (node_of (tree_at T id)) next (sym e) in
    omega (arith, near solved b.0 (term_at-variable T id b.0 b.1), solved.falls b.0 w next b.2 f)

-- one step keeps the resolved term
pub next-same : (T : List Tree) (s : Inference) → IsSolved T s → (id next : TermId) → Some next ≡ binding_at s (node_of (tree_at T id)) →
    resolved T s next ≡ resolved T s id
unfolding resolved replaced Agrees
next-same T s solved id next e =
    let b : variable_in s (node_of (tree_at T id)) next = bound_node s (node_of (tree_at T id)) next (sym e) in
    sym (ap (replaced (resolution T s)) (term_at-variable T id b.0 b.1) ∙ solved.agrees b.0 next b.2)

pub next-within : (T : List Tree) (s : Inference) → IsSolved T s → (id next : TermId) → Some next ≡ binding_at s (node_of (tree_at T id)) →
    next.0 < length T
next-within T s solved id next e =
    let b : variable_in s (node_of (tree_at T id)) next = bound_node s (node_of (tree_at T id)) next (sym e) in
    solved.within b.0 next b.2

-- where nothing is left of the chain, it has come to its end
pub near-last : (T : List Tree) (s : Inference) → IsSolved T s → (id : TermId) (k : ℕ) → length s.variables ≤ k → IsNear T s id k →
    binding_at s (node_of (tree_at T id)) ≡ None
near-last T s solved id k l near = last (binding_at s (node_of (tree_at T id))) refl where
  last : (o : Option TermId) → binding_at s (node_of (tree_at T id)) ≡ o → binding_at s (node_of (tree_at T id)) ≡ None
  last None e = e
  last (Some next) e =
      let b : variable_in s (node_of (tree_at T id)) next = bound_node s (node_of (tree_at T id)) next e in
      absurd (omega (arith, near solved b.0 (term_at-variable T id b.0 b.1), solved.begins b.0 next b.2))
