-- What one binding says, and what it leaves.
use Rattle.std.proofs.Common.{◌≡◌, ◌≢◌, ℕ, zero, suc, ◌<◌, Bool, true, false, List, [], ◌∷◌, ◌++◌, length, map, Some, None, refl, sym, ap, ◌∙◌, subst, eq-eqb}
use Rattle.std.specs.Prelude.{slice_get, slice_set, IsTrue, if◌then◌else◌, ◌==◌}
use Rattle.std.proofs.lemmas.Bool.{false≢true, eqb-true}
use Rattle.goal_terms.specs.Tree.{Tree, node, alias, variable, node_of}
use Rattle.goal_terms.specs.Erased.{erased}
use Rattle.goal_terms.specs.NodeTests.{is_made, same_var_kind}
use Rattle.goal_interner.specs.TableMeaning.{tree_at}
use Rattle.goal_terms.specs.declared.answers.VarKind.{VarKind}
use Rattle.goal_terms.specs.declared.answers.VarKind.TheVariants as kind
use Rattle.goal_terms.specs.declared.heads.Node.{Node}
use Rattle.goal_terms.specs.declared.heads.Variable.{Variable}
use Rattle.goal_interner.specs.declared.term_nodes.TermId.{TermId}
use Rattle.goal_infer.specs.Binding.{bound_to, IsBound}
use Rattle.goal_infer.specs.Inference.{Inference}
use Rattle.goal_infer.specs.Occurrence.{place_of}
use Rattle.goal_infer.specs.Replacement.{number_of, kind_of_variable, replaced, takes}
use Rattle.goal_infer.specs.Resolution.{term_at, binding_in, binding_of, binding_at, resolution, resolved, Agrees, IsSolved}
use Rattle.goal_infer.specs.Unification.{Becomes, is_made_in, IsUnified, Advances}
use Rattle.goal_infer.specs.declared.occurs.Occurrence.TheVariants.{Nowhere}
use Rattle.goal_infer.specs.declared.undo.InferVariable.{InferVariable}
use Rattle.goal_infer.specs.declared.unify.Unified.TheVariants.{Yes}
use Rattle.goal_infer.proofs.BindLemmas.{with_binding, IsBindable, set-here, set-elsewhere}
use Rattle.goal_infer.proofs.KindLemmas.{same_var_kind-true, variable-is, takes-erased}
use Rattle.goal_infer.proofs.UnifyLemmas.{IsFree, free-variable, ended-variable, advances-binding, yes-bound, bound-as, agrees-resolved, answer-as}

-- what a call that binds was asked for, and where the bindings before lead
pub record IsRooted (T : List Tree) (s : Inference) (v : Variable) (id root : TermId) : Type 0 where
  pub solved : IsSolved T s
  pub made : IsTrue (is_made_in s v)
  pub unbound : binding_of s v ≡ None
  pub takes : IsTrue (takes v (node_of (resolved T s id)))
  pub free : place_of v (resolved T s id) ≡ Nowhere
  pub within : root.0 < length T
  pub ended : binding_at s (node_of (tree_at T root)) ≡ None
  pub same : resolved T s root ≡ resolved T s id

module _ (T : List Tree) (s : Inference) (v : Variable) (id root : TermId) (b : IsRooted T s v id root) where
  -- the variable as it was made
  pub slot : IsFree s v
  slot = free-variable s v b.made b.unbound

  may-bind : IsBindable T s v slot.0 root
  may-bind = record {
    solved = b.solved;
    made = slot.1;
    kind = slot.2;
    unbound = slot.3;
    within = b.within;
    nowhere = ap (place_of v) b.same ∙ b.free;
    takes = ap (λ t. takes v (node_of t)) b.same ∙ b.takes;
    ended = ended-variable T s root b.ended;
  }

  -- what agrees with the state makes the same of both terms
  same-standing : (ρ : Variable → Tree) → Agrees T s ρ → replaced ρ (term_at T root) ≡ replaced ρ (term_at T id)
  same-standing ρ a = sym (agrees-resolved T s b.solved ρ a root) ∙ ap (replaced ρ) b.same ∙ agrees-resolved T s b.solved ρ a id

  yes-rooted : IsUnified T s (with_binding s (number_of v) slot.0 root) (Becomes T v id) Yes
  yes-rooted =
      answer-as T s (with_binding s (number_of v) slot.0 root) (Becomes T v root) (Becomes T v id)
      (λ ρ a e. e ∙ same-standing ρ a) (λ ρ a e. e ∙ sym (same-standing ρ a)) Yes (yes-bound T s v slot.0 root may-bind)

  module _ (z : Inference) (n : ℕ) (e : n ≡ number_of v) (after : z ≡ with_binding s n slot.0 root) where
    state-is : z ≡ with_binding s (number_of v) slot.0 root
    state-is = bound-as T s z v slot.0 root n e after

    pub advances-rooted : Advances T s z
    advances-rooted = subst (Advances T s) (sym state-is) (advances-binding T s v slot.0 root may-bind)

    pub answer-rooted : IsUnified T s z (Becomes T v id) Yes
    answer-rooted = subst (λ y. IsUnified T s y (Becomes T v id) Yes) (sym state-is) yes-rooted

    rooted-state : z ≡ bound_to s v root
    rooted-state =
        state-is
        ∙ ap (λ k. record s { variables = slice_set s.variables (number_of v) (record { kind = k; binding = Some root }); trail = s.trail ++ number_of v ∷ [] })
        (same_var_kind-true slot.0.kind (kind_of_variable v) slot.2)

    pub bound-rooted : IsBound T s z v id
    bound-rooted = record { root = root; within = b.within; same = b.same; ended = b.ended; state = rooted-state }

    -- so it is bound to the term itself, where the bindings don't lead on from that
    pub itself-rooted : root ≡ id → z ≡ bound_to s v id
    itself-rooted same = rooted-state ∙ ap (bound_to s v) same

-- a variable that was made stands at its number, with its kind
made-slot : (vs : List InferVariable) (n : ℕ) (k : VarKind) → is_made (map (λ (x : InferVariable). x.kind) vs) n k ≡ true →
    (x : InferVariable) × (slice_get vs n ≡ Some x) × (x.kind ≡ k)
made-slot [] n k e = absurd (false≢true e)
made-slot (x ∷ vs) zero k e = (x, refl, same_var_kind-true x.kind k e)
made-slot (x ∷ vs) (suc n) k e = made-slot vs n k e

same_var_kind-self : (k : VarKind) → same_var_kind k k ≡ true
same_var_kind-self kind.Ty = refl
same_var_kind-self kind.Int = refl
same_var_kind-self kind.Float = refl
same_var_kind-self kind.Const = refl
same_var_kind-self kind.Region = refl

-- what was bound is bound
pub own-after : (s : Inference) (v : Variable) (id : TermId) → IsTrue (is_made_in s v) → binding_of (bound_to s v id) v ≡ Some id
unfolding binding_of is_made_in
own-after s v id made =
    let x : (y : InferVariable) × (slice_get s.variables (number_of v) ≡ Some y) × (y.kind ≡ kind_of_variable v) =
    made-slot s.variables (number_of v) (kind_of_variable v) made in
    ap (λ o. binding_in o (kind_of_variable v)) (set-here s.variables (number_of v) x.0 (record { kind = kind_of_variable v; binding = Some id }) x.1)
    ∙ ap (λ q. if q then Some id else None) (same_var_kind-self (kind_of_variable v))

other-kind : (v w : Variable) → number_of w ≡ number_of v → w ≢ v → same_var_kind (kind_of_variable v) (kind_of_variable w) ≡ false
other-kind v w e differ = on (same_var_kind (kind_of_variable v) (kind_of_variable w)) refl where
  on : (q : Bool) → same_var_kind (kind_of_variable v) (kind_of_variable w) ≡ q → q ≡ false
  on true h = absurd (differ (variable-is w v e (sym (same_var_kind-true (kind_of_variable v) (kind_of_variable w) h))))
  on false h = refl

-- one with another kind never is
unbound-kind : (s : Inference) (v w : Variable) (x : InferVariable) → slice_get s.variables (number_of v) ≡ Some x → x.kind ≡ kind_of_variable v →
    number_of w ≡ number_of v → w ≢ v → binding_of s w ≡ None
unfolding binding_of
unbound-kind s v w x at made e differ =
    ap (λ n. binding_in (slice_get s.variables n) (kind_of_variable w)) e
    ∙ ap (λ o. binding_in o (kind_of_variable w)) at
    ∙ ap (λ k. if same_var_kind k (kind_of_variable w) then x.binding else None) made
    ∙ ap (λ q. if q then x.binding else None) (other-kind v w e differ)

others-after : (s : Inference) (v : Variable) (id : TermId) → IsTrue (is_made_in s v) → (w : Variable) → w ≢ v → binding_of (bound_to s v id) w ≡ binding_of s w
unfolding binding_of is_made_in
others-after s v id made w differ = on (number_of w == number_of v) refl where
  on : (q : Bool) → number_of w == number_of v ≡ q → binding_of (bound_to s v id) w ≡ binding_of s w
  on true h =
      let e : number_of w ≡ number_of v = eqb-true (number_of w) (number_of v) h in
      let x : (y : InferVariable) × (slice_get s.variables (number_of v) ≡ Some y) × (y.kind ≡ kind_of_variable v) =
      made-slot s.variables (number_of v) (kind_of_variable v) made in
      unbound-kind (bound_to s v id) v w (record { kind = kind_of_variable v; binding = Some id })
      (set-here s.variables (number_of v) x.0 (record { kind = kind_of_variable v; binding = Some id }) x.1) refl e differ
      ∙ sym (unbound-kind s v w x.0 x.1 x.2 e differ)
  on false h =
      ap (λ o. binding_in o (kind_of_variable w))
      (set-elsewhere s.variables (number_of v) (number_of w) (record { kind = kind_of_variable v; binding = Some id }) (λ e. apart e h)) where
        apart : number_of w ≡ number_of v → number_of w == number_of v ≡ false → ⊥
        apart e f = false≢true (sym f ∙ eq-eqb (number_of w) (number_of v) e)

-- the same of the state after a call
module _ (T : List Tree) (before after : Inference) (v : Variable) (id : TermId) (made : IsTrue (is_made_in before v)) (b : IsBound T before after v id) where
  pub binding-own : binding_of after v ≡ Some b.root
  binding-own = ap (λ s. binding_of s v) b.state ∙ own-after before v b.root made

  pub bindings-others : (w : Variable) → w ≢ v → binding_of after w ≡ binding_of before w
  bindings-others w differ = ap (λ s. binding_of s w) b.state ∙ others-after before v b.root made w differ

-- what may stand for a variable that ends is what its bindings make of it
takes-resolved : (T : List Tree) (s : Inference) → IsSolved T s → (v : Variable) (t : Tree) → ((w : Variable) → t ≡ variable w → binding_of s w ≡ None) →
    takes v (node_of (replaced (resolution T s) t)) ≡ takes v (node_of t)
unfolding replaced
takes-resolved T s solved v (node h ts) e = refl
takes-resolved T s solved v (alias k ts) e = refl
takes-resolved T s solved v (variable w) e = ap (λ t. takes v (node_of t)) (solved.free w (e w refl))

pub takes-ended : (T : List Tree) (s : Inference) → IsSolved T s → (v : Variable) (id : TermId) → binding_at s (node_of (tree_at T id)) ≡ None →
    takes v (node_of (resolved T s id)) ≡ takes v (node_of (tree_at T id))
unfolding resolved term_at
takes-ended T s solved v id e = takes-resolved T s solved v (erased (tree_at T id)) (ended-variable T s id e) ∙ takes-erased v (tree_at T id)

-- so it is of the node to which the bindings lead from a term
pub takes-rooted : (T : List Tree) (s : Inference) → IsSolved T s → (v : Variable) (id root : TermId) (n : Node) → binding_at s (node_of (tree_at T root)) ≡ None →
    resolved T s root ≡ resolved T s id → n ≡ node_of (tree_at T root) → takes v (node_of (resolved T s id)) ≡ takes v n
takes-rooted T s solved v id root n ended same e =
    ap (λ t. takes v (node_of t)) (sym same) ∙ takes-ended T s solved v root ended ∙ ap (takes v) (sym e)
