-- What the answers of unification come from.
use Rattle.std.proofs.Common.{◌≡◌, ◌≢◌, ℕ, zero, suc, ◌<◌, ◌≤◌, Bool, true, false, List, [], ◌∷◌, length, map, Option, Some, None, refl, sym, ap, ◌∙◌, subst, arith, inl, inr}
use Rattle.std.specs.Prelude.{slice_get, slice_set, ◌||◌, IsTrue, if◌then◌else◌}
use Rattle.std.proofs.lemmas.Bool.{false≢true}
use Rattle.goal_terms.specs.Tree.{Tree, node, alias, variable, node_of}
use Rattle.goal_terms.specs.Erased.{erased}
use Rattle.goal_terms.specs.NodeTests.{is_made, same_var_kind}
use Rattle.goal_terms.specs.SameHead.{top_of}
use Rattle.goal_interner.specs.TableMeaning.{tree_at}
use Rattle.goal_terms.specs.declared.answers.VarKind.{VarKind}
use Rattle.goal_terms.specs.declared.heads.Node.{Node}
use Rattle.goal_terms.specs.declared.heads.Node.TheVariants as nodes
use Rattle.goal_terms.specs.declared.heads.Variable.{Variable}
use Rattle.goal_interner.specs.declared.term_nodes.TermId.{TermId}
use Rattle.goal_infer.specs.Inference.{Inference}
use Rattle.goal_infer.specs.Occurrence.{place_of, place_at}
use Rattle.goal_infer.specs.Replacement.{number_of, kind_of_variable, same_variable, replaced, takes, OfKinds}
use Rattle.goal_infer.specs.Resolution.{term_at, binding_in, binding_of, binding_at, unbound_count, resolution, resolved, Agrees, IsSolved}
use Rattle.goal_infer.specs.Unification.{Becomes, is_made_in, MakesSame, IsUnified, IsLater, Advances, IsHead, HaveOneHead, taker, is_alias}
use Rattle.goal_infer.specs.declared.occurs.Occurrence.{Occurrence}
use Rattle.goal_infer.specs.declared.occurs.Occurrence.TheVariants.{Nowhere, Outside}
use Rattle.goal_infer.specs.declared.undo.InferVariable.{InferVariable}
use Rattle.goal_infer.specs.declared.unify.Unified.{Unified}
use Rattle.goal_infer.specs.declared.unify.Unified.TheVariants.{Yes, Undecided, No}
use Rattle.goal_infer.proofs.BindLemmas.{with_binding, IsBindable, solved-after, agrees-before, agrees-here, agrees-after, count-set}
use Rattle.goal_infer.proofs.GoesBackLemmas.{goes_back-through}
use Rattle.goal_infer.proofs.KindLemmas.{takes-replaced, takes-erased, takes-erased_head, one-takes}
use Rattle.goal_infer.proofs.PartLemmas.{is_above, resolved-variable}
use Rattle.goal_infer.proofs.ReplacementLemmas.{replaced-twice, replaced-pointwise, has_parts, never-within, same_variable-true}
use Rattle.goal_infer.proofs.ResolveLemmas.{term_at-variable, node_of-variable}
use Rattle.goal_infer.proofs.UndoLemmas.{goes_back-same, goes_back-binding}

-- nothing happened
pub advances-same : (T : List Tree) (s : Inference) → IsSolved T s → Advances T s s
advances-same T s solved = record { goes_back = goes_back-same s; solved = solved; kinds = refl; later = inl refl }

-- one after the other
pub advances-through : (T : List Tree) (a b c : Inference) → Advances T a b → Advances T b c → Advances T a c
advances-through T a b c f g = record {
  goes_back = goes_back-through a b c f.goes_back g.goes_back;
  solved = g.solved;
  kinds = g.kinds ∙ f.kinds;
  later = later f.later g.later;
} where
  later : IsLater a b → IsLater b c → IsLater a c
  later (inl p) (inl q) = inl (q ∙ p)
  later (inl p) (inr q) = inr (omega (arith, q, ap (λ s. unbound_count s.variables) p))
  later (inr p) (inl q) = inr (omega (arith, p, ap (λ s. unbound_count s.variables) q))
  later (inr p) (inr q) = inr (omega (arith, p, q))

-- a binding
kinds-set : (vs : List InferVariable) (n : ℕ) (x y : InferVariable) → slice_get vs n ≡ Some x → y.kind ≡ x.kind →
    map (λ (v : InferVariable). v.kind) (slice_set vs n y) ≡ map (λ (v : InferVariable). v.kind) vs
kinds-set [] n x y e f = refl
kinds-set (z ∷ vs) zero x y e f =
    let p : z ≡ x = cc in ap (λ k. k ∷ map (λ (v : InferVariable). v.kind) vs) (f ∙ ap (λ w. w.kind) (sym p))
kinds-set (z ∷ vs) (suc n) x y e f = ap (λ ks. z.kind ∷ ks) (kinds-set vs n x y e f)

pub advances-binding : (T : List Tree) (s : Inference) (v : Variable) (x : InferVariable) (id : TermId) → IsBindable T s v x id →
    Advances T s (with_binding s (number_of v) x id)
advances-binding T s v x id b = record {
  goes_back = goes_back-binding s (number_of v) x (record { kind = x.kind; binding = Some id }) b.made b.unbound refl;
  solved = solved-after T s v x id b;
  kinds = kinds-set s.variables (number_of v) x (record { kind = x.kind; binding = Some id }) b.made refl;
  later = inr (omega (arith, count-set s.variables (number_of v) x (record { kind = x.kind; binding = Some id }) id b.made b.unbound refl));
}

-- a variable that was made and is unbound
abbrev pub IsFree : Inference → Variable → Type 0
IsFree s v = (x : InferVariable) × (slice_get s.variables (number_of v) ≡ Some x) × (same_var_kind x.kind (kind_of_variable v) ≡ true) × (x.binding ≡ None)

pub is_made-get : (vs : List InferVariable) (n : ℕ) (x : InferVariable) (k : VarKind) → slice_get vs n ≡ Some x →
    is_made (map (λ (v : InferVariable). v.kind) vs) n k ≡ same_var_kind x.kind k
is_made-get [] n x k e = absurd (cc)
is_made-get (z ∷ vs) zero x k e = let p : z ≡ x = cc in ap (λ w. same_var_kind w.kind k) p
is_made-get (z ∷ vs) (suc n) x k e = is_made-get vs n x k e

pub is_made-beyond : (vs : List InferVariable) (n : ℕ) (k : VarKind) → length vs ≤ n → is_made (map (λ (v : InferVariable). v.kind) vs) n k ≡ false
is_made-beyond [] n k l = refl
is_made-beyond (z ∷ vs) zero k l = absurd (omega arith)
is_made-beyond (z ∷ vs) (suc n) k l = is_made-beyond vs n k (omega arith)

pub made-get : (s : Inference) (v : Variable) (x : InferVariable) → slice_get s.variables (number_of v) ≡ Some x →
    same_var_kind x.kind (kind_of_variable v) ≡ is_made_in s v
unfolding is_made_in
made-get s v x e = sym (is_made-get s.variables (number_of v) x (kind_of_variable v) e)

pub made-beyond : (s : Inference) (v : Variable) → length s.variables ≤ number_of v → false ≡ is_made_in s v
unfolding is_made_in
made-beyond s v l = sym (is_made-beyond s.variables (number_of v) (kind_of_variable v) l)

pub free-variable : (s : Inference) (v : Variable) → is_made_in s v ≡ true → binding_of s v ≡ None → IsFree s v
unfolding is_made_in binding_of
free-variable s v e f = on (slice_get s.variables (number_of v)) refl where
  on : (o : Option InferVariable) → slice_get s.variables (number_of v) ≡ o → IsFree s v
  on None p = absurd (beyond s.variables (number_of v) p e) where
    beyond : (vs : List InferVariable) (n : ℕ) → slice_get vs n ≡ None → is_made (map (λ (z : InferVariable). z.kind) vs) n (kind_of_variable v) ≡ true → ⊥
    beyond [] n p h = false≢true h
    beyond (z ∷ vs) zero p h = absurd (cc)
    beyond (z ∷ vs) (suc n) p h = beyond vs n p h
  on (Some x) p =
      let k : same_var_kind x.kind (kind_of_variable v) ≡ true = sym (is_made-get s.variables (number_of v) x (kind_of_variable v) p) ∙ e in
      (x, p, k, sym (ap (λ q. if q then x.binding else None) k) ∙ sym (ap (λ o. binding_in o (kind_of_variable v)) p) ∙ f)

-- what agrees with a state keeps resolved terms
pub agrees-resolved : (T : List Tree) (s : Inference) → IsSolved T s → (ρ : Variable → Tree) → Agrees T s ρ → (id : TermId) →
    replaced ρ (resolved T s id) ≡ replaced ρ (term_at T id)
unfolding resolved
agrees-resolved T s solved ρ a id =
    replaced-twice ρ (resolution T s) (term_at T id)
    ∙ replaced-pointwise (λ u. replaced ρ (resolution T s u)) ρ (λ u. sym (solved.general ρ a u)) (term_at T id)

-- an answer to one question, for another that is the same for what agrees
pub answer-as : (T : List Tree) (s z : Inference) (P Q : (Variable → Tree) → Type 0) → ((ρ : Variable → Tree) → Agrees T s ρ → P ρ → Q ρ) →
    ((ρ : Variable → Tree) → Agrees T s ρ → Q ρ → P ρ) → (u : Unified) → IsUnified T s z P u → IsUnified T s z Q u
unfolding IsUnified
answer-as T s z P Q f g Yes h = λ ρ. (
  λ a. let p : Agrees T s ρ × P ρ = (h ρ).0 a in (p.0, f ρ p.0 p.1),
  λ q. (h ρ).1 (q.0, g ρ q.0 q.1),
)
answer-as T s z P Q f g Undecided h = λ ρ a q. h ρ a (g ρ a q)
answer-as T s z P Q f g No h = λ ρ kinds a q. h ρ kinds a (g ρ a q)

pub undecided-same : (T : List Tree) (s : Inference) (P : (Variable → Tree) → Type 0) → IsUnified T s s P Undecided
unfolding IsUnified
undecided-same T s P ρ a q = a

pub yes-same : (T : List Tree) (s : Inference) (P : (Variable → Tree) → Type 0) → ((ρ : Variable → Tree) → P ρ) → IsUnified T s s P Yes
unfolding IsUnified
yes-same T s P h ρ = (λ a. (a, h ρ), λ q. q.0)

-- a term in which a variable stands
has_parts-erased : (σ : Variable → Tree) (t : Tree) → is_above (node_of t) → has_parts (replaced σ (erased t))
unfolding replaced erased
has_parts-erased σ (node h ts) p = tt
has_parts-erased σ (alias k ts) p = tt
has_parts-erased σ (variable v) p = absurd p

place_at-outside : (q : Bool) → place_at q ≡ Outside → q ≡ true
place_at-outside true e = refl
place_at-outside false e = absurd (cc)

has_parts-outside : (T : List Tree) (s : Inference) → IsSolved T s → (v : Variable) (id : TermId) → binding_at s (node_of (tree_at T id)) ≡ None →
    term_at T id ≢ variable v → place_of v (resolved T s id) ≡ Outside → has_parts (resolved T s id)
unfolding resolved term_at place_of
has_parts-outside T s solved v id ended other e = on (node_of (tree_at T id)) refl where
  on : (n : Node) → node_of (tree_at T id) ≡ n → has_parts (replaced (resolution T s) (erased (tree_at T id)))
  on (nodes.Head h) p = has_parts-erased (resolution T s) (tree_at T id) (subst is_above (sym p) tt)
  on (nodes.Alias k) p = has_parts-erased (resolution T s) (tree_at T id) (subst is_above (sym p) tt)
  on (nodes.Variable w) p =
      let q : place_at (same_variable w v) ≡ Outside = sym (ap (place_of v) (resolved-variable T s solved id w p ended)) ∙ e in
      absurd (other (term_at-variable T id w p ∙ ap variable (same_variable-true w v (place_at-outside (same_variable w v) q))))

outside-somewhere : (o : Occurrence) → o ≡ Outside → o ≢ Nowhere
outside-somewhere o e f = let q : Outside ≡ Nowhere = sym e ∙ f in absurd (cc)

pub no-outside : (T : List Tree) (s : Inference) → IsSolved T s → (v : Variable) (id : TermId) → binding_at s (node_of (tree_at T id)) ≡ None →
    term_at T id ≢ variable v → place_of v (resolved T s id) ≡ Outside → IsUnified T s s (Becomes T v id) No
unfolding IsUnified
no-outside T s solved v id ended other e ρ kinds a asked =
    never-within v ρ (resolved T s id) (has_parts-outside T s solved v id ended other e) (outside-somewhere (place_of v (resolved T s id)) e)
    (asked ∙ sym (agrees-resolved T s solved ρ a id))

takes-resolved : (T : List Tree) (s : Inference) → IsSolved T s → (v : Variable) (id : TermId) → IsTrue (takes v (node_of (tree_at T id))) →
    IsTrue (takes v (node_of (resolved T s id)))
unfolding resolved term_at
takes-resolved T s solved v id e =
    takes-replaced v (resolution T s) (erased (tree_at T id)) solved.kinds (takes-erased v (tree_at T id) ∙ e)

pub ended-variable : (T : List Tree) (s : Inference) (id : TermId) → binding_at s (node_of (tree_at T id)) ≡ None → (w : Variable) → term_at T id ≡ variable w → binding_of s w ≡ None
unfolding term_at
ended-variable T s id ended w e = sym (ap (binding_at s) (node_of-variable (tree_at T id) w e)) ∙ ended

pub bindable : (T : List Tree) (s : Inference) → IsSolved T s → (v : Variable) (id : TermId) → (x : IsFree s v) → binding_at s (node_of (tree_at T id)) ≡ None →
    id.0 < length T → IsTrue (takes v (node_of (tree_at T id))) → place_of v (resolved T s id) ≡ Nowhere → IsBindable T s v x.0 id
bindable T s solved v id x ended within takes nowhere = record {
  solved = solved;
  made = x.1;
  kind = x.2;
  unbound = x.3;
  within = within;
  nowhere = nowhere;
  takes = takes-resolved T s solved v id takes;
  ended = ended-variable T s id ended;
}

pub yes-bound : (T : List Tree) (s : Inference) (v : Variable) (x : InferVariable) (id : TermId) → IsBindable T s v x id →
    IsUnified T s (with_binding s (number_of v) x id) (Becomes T v id) Yes
unfolding IsUnified
yes-bound T s v x id b ρ = (
  λ a. let before : Agrees T s ρ = agrees-before T s v x id b ρ a in
      (before, agrees-here T s v x id b ρ a ∙ agrees-resolved T s b.solved ρ before id),
  λ q. agrees-after T s v x id b ρ q.0 (q.1 ∙ sym (agrees-resolved T s b.solved ρ q.0 id)),
)

-- the state after the call that binds
pub bound-as : (T : List Tree) (s z : Inference) (v : Variable) (x : InferVariable) (id : TermId) (n : ℕ) → n ≡ number_of v → z ≡ with_binding s n x id →
    z ≡ with_binding s (number_of v) x id
bound-as T s z v x id n e h = h ∙ ap (λ m. with_binding s m x id) e

-- a variable that takes what stands beside it
pub taken-node : (n m : Node) (v : Variable) → Some v ≡ taker n m → n ≡ nodes.Variable v
taken-node (nodes.Head h) m v e = absurd (cc)
taken-node (nodes.Alias k) m v e = absurd (cc)
taken-node (nodes.Variable w) m v e = on (takes w m) e where
  on : (q : Bool) → Some v ≡ (if q then Some w else None) → nodes.Variable w ≡ nodes.Variable v
  on true h = let p : v ≡ w = cc in ap nodes.Variable (sym p)
  on false h = absurd (cc)

-- one that doesn't
pub untaken : (n m : Node) (o : Option Variable) → o ≡ taker n m → ((v : Variable) → o ≡ Some v → ⊥) → (v : Variable) → n ≡ nodes.Variable v → takes v m ≡ false
untaken n m o e f v p = on (takes v m) refl where
  on : (q : Bool) → takes v m ≡ q → takes v m ≡ false
  on true h = absurd (f v (e ∙ ap (λ z. taker z m) p ∙ ap (λ q. if q then Some v else None) h))
  on false h = h

erased-is-variable : (t : Tree) (v : Variable) → erased t ≡ variable v → t ≡ variable v
unfolding erased
erased-is-variable (node h ts) v e = absurd (cc)
erased-is-variable (alias k ts) v e = absurd (cc)
erased-is-variable (variable w) v e = e

tree-is-variable : (t : Tree) (v : Variable) → node_of t ≡ nodes.Variable v → t ≡ variable v
tree-is-variable (node h ts) v e = absurd (cc)
tree-is-variable (alias k ts) v e = absurd (cc)
tree-is-variable (variable w) v e = let p : w ≡ v = cc in ap variable p

-- two terms that are not one
pub other-term : (T : List Tree) (l r : TermId) (v : Variable) → tree_at T l ≢ tree_at T r → node_of (tree_at T l) ≡ nodes.Variable v → term_at T r ≢ variable v
unfolding term_at
other-term T l r v differ e f = differ (tree-is-variable (tree_at T l) v e ∙ sym (erased-is-variable (tree_at T r) v f))

-- what the left variable becomes, and the right
pub becomes-left : (T : List Tree) (s z : Inference) (l r : TermId) (v : Variable) (u : Unified) → node_of (tree_at T l) ≡ nodes.Variable v →
    IsUnified T s z (Becomes T v r) u → IsUnified T s z (MakesSame T l r) u
unfolding MakesSame replaced
becomes-left T s z l r v u e h =
    answer-as T s z (Becomes T v r) (λ ρ. replaced ρ (term_at T l) ≡ replaced ρ (term_at T r))
    (λ ρ a q. ap (replaced ρ) (term_at-variable T l v e) ∙ q)
    (λ ρ a q. sym (ap (replaced ρ) (term_at-variable T l v e)) ∙ q) u h

pub becomes-right : (T : List Tree) (s z : Inference) (l r : TermId) (v : Variable) (u : Unified) → node_of (tree_at T r) ≡ nodes.Variable v →
    IsUnified T s z (Becomes T v l) u → IsUnified T s z (MakesSame T l r) u
unfolding MakesSame replaced
becomes-right T s z l r v u e h =
    answer-as T s z (Becomes T v l) (λ ρ. replaced ρ (term_at T l) ≡ replaced ρ (term_at T r))
    (λ ρ a q. sym (ap (replaced ρ) (term_at-variable T r v e) ∙ q))
    (λ ρ a q. sym (q ∙ ap (replaced ρ) (term_at-variable T r v e))) u h

pub yes-one : (T : List Tree) (s : Inference) (l r : TermId) → tree_at T l ≡ tree_at T r → IsUnified T s s (MakesSame T l r) Yes
unfolding MakesSame term_at
yes-one T s l r e = yes-same T s (λ ρ. replaced ρ (erased (tree_at T l)) ≡ replaced ρ (erased (tree_at T r))) (λ ρ. ap (λ t. replaced ρ (erased t)) e)

-- two tops that no replacement makes the same
clash : (t u : Tree) (ρ : Variable → Tree) → OfKinds ρ → is_alias (node_of t) || is_alias (node_of u) ≡ false →
    ((v : Variable) → node_of t ≡ nodes.Variable v → takes v (node_of u) ≡ false) →
    ((v : Variable) → node_of u ≡ nodes.Variable v → takes v (node_of t) ≡ false) →
    top_of t ≢ top_of u → replaced ρ (erased t) ≡ replaced ρ (erased u) → ⊥
unfolding replaced erased OfKinds
clash (node h ts) (node k us) ρ kinds no_alias left right differ e = differ (ap node_of e)
clash (node h ts) (alias k us) ρ kinds no_alias left right differ e = false≢true (sym no_alias)
clash (node h ts) (variable w) ρ kinds no_alias left right differ e =
    false≢true (sym (right w refl) ∙ sym (takes-erased_head w h) ∙ ap (λ z. takes w (node_of z)) e ∙ kinds w)
clash (alias h ts) u ρ kinds no_alias left right differ e = false≢true (sym no_alias)
clash (variable v) (node k us) ρ kinds no_alias left right differ e =
    false≢true (sym (left v refl) ∙ sym (takes-erased_head v k) ∙ ap (λ z. takes v (node_of z)) (sym e) ∙ kinds v)
clash (variable v) (alias k us) ρ kinds no_alias left right differ e = false≢true (sym no_alias)
clash (variable v) (variable w) ρ kinds no_alias left right differ e =
    elim (one-takes v w (node_of (ρ v)) (kinds v) (ap (λ z. takes w (node_of z)) e ∙ kinds w)) [
      | inl p ↦ false≢true (sym (left v refl) ∙ p)
      | inr p ↦ false≢true (sym (right w refl) ∙ p)
    ]

pub no-clash : (T : List Tree) (s : Inference) (l r : TermId) → is_alias (node_of (tree_at T l)) || is_alias (node_of (tree_at T r)) ≡ false →
    ((v : Variable) → node_of (tree_at T l) ≡ nodes.Variable v → takes v (node_of (tree_at T r)) ≡ false) →
    ((v : Variable) → node_of (tree_at T r) ≡ nodes.Variable v → takes v (node_of (tree_at T l)) ≡ false) →
    top_of (tree_at T l) ≢ top_of (tree_at T r) → IsUnified T s s (MakesSame T l r) No
unfolding IsUnified MakesSame term_at
no-clash T s l r no_alias left right differ ρ kinds a e = clash (tree_at T l) (tree_at T r) ρ kinds no_alias left right differ e

-- two tops that are the same are constructors
head-if : (t u : Tree) → is_alias (node_of t) || is_alias (node_of u) ≡ false → t ≢ u → top_of t ≡ top_of u → IsHead (node_of t)
head-if (node h ts) u no_alias differ e = tt
head-if (alias k ts) u no_alias differ e = absurd (false≢true (sym no_alias))
head-if (variable v) (node h us) no_alias differ e = absurd (cc)
head-if (variable v) (alias k us) no_alias differ e = absurd (cc)
head-if (variable v) (variable w) no_alias differ e = let p : v ≡ w = cc in absurd (differ (ap variable p))

pub one-head : (T : List Tree) (s : Inference) (l r : TermId) → is_alias (node_of (tree_at T l)) || is_alias (node_of (tree_at T r)) ≡ false →
    tree_at T l ≢ tree_at T r → top_of (tree_at T l) ≡ top_of (tree_at T r) → HaveOneHead T s s l r
one-head T s l r no_alias differ e = record { unchanged = refl; head = head-if (tree_at T l) (tree_at T r) no_alias differ e; same = e }
