-- Terms without variables.
use Rattle.std.proofs.Common.{◌≡◌, ◌≢◌, ℕ, zero, suc, ◌<◌, false, List, [], ◌∷◌, length, map, get_or, None, refl, sym, ap, ◌∙◌, subst, arith, inl, inr}
use Rattle.std.specs.Prelude.{◌||◌}
use Rattle.std.proofs.lemmas.Bool.{false≢true}
use Rattle.goal_terms.specs.Tree.{Tree, node, alias, variable, node_of, forest}
use Rattle.goal_terms.specs.Erased.{erased}
use Rattle.goal_terms.specs.NodeTests.{is_any_infer, some_node}
use Rattle.goal_terms.specs.SameHead.{top_of}
use Rattle.goal_interner.specs.TableMeaning.{tree_at}
use Rattle.goal_terms.specs.TreeWith.{tree_with}
use Rattle.goal_terms.specs.declared.heads.Node.TheVariants as nodes
use Rattle.goal_terms.specs.declared.heads.Variable.{Variable}
use Rattle.goal_interner.specs.declared.term_nodes.TermId.{TermId}
use Rattle.goal_infer.specs.Inference.{Inference}
use Rattle.goal_infer.specs.Replacement.{replaced}
use Rattle.goal_infer.specs.Resolution.{term_at, binding_at, resolution, resolved, IsSolved}
use Rattle.goal_infer.specs.Unification.{is_alias, IsHead, HaveOneHead, IsClosed, Clash, RowsClash, IsClashing, IsUntouched}
use Rattle.goal_infer.specs.declared.unify.Unified.{Unified}
use Rattle.goal_infer.specs.declared.unify.Unified.TheVariants.{No}
use Rattle.goal_infer.proofs.DecisionLemmas.{never-in-part}
use Rattle.goal_infer.proofs.IdentityLemmas.{IsWalked}
use Rattle.goal_infer.proofs.PairLemmas.{head-above, head-other, left-is, right-is}
use Rattle.goal_infer.proofs.PartLemmas.{resolved-variable}

-- an unbound variable is not closed
pub never-variable : (T : List Tree) (s : Inference) → IsSolved T s → (v : Variable) (id : TermId) → node_of (tree_at T id) ≡ nodes.Variable v →
    binding_at s (node_of (tree_at T id)) ≡ None → IsClosed (resolved T s id) → ⊥
unfolding some_node
never-variable T s solved v id e ended closed = false≢true (sym closed ∙ ap (some_node is_any_infer) (resolved-variable T s solved id v e ended))

-- nothing happened
pub untouched-same : (T : List Tree) (s z : Inference) (l r : TermId) → z ≡ s → IsUntouched T s z l r
unfolding IsUntouched
untouched-same T s z l r e cl cr = e

pub untouched-left : (T : List Tree) (s z : Inference) → IsSolved T s → (v : Variable) (l r : TermId) → node_of (tree_at T l) ≡ nodes.Variable v →
    binding_at s (node_of (tree_at T l)) ≡ None → IsUntouched T s z l r
unfolding IsUntouched
untouched-left T s z solved v l r e ended cl cr = absurd (never-variable T s solved v l e ended cl)

pub untouched-right : (T : List Tree) (s z : Inference) → IsSolved T s → (v : Variable) (l r : TermId) → node_of (tree_at T r) ≡ nodes.Variable v →
    binding_at s (node_of (tree_at T r)) ≡ None → IsUntouched T s z l r
unfolding IsUntouched
untouched-right T s z solved v l r e ended cl cr = absurd (never-variable T s solved v r e ended cr)

pub untouched-given : (T : List Tree) (s z : Inference) (a b c d : TermId) → resolved T s a ≡ resolved T s c → resolved T s b ≡ resolved T s d →
    IsUntouched T s z a b → IsUntouched T s z c d
unfolding IsUntouched
untouched-given T s z a b c d e f h cl cr = h (ap (some_node is_any_infer) e ∙ cl) (ap (some_node is_any_infer) f ∙ cr)

-- an answer that isn't no, and no between a variable and another term
pub clash-never : (T : List Tree) (s : Inference) (l r : TermId) (u : Unified) → u ≢ No → IsClashing T s l r u
unfolding IsClashing
clash-never T s l r u differ e cl cr = absurd (differ e)

pub clash-left : (T : List Tree) (s : Inference) → IsSolved T s → (v : Variable) (l r : TermId) → node_of (tree_at T l) ≡ nodes.Variable v →
    binding_at s (node_of (tree_at T l)) ≡ None → (u : Unified) → IsClashing T s l r u
unfolding IsClashing
clash-left T s solved v l r e ended u said cl cr = absurd (never-variable T s solved v l e ended cl)

pub clash-right : (T : List Tree) (s : Inference) → IsSolved T s → (v : Variable) (l r : TermId) → node_of (tree_at T r) ≡ nodes.Variable v →
    binding_at s (node_of (tree_at T r)) ≡ None → (u : Unified) → IsClashing T s l r u
unfolding IsClashing
clash-right T s solved v l r e ended u said cl cr = absurd (never-variable T s solved v r e ended cr)

-- two tops
tops-clash : (σ : Variable → Tree) (t u : Tree) → is_alias (node_of t) || is_alias (node_of u) ≡ false → ((v : Variable) → node_of t ≡ nodes.Variable v → ⊥) →
    ((v : Variable) → node_of u ≡ nodes.Variable v → ⊥) → top_of t ≢ top_of u → Clash (replaced σ (erased t)) (replaced σ (erased u))
unfolding Clash replaced erased
tops-clash σ (node h ts) (node k us) no_alias left right differ = inl (λ e. differ (ap nodes.Head e))
tops-clash σ (node h ts) (alias k us) no_alias left right differ = absurd (false≢true (sym no_alias))
tops-clash σ (node h ts) (variable w) no_alias left right differ = absurd (right w refl)
tops-clash σ (alias k ts) u no_alias left right differ = absurd (false≢true (sym no_alias))
tops-clash σ (variable v) u no_alias left right differ = absurd (left v refl)

pub clash-tops : (T : List Tree) (s : Inference) → IsSolved T s → (l r : TermId) → binding_at s (node_of (tree_at T l)) ≡ None →
    binding_at s (node_of (tree_at T r)) ≡ None → is_alias (node_of (tree_at T l)) || is_alias (node_of (tree_at T r)) ≡ false →
    top_of (tree_at T l) ≢ top_of (tree_at T r) → (u : Unified) → IsClashing T s l r u
unfolding IsClashing resolved term_at
clash-tops T s solved l r le re no_alias differ u said cl cr =
    tops-clash (resolution T s) (tree_at T l) (tree_at T r) no_alias
    (λ v e. never-variable T s solved v l e le cl) (λ v e. never-variable T s solved v r e re cr) differ

-- two rows
row-count : (f : TermId → Tree) (ls rs : List TermId) → length rs ≢ length ls → RowsClash (forest (map f ls)) (forest (map f rs))
unfolding Clash
row-count f [] [] differ = absurd (differ refl)
row-count f [] (r ∷ rs) differ = tt
row-count f (l ∷ ls) [] differ = tt
row-count f (l ∷ ls) (r ∷ rs) differ = inr (row-count f ls rs (λ e. differ (ap suc e)))

row-place : (f : TermId → Tree) (ls rs : List TermId) (i : ℕ) (d : TermId) → i < length ls → i < length rs → Clash (f (get_or ls i d)) (f (get_or rs i d)) →
    RowsClash (forest (map f ls)) (forest (map f rs))
unfolding Clash
row-place f [] rs i d p q h = absurd (omega arith)
row-place f (l ∷ ls) [] i d p q h = absurd (omega arith)
row-place f (l ∷ ls) (r ∷ rs) zero d p q h = inl h
row-place f (l ∷ ls) (r ∷ rs) (suc i) d p q h = inr (row-place f ls rs i d (omega arith) (omega arith) h)

clash-with : (t : Tree) (ts us : List Tree) → IsHead (node_of t) → RowsClash (forest ts) (forest us) → Clash (tree_with (top_of t) ts) (tree_with (top_of t) us)
unfolding Clash
clash-with (node h rest) ts us p c = inr c
clash-with (alias k rest) ts us p c = absurd p
clash-with (variable v) ts us p c = absurd p

-- given terms in place of resolved ones
pub clash-given : (T : List Tree) (s : Inference) (a b c d : TermId) → resolved T s a ≡ resolved T s c → resolved T s b ≡ resolved T s d → (u : Unified) →
    IsClashing T s a b u → IsClashing T s c d u
unfolding IsClashing
clash-given T s a b c d e f u h said cl cr =
    subst (λ t. Clash t (resolved T s d)) e (subst (Clash (resolved T s a)) f (h said (ap (some_node is_any_infer) e ∙ cl) (ap (some_node is_any_infer) f ∙ cr)))

-- two terms with one constructor whose parts are walked
module _ (T : List Tree) (s x : Inference) (l r l' r' : TermId) (ls rs : List TermId) (w : IsWalked T s l r l' r' ls rs) (one : HaveOneHead T s x l' r') where
  rows-clash : RowsClash (forest (map (resolved T s) ls)) (forest (map (resolved T s) rs)) → Clash (resolved T s l) (resolved T s r)
  unfolding resolved
  rows-clash c =
      subst (λ t. Clash t (resolved T s r)) (sym (left-is T s x l' r' one ls rs w.left_parts w.right_parts (resolution T s)) ∙ w.left)
      (subst (Clash (tree_with (top_of (tree_at T l')) (map (resolved T s) ls)))
      (ap (λ n. tree_with n (map (resolved T s) rs)) one.same ∙ sym (right-is T s x l' r' one ls rs w.left_parts w.right_parts (resolution T s)) ∙ w.right)
      (clash-with (tree_at T l') (map (resolved T s) ls) (map (resolved T s) rs) one.head c))

  pub clash-count : length rs ≢ length ls → (u : Unified) → IsClashing T s l r u
  unfolding IsClashing
  clash-count differ u said cl cr = rows-clash (row-count (resolved T s) ls rs differ)

  closed-left : (i : ℕ) → i < length ls → IsClosed (resolved T s l) → IsClosed (resolved T s (get_or ls i (record { 0 = 0 })))
  closed-left i f c =
      never-in-part is_any_infer T s l' ls i w.left_parts (head-above (node_of (tree_at T l')) one.head) f (ap (some_node is_any_infer) w.left ∙ c)

  closed-right : (i : ℕ) → i < length rs → IsClosed (resolved T s r) → IsClosed (resolved T s (get_or rs i (record { 0 = 0 })))
  closed-right i g c =
      never-in-part is_any_infer T s r' rs i w.right_parts
      (head-above (node_of (tree_at T r')) (head-other (tree_at T l') (tree_at T r') one.head one.same)) g (ap (some_node is_any_infer) w.right ∙ c)

  -- one more pair
  pub untouched-more : (y z : Inference) (i : ℕ) → i < length ls → i < length rs → IsUntouched T s y l r →
      IsUntouched T y z (get_or ls i (record { 0 = 0 })) (get_or rs i (record { 0 = 0 })) → IsUntouched T s z l r
  unfolding IsUntouched
  untouched-more y z i f g before here cl cr =
      let e : y ≡ s = before cl cr in
      here (subst (λ q. IsClosed (resolved T q (get_or ls i (record { 0 = 0 })))) (sym e) (closed-left i f cl))
      (subst (λ q. IsClosed (resolved T q (get_or rs i (record { 0 = 0 })))) (sym e) (closed-right i g cr)) ∙ e

  pub clash-part : (y : Inference) (i : ℕ) → i < length ls → i < length rs → IsUntouched T s y l r → (u : Unified) → u ≡ No →
      IsClashing T y (get_or ls i (record { 0 = 0 })) (get_or rs i (record { 0 = 0 })) u → (v : Unified) → IsClashing T s l r v
  unfolding IsUntouched IsClashing
  clash-part y i f g before u said here v said' cl cr =
      rows-clash (row-place (resolved T s) ls rs i (record { 0 = 0 }) f g
      (subst (λ q. IsClashing T q (get_or ls i (record { 0 = 0 })) (get_or rs i (record { 0 = 0 })) u) (before cl cr) here said (closed-left i f cl) (closed-right i g cr)))
