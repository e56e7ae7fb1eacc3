-- Terms that leave nothing open where they part are decided.
use Rattle.std.proofs.Common.{◌≡◌, ◌≢◌, ℕ, zero, suc, ◌<◌, Bool, true, false, List, [], ◌∷◌, length, map, get_or, None, refl, sym, ap, ◌∙◌, subst, arith}
use Rattle.std.specs.Prelude.{◌||◌, ◌&&◌, not}
use Rattle.std.proofs.lemmas.Bool.{false≢true}
use Rattle.goal_terms.specs.Tree.{Tree, Trees, node, alias, variable, none, more, node_of, parts_of, forest}
use Rattle.goal_terms.specs.Erased.{erased}
use Rattle.goal_terms.specs.NodeTests.{some_node, some_in_row}
use Rattle.goal_terms.specs.SameHead.{top_of}
use Rattle.goal_terms.specs.SameLaws.{same_node-refl, same_tree-true, same_tree-refl}
use Rattle.goal_terms.specs.SameTree.{same_node, same_tree}
use Rattle.goal_interner.specs.TableMeaning.{tree_at}
use Rattle.goal_terms.specs.TreeWith.{tree_with}
use Rattle.goal_terms.specs.declared.answers.VarKind.{VarKind}
use Rattle.goal_terms.specs.declared.heads.Node.{Node}
use Rattle.goal_terms.specs.declared.heads.Node.TheVariants as nodes
use Rattle.goal_terms.specs.declared.heads.Variable.{Variable}
use Rattle.goal_interner.specs.declared.term_nodes.TermId.{TermId}
use Rattle.goal_infer.specs.Inference.{Inference}
use Rattle.goal_infer.specs.Replacement.{number_of, replaced, replaced_row}
use Rattle.goal_infer.specs.Resolution.{term_at, binding_at, resolution, resolved, IsSolved}
use Rattle.goal_infer.specs.Unification.{kinds_of, sides, is_alias, is_open, IsHead, HaveOneHead, IsDefinite, both_definite, are_plain, rows_are_plain, ArePlain, KeepsPlain, IsDecision, IsDecided, IsDecidedWherePlain}
use Rattle.goal_infer.specs.declared.undo.InferVariable.{InferVariable}
use Rattle.goal_infer.specs.declared.unify.Unified.{Unified}
use Rattle.goal_infer.specs.declared.unify.Unified.TheVariants.{Undecided}
use Rattle.goal_infer.proofs.BindLemmas.{with_binding, IsBindable, resolution-bound}
use Rattle.goal_infer.proofs.DecisionLemmas.{either-false, both-false, PutsDefinite, definite-replaced, puts-single, keeps-same, keeps-through, alias-undecided}
use Rattle.goal_infer.proofs.IdentityLemmas.{IsWalked}
use Rattle.goal_infer.proofs.PairLemmas.{left-is, right-is}
use Rattle.goal_infer.proofs.PartLemmas.{resolved-variable}
use Rattle.goal_infer.proofs.ReplacementLemmas.{single, replaced-twice}

-- tests that are joined
either-true : (a b : Bool) (P : Type 0) → a || b ≡ true → (a ≡ true → P) → (b ≡ true → P) → P
either-true true b P e f g = f refl
either-true false b P e f g = g e

second-true : (a b : Bool) → b ≡ true → a || b ≡ true
second-true true b e = refl
second-true false b e = e

unless : (q a b : Bool) → (a ≡ true → b ≡ true) → not q || a ≡ true → not q || b ≡ true
unless true a b f e = f e
unless false a b f e = refl

pub each-true : (a b : Bool) → a && b ≡ true → (a ≡ true) × (b ≡ true)
each-true true b e = (refl, e)
each-true false b e = absurd (false≢true e)

both-true : (a b : Bool) → a ≡ true → b ≡ true → a && b ≡ true
both-true a b e f = ap (λ q. q && b) e ∙ f

not-true : (q : Bool) → not q ≡ true → q ≡ false
not-true true e = absurd (false≢true e)
not-true false e = refl

-- identical terms are plain
pair-same : (ks : List VarKind) (t : Tree) → same_tree t t || both_definite ks t t ≡ true
pair-same ks t = ap (λ q. q || both_definite ks t t) (same_tree-refl t)

mutual
  unfolding are_plain

  plain-same : (ks : List VarKind) (t : Tree) → are_plain ks t t ≡ true
  plain-same ks (node h ts) = ap (λ q. not q || rows_are_plain ks ts ts) (same_node-refl (nodes.Head h)) ∙ rows-same ks ts
  plain-same ks (alias k ts) = pair-same ks (alias k ts)
  plain-same ks (variable v) = pair-same ks (variable v)

  rows-same : (ks : List VarKind) (ts : Trees) → rows_are_plain ks ts ts ≡ true
  rows-same ks none = refl
  rows-same ks (more t ts) = both-true (are_plain ks t t) (rows_are_plain ks ts ts) (plain-same ks t) (rows-same ks ts)

-- definite terms are plain
pair-definite : (ks : List VarKind) (t u : Tree) → some_node (is_open ks) t ≡ false → some_node (is_open ks) u ≡ false → same_tree t u || both_definite ks t u ≡ true
pair-definite ks t u e f = second-true (same_tree t u) (both_definite ks t u) (ap not (both-false (some_node (is_open ks) t) (some_node (is_open ks) u) e f))

mutual
  unfolding are_plain some_node

  definite-plain : (ks : List VarKind) (t u : Tree) → some_node (is_open ks) t ≡ false → some_node (is_open ks) u ≡ false → are_plain ks t u ≡ true
  definite-plain ks (node h ts) (node k us) e f = second-true (not (same_node (nodes.Head h) (nodes.Head k))) (rows_are_plain ks ts us) (rows-definite ks ts us e f)
  definite-plain ks t u e f = pair-definite ks t u e f

  rows-definite : (ks : List VarKind) (ts us : Trees) → some_in_row (is_open ks) ts ≡ false → some_in_row (is_open ks) us ≡ false → rows_are_plain ks ts us ≡ true
  rows-definite ks (more t ts) (more u us) e f =
      let first : (some_node (is_open ks) t ≡ false) × (some_in_row (is_open ks) ts ≡ false) = either-false (some_node (is_open ks) t) (some_in_row (is_open ks) ts) e in
      let second : (some_node (is_open ks) u ≡ false) × (some_in_row (is_open ks) us ≡ false) = either-false (some_node (is_open ks) u) (some_in_row (is_open ks) us) f in
      both-true (are_plain ks t u) (rows_are_plain ks ts us) (definite-plain ks t u first.0 second.0) (rows-definite ks ts us first.1 second.1)
  rows-definite ks ts us e f = refl

-- what is plain and no pair of constructors is identical or definite
by_pair : (ks : List VarKind) (t u : Tree) (P : Type 0) → same_tree t u || both_definite ks t u ≡ true → (t ≡ u → P) →
    (some_node (is_open ks) t ≡ false → some_node (is_open ks) u ≡ false → P) → P
by_pair ks t u P e f g =
    either-true (same_tree t u) (both_definite ks t u) P e (λ p. f (same_tree-true t u p)) (λ p.
    let both : (some_node (is_open ks) t ≡ false) × (some_node (is_open ks) u ≡ false) =
    either-false (some_node (is_open ks) t) (some_node (is_open ks) u) (not-true (some_node (is_open ks) t || some_node (is_open ks) u) p) in
    g both.0 both.1)

apart : (ks : List VarKind) (t u : Tree) → (IsHead (node_of t) → IsHead (node_of u) → ⊥) → are_plain ks t u ≡ true → t ≢ u →
    (some_node (is_open ks) t ≡ false) × (some_node (is_open ks) u ≡ false)
unfolding are_plain
apart ks (node h ts) (node k us) off e differ = absurd (off tt tt)
apart ks t u off e differ =
    by_pair ks t u ((some_node (is_open ks) t ≡ false) × (some_node (is_open ks) u ≡ false)) e (λ p. absurd (differ p)) (λ p q. (p, q))

-- definite trees put for variables keep what is plain
pair-replaced : (ks : List VarKind) (σ : Variable → Tree) → PutsDefinite ks σ → (t u : Tree) → same_tree t u || both_definite ks t u ≡ true →
    are_plain ks (replaced σ t) (replaced σ u) ≡ true
pair-replaced ks σ p t u e =
    by_pair ks t u (are_plain ks (replaced σ t) (replaced σ u) ≡ true) e
    (λ same. ap (λ z. are_plain ks (replaced σ t) (replaced σ z)) (sym same) ∙ plain-same ks (replaced σ t))
    (λ f g. definite-plain ks (replaced σ t) (replaced σ u) (definite-replaced ks σ p t f) (definite-replaced ks σ p u g))

mutual
  unfolding are_plain replaced

  plain-replaced : (ks : List VarKind) (σ : Variable → Tree) → PutsDefinite ks σ → (t u : Tree) → are_plain ks t u ≡ true → are_plain ks (replaced σ t) (replaced σ u) ≡ true
  plain-replaced ks σ p (node h ts) (node k us) e =
      unless (same_node (nodes.Head h) (nodes.Head k)) (rows_are_plain ks ts us) (rows_are_plain ks (replaced_row σ ts) (replaced_row σ us))
      (λ rows. rows-replaced ks σ p ts us rows) e
  plain-replaced ks σ p t u e = pair-replaced ks σ p t u e

  rows-replaced : (ks : List VarKind) (σ : Variable → Tree) → PutsDefinite ks σ → (ts us : Trees) → rows_are_plain ks ts us ≡ true →
      rows_are_plain ks (replaced_row σ ts) (replaced_row σ us) ≡ true
  rows-replaced ks σ p (more t ts) (more u us) e =
      let both : (are_plain ks t u ≡ true) × (rows_are_plain ks ts us ≡ true) = each-true (are_plain ks t u) (rows_are_plain ks ts us) e in
      both-true (are_plain ks (replaced σ t) (replaced σ u)) (rows_are_plain ks (replaced_row σ ts) (replaced_row σ us))
      (plain-replaced ks σ p t u both.0) (rows-replaced ks σ p ts us both.1)
  rows-replaced ks σ p ts us e = refl

-- nothing happened
pub plain-kept : (T : List Tree) (s z : Inference) → z ≡ s → KeepsPlain T s z
unfolding KeepsPlain
plain-kept T s z e l r p = subst (λ y. ArePlain (kinds_of s) T y l r) (sym e) p

pub decision-same : (T : List Tree) (s z : Inference) (u : Unified) → z ≡ s → u ≢ Undecided → IsDecision T s z u
decision-same T s z u e differ = (differ, keeps-same T s z e, plain-kept T s z e)

pub plain-decided : (T : List Tree) (s z : Inference) (l r : TermId) (u : Unified) → z ≡ s → u ≢ Undecided → IsDecidedWherePlain T s z (sides l r) u
unfolding IsDecidedWherePlain
plain-decided T s z l r u e differ p = decision-same T s z u e differ

-- one after the other
pub plain-through : (T : List Tree) (a b c : Inference) → kinds_of b ≡ kinds_of a → KeepsPlain T a b → KeepsPlain T b c → KeepsPlain T a c
unfolding KeepsPlain
plain-through T a b c e f g l r p =
    subst (λ ks. ArePlain ks T c l r) e (g l r (subst (λ ks. ArePlain ks T b l r) (sym e) (f l r p)))

-- a binding
rebound : (T : List Tree) (s : Inference) (v : Variable) (x : InferVariable) (id : TermId) → IsBindable T s v x id → (other : TermId) →
    resolved T (with_binding s (number_of v) x id) other ≡ replaced (single v (resolved T s id)) (resolved T s other)
unfolding resolved
rebound T s v x id b other =
    ap (λ σ. replaced σ (term_at T other)) (resolution-bound T s v x id b)
    ∙ sym (replaced-twice (single v (resolved T s id)) (resolution T s) (term_at T other))

pub plain-binding : (T : List Tree) (s : Inference) (v : Variable) (x : InferVariable) (id : TermId) → IsBindable T s v x id → IsDefinite (kinds_of s) (resolved T s id) →
    KeepsPlain T s (with_binding s (number_of v) x id)
unfolding KeepsPlain ArePlain IsDefinite
plain-binding T s v x id b d l r p =
    ap (λ t. are_plain (kinds_of s) t (resolved T (with_binding s (number_of v) x id) r)) (rebound T s v x id b l)
    ∙ ap (are_plain (kinds_of s) (replaced (single v (resolved T s id)) (resolved T s l))) (rebound T s v x id b r)
    ∙ plain-replaced (kinds_of s) (single v (resolved T s id)) (puts-single (kinds_of s) v (resolved T s id) d) (resolved T s l) (resolved T s r) p

-- plain terms of which one is a variable or an alias
never-head : (n : Node) (v : Variable) → n ≡ nodes.Variable v → IsHead n → ⊥
never-head n v e p = subst IsHead e p

pub apart-left : (T : List Tree) (s : Inference) → IsSolved T s → (v : Variable) (l r : TermId) → node_of (tree_at T l) ≡ nodes.Variable v →
    binding_at s (node_of (tree_at T l)) ≡ None → resolved T s l ≢ resolved T s r → ArePlain (kinds_of s) T s l r →
    IsDefinite (kinds_of s) (resolved T s l) × IsDefinite (kinds_of s) (resolved T s r)
unfolding ArePlain IsDefinite
apart-left T s solved v l r e ended differ p =
    apart (kinds_of s) (resolved T s l) (resolved T s r)
    (λ f g. never-head (node_of (resolved T s l)) v (ap node_of (resolved-variable T s solved l v e ended)) f) p differ

pub apart-right : (T : List Tree) (s : Inference) → IsSolved T s → (v : Variable) (l r : TermId) → node_of (tree_at T r) ≡ nodes.Variable v →
    binding_at s (node_of (tree_at T r)) ≡ None → resolved T s l ≢ resolved T s r → ArePlain (kinds_of s) T s l r →
    IsDefinite (kinds_of s) (resolved T s l) × IsDefinite (kinds_of s) (resolved T s r)
unfolding ArePlain IsDefinite
apart-right T s solved v l r e ended differ p =
    apart (kinds_of s) (resolved T s l) (resolved T s r)
    (λ f g. never-head (node_of (resolved T s r)) v (ap node_of (resolved-variable T s solved r v e ended)) g) p differ

alias-top : (σ : Variable → Tree) (t : Tree) → is_alias (node_of t) ≡ true → IsHead (node_of (replaced σ (erased t))) → ⊥
unfolding replaced erased
alias-top σ (node h ts) e p = false≢true e
alias-top σ (alias k ts) e p = p
alias-top σ (variable v) e p = false≢true e

alias-apart : (T : List Tree) (s : Inference) (l r : TermId) → is_alias (node_of (tree_at T l)) || is_alias (node_of (tree_at T r)) ≡ true →
    IsHead (node_of (resolved T s l)) → IsHead (node_of (resolved T s r)) → ⊥
unfolding resolved term_at
alias-apart T s l r e f g =
    either-true (is_alias (node_of (tree_at T l))) (is_alias (node_of (tree_at T r))) ⊥ e
    (λ p. alias-top (resolution T s) (tree_at T l) p f) (λ p. alias-top (resolution T s) (tree_at T r) p g)

pub plain-alias : (T : List Tree) (s : Inference) (l r : TermId) → is_alias (node_of (tree_at T l)) || is_alias (node_of (tree_at T r)) ≡ true →
    resolved T s l ≢ resolved T s r → (u : Unified) → IsDecidedWherePlain T s s (sides l r) u
unfolding IsDecidedWherePlain ArePlain IsDecided IsDefinite
plain-alias T s l r e differ u p =
    let both : (some_node (is_open (kinds_of s)) (resolved T s l) ≡ false) × (some_node (is_open (kinds_of s)) (resolved T s r) ≡ false) =
    apart (kinds_of s) (resolved T s l) (resolved T s r) (alias-apart T s l r e) p differ in alias-undecided T s l r e u both.0 both.1

-- definite terms are decided as plain ones
pub definite-decided : (T : List Tree) (s z : Inference) (l r : TermId) (u : Unified) → IsDecidedWherePlain T s z (sides l r) u → IsDecided T s z (sides l r) u
unfolding IsDecided IsDecidedWherePlain ArePlain IsDefinite
definite-decided T s z l r u h dl dr = h (definite-plain (kinds_of s) (resolved T s l) (resolved T s r) dl dr)

-- given terms in place of resolved ones
plain-given : (T : List Tree) (s : Inference) (a b c d : TermId) → resolved T s a ≡ resolved T s c → resolved T s b ≡ resolved T s d →
    ArePlain (kinds_of s) T s c d → ArePlain (kinds_of s) T s a b
unfolding ArePlain
plain-given T s a b c d e f p = ap (λ t. are_plain (kinds_of s) t (resolved T s b)) e ∙ ap (are_plain (kinds_of s) (resolved T s c)) f ∙ p

pub decided-given : (T : List Tree) (s z : Inference) (a b c d : TermId) → resolved T s a ≡ resolved T s c → resolved T s b ≡ resolved T s d → (u : Unified) →
    IsDecidedWherePlain T s z (sides a b) u → IsDecidedWherePlain T s z (sides c d) u
unfolding IsDecidedWherePlain
decided-given T s z a b c d e f u h p = h (plain-given T s a b c d e f p)

-- the parts of plain terms with one constructor are plain
row-part : (ks : List VarKind) (f : TermId → Tree) (ls rs : List TermId) (i : ℕ) (d : TermId) → rows_are_plain ks (forest (map f ls)) (forest (map f rs)) ≡ true →
    i < length ls → i < length rs → are_plain ks (f (get_or ls i d)) (f (get_or rs i d)) ≡ true
unfolding are_plain
row-part ks f [] rs i d e p q = absurd (omega arith)
row-part ks f (l ∷ ls) [] i d e p q = absurd (omega arith)
row-part ks f (l ∷ ls) (r ∷ rs) zero d e p q = (each-true (are_plain ks (f l) (f r)) (rows_are_plain ks (forest (map f ls)) (forest (map f rs))) e).0
row-part ks f (l ∷ ls) (r ∷ rs) (suc i) d e p q =
    row-part ks f ls rs i d (each-true (are_plain ks (f l) (f r)) (rows_are_plain ks (forest (map f ls)) (forest (map f rs))) e).1 (omega arith) (omega arith)

rows-with : (ks : List VarKind) (t : Tree) (ts us : List Tree) → IsHead (node_of t) → are_plain ks (tree_with (top_of t) ts) (tree_with (top_of t) us) ≡ true →
    rows_are_plain ks (forest ts) (forest us) ≡ true
unfolding are_plain
rows-with ks (node h rest) ts us p e =
    sym (ap (λ q. not q || rows_are_plain ks (forest ts) (forest us)) (same_node-refl (top_of (node h rest)))) ∙ e
rows-with ks (alias k rest) ts us p e = absurd p
rows-with ks (variable v) ts us p e = absurd p

plain-part : (T : List Tree) (s x : Inference) (l r : TermId) → HaveOneHead T s x l r → (ls rs : List TermId) → map (tree_at T) ls ≡ parts_of (tree_at T l) →
    map (tree_at T) rs ≡ parts_of (tree_at T r) → (i : ℕ) → i < length ls → i < length rs → ArePlain (kinds_of s) T s l r →
    ArePlain (kinds_of s) T s (get_or ls i (record { 0 = 0 })) (get_or rs i (record { 0 = 0 }))
unfolding ArePlain resolved
plain-part T s x l r one ls rs lp rp i f g p =
    row-part (kinds_of s) (resolved T s) ls rs i (record { 0 = 0 })
    (rows-with (kinds_of s) (tree_at T l) (map (resolved T s) ls) (map (resolved T s) rs) one.head
    (sym (ap (λ t. are_plain (kinds_of s) t (resolved T s r)) (left-is T s x l r one ls rs lp rp (resolution T s))
    ∙ ap (are_plain (kinds_of s) (tree_with (top_of (tree_at T l)) (map (resolved T s) ls)))
    (right-is T s x l r one ls rs lp rp (resolution T s) ∙ ap (λ n. tree_with n (map (resolved T s) rs)) (sym one.same))) ∙ p)) f g

-- one more pair
pub plain-more : (T : List Tree) (s x y z : Inference) (l r l' r' : TermId) (ls rs : List TermId) → IsWalked T s l r l' r' ls rs → HaveOneHead T s x l' r' →
    kinds_of y ≡ kinds_of s → (i : ℕ) → i < length ls → i < length rs → (a u b : Unified) → IsDecidedWherePlain T s y (sides l r) a →
    IsDecidedWherePlain T y z (sides (get_or ls i (record { 0 = 0 })) (get_or rs i (record { 0 = 0 }))) u → (a ≢ Undecided → u ≢ Undecided → b ≢ Undecided) →
    IsDecidedWherePlain T s z (sides l r) b
unfolding IsDecidedWherePlain KeepsPlain
plain-more T s x y z l r l' r' ls rs w one k i f g a u b before here after p =
    let old : IsDecision T s y a = before p in
    let part : ArePlain (kinds_of s) T s (get_or ls i (record { 0 = 0 })) (get_or rs i (record { 0 = 0 })) =
    plain-part T s x l' r' one ls rs w.left_parts w.right_parts i f g (plain-given T s l' r' l r w.left w.right p) in
    let new : IsDecision T y z u =
    here (subst (λ ks. ArePlain ks T y (get_or ls i (record { 0 = 0 })) (get_or rs i (record { 0 = 0 }))) (sym k)
    (old.2 (get_or ls i (record { 0 = 0 })) (get_or rs i (record { 0 = 0 })) part)) in
    (after old.0 new.0, keeps-through T s y z k old.1 new.1, plain-through T s y z k old.2 new.2)
