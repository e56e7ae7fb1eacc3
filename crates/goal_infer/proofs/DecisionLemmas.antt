-- Terms without aliases are decided.
use Rattle.std.proofs.Common.{◌≡◌, ◌≢◌, ℕ, zero, suc, ◌<◌, Bool, true, false, List, [], ◌∷◌, length, map, get_or, None, refl, sym, ap, ◌∙◌, subst, arith}
use Rattle.std.specs.Prelude.{◌||◌, not}
use Rattle.std.proofs.lemmas.Bool.{false≢true}
use Rattle.goal_terms.specs.Tree.{Tree, Trees, node, alias, variable, none, more, node_of, parts_of, forest}
use Rattle.goal_terms.specs.Erased.{erased, erased_head, compared_node}
use Rattle.goal_terms.specs.NodeTests.{is_made, some_node, some_in_row}
use Rattle.goal_interner.specs.TableMeaning.{tree_at}
use Rattle.goal_terms.specs.TreeWith.{tree_with}
use Rattle.goal_terms.specs.declared.answers.VarKind.{VarKind}
use Rattle.goal_terms.specs.declared.compare.Regions.TheVariants.{Forgotten}
use Rattle.goal_terms.specs.declared.heads.Node.{Node}
use Rattle.goal_terms.specs.declared.heads.Node.TheVariants as nodes
use Rattle.goal_terms.specs.declared.heads.Variable.{Variable}
use Rattle.goal_interner.specs.declared.term_nodes.TermId.{TermId}
use Rattle.goal_infer.specs.Inference.{Inference}
use Rattle.goal_infer.specs.Occurrence.{place_of, place_in_row, place_at, joined}
use Rattle.goal_infer.specs.Replacement.{number_of, kind_of_variable, replaced, replaced_row}
use Rattle.goal_infer.specs.Resolution.{term_at, binding_at, resolution, resolved, IsSolved}
use Rattle.goal_infer.specs.Unification.{kinds_of, is_made_in, is_alias, is_open, sides, IsDefinite, KeepsDefinite, IsDecision, IsDecided}
use Rattle.goal_infer.specs.declared.occurs.Occurrence.{Occurrence}
use Rattle.goal_infer.specs.declared.occurs.Occurrence.TheVariants.{Nowhere, InAliasesAlone, Outside}
use Rattle.goal_infer.specs.declared.undo.InferVariable.{InferVariable}
use Rattle.goal_infer.specs.declared.unify.Unified.{Unified}
use Rattle.goal_infer.specs.declared.unify.Unified.TheVariants.{Yes, Undecided, No}
use Rattle.goal_infer.proofs.BindLemmas.{with_binding, IsBindable, resolution-bound}
use Rattle.goal_infer.proofs.PartLemmas.{is_above, standing, standing-parts, resolved-variable}
use Rattle.goal_infer.proofs.ReplacementLemmas.{single, replaced-twice, by_same, single-here, single-elsewhere}

pub either-false : (a b : Bool) → a || b ≡ false → (a ≡ false) × (b ≡ false)
either-false true b e = absurd (false≢true (sym e))
either-false false b e = (refl, e)

pub both-false : (a b : Bool) → a ≡ false → b ≡ false → a || b ≡ false
both-false a b e f = ap (λ q. q || b) e ∙ f

-- in a definite term a variable stands outside of aliases or nowhere
joined-outside : (a b : Occurrence) → a ≢ InAliasesAlone → b ≢ InAliasesAlone → joined a b ≢ InAliasesAlone
joined-outside Nowhere b f g = g
joined-outside InAliasesAlone b f g = absurd (f refl)
joined-outside Outside b f g = λ e. absurd (cc)

place_at-outside : (q : Bool) → place_at q ≢ InAliasesAlone
place_at-outside true e = absurd (cc)
place_at-outside false e = absurd (cc)

mutual
  unfolding some_node place_of

  place-definite : (ks : List VarKind) (v : Variable) (t : Tree) → some_node (is_open ks) t ≡ false → place_of v t ≢ InAliasesAlone
  place-definite ks v (node h ts) e = row-definite ks v ts e
  place-definite ks v (alias k ts) e = absurd (false≢true (sym e))
  place-definite ks v (variable w) e = place_at-outside _

  row-definite : (ks : List VarKind) (v : Variable) (ts : Trees) → some_in_row (is_open ks) ts ≡ false → place_in_row v ts ≢ InAliasesAlone
  row-definite ks v none e = λ f. absurd (cc)
  row-definite ks v (more t ts) e =
      let both : (some_node (is_open ks) t ≡ false) × (some_in_row (is_open ks) ts ≡ false) = either-false (some_node (is_open ks) t) (some_in_row (is_open ks) ts) e in
      joined-outside (place_of v t) (place_in_row v ts) (place-definite ks v t both.0) (row-definite ks v ts both.1)

-- definite trees put for variables that were made
abbrev pub PutsDefinite : List VarKind → (Variable → Tree) → Type 0
PutsDefinite ks σ = (w : Variable) → is_open ks (nodes.Variable w) ≡ false → some_node (is_open ks) (σ w) ≡ false

mutual
  unfolding some_node replaced

  pub definite-replaced : (ks : List VarKind) (σ : Variable → Tree) → PutsDefinite ks σ → (t : Tree) → some_node (is_open ks) t ≡ false → some_node (is_open ks) (replaced σ t) ≡ false
  definite-replaced ks σ p (node h ts) e = row-replaced ks σ p ts e
  definite-replaced ks σ p (alias k ts) e = absurd (false≢true (sym e))
  definite-replaced ks σ p (variable w) e = p w e

  row-replaced : (ks : List VarKind) (σ : Variable → Tree) → PutsDefinite ks σ → (ts : Trees) → some_in_row (is_open ks) ts ≡ false → some_in_row (is_open ks) (replaced_row σ ts) ≡ false
  row-replaced ks σ p none e = e
  row-replaced ks σ p (more t ts) e =
      let both : (some_node (is_open ks) t ≡ false) × (some_in_row (is_open ks) ts ≡ false) = either-false (some_node (is_open ks) t) (some_in_row (is_open ks) ts) e in
      both-false (some_node (is_open ks) (replaced σ t)) (some_in_row (is_open ks) (replaced_row σ ts)) (definite-replaced ks σ p t both.0) (row-replaced ks σ p ts both.1)

pub puts-single : (ks : List VarKind) (v : Variable) (t : Tree) → some_node (is_open ks) t ≡ false → PutsDefinite ks (single v t)
unfolding some_node
puts-single ks v t e w h =
    by_same v w (some_node (is_open ks) (single v t w) ≡ false) (λ p. ap (some_node (is_open ks)) (single-here v w t p) ∙ e)
    (λ p. ap (some_node (is_open ks)) (single-elsewhere v w t p) ∙ h)

-- nothing happened
pub keeps-same : (T : List Tree) (s z : Inference) → z ≡ s → KeepsDefinite T s z
unfolding KeepsDefinite
keeps-same T s z e id d = subst (λ y. IsDefinite (kinds_of s) (resolved T y id)) (sym e) d

pub keeps-through : (T : List Tree) (a b c : Inference) → kinds_of b ≡ kinds_of a → KeepsDefinite T a b → KeepsDefinite T b c → KeepsDefinite T a c
unfolding KeepsDefinite
keeps-through T a b c e f g id d =
    subst (λ ks. IsDefinite ks (resolved T c id)) e (g id (subst (λ ks. IsDefinite ks (resolved T b id)) (sym e) (f id d)))

-- a binding
pub keeps-binding : (T : List Tree) (s : Inference) (v : Variable) (x : InferVariable) (id : TermId) → IsBindable T s v x id → IsDefinite (kinds_of s) (resolved T s id) →
    KeepsDefinite T s (with_binding s (number_of v) x id)
unfolding KeepsDefinite IsDefinite resolved
keeps-binding T s v x id b d other e =
    ap (λ σ. some_node (is_open (kinds_of s)) (replaced σ (term_at T other))) (resolution-bound T s v x id b)
    ∙ ap (some_node (is_open (kinds_of s))) (sym (replaced-twice (single v (replaced (resolution T s) (term_at T id))) (resolution T s) (term_at T other)))
    ∙ definite-replaced (kinds_of s) (single v (replaced (resolution T s) (term_at T id))) (puts-single (kinds_of s) v (replaced (resolution T s) (term_at T id)) d)
    (replaced (resolution T s) (term_at T other)) e

-- decisions
pub yes-decides : Yes ≢ Undecided
yes-decides e = absurd (cc)

pub no-decides : No ≢ Undecided
no-decides e = absurd (cc)

pub never-in-aliases : (T : List Tree) (s : Inference) (v : Variable) (id : TermId) (P : Type 0) → InAliasesAlone ≡ place_of v (resolved T s id) → IsDefinite (kinds_of s) (resolved T s id) → P
unfolding IsDefinite
never-in-aliases T s v id P e d = absurd (place-definite (kinds_of s) v (resolved T s id) d (sym e))

-- a definite variable was made
pub definite-made : (T : List Tree) (s : Inference) → IsSolved T s → (v : Variable) (id : TermId) → node_of (tree_at T id) ≡ nodes.Variable v →
    binding_at s (node_of (tree_at T id)) ≡ None → IsDefinite (kinds_of s) (resolved T s id) → is_made_in s v ≡ true
unfolding IsDefinite is_made_in some_node
definite-made T s solved v id e f d = on (is_made (kinds_of s) (number_of v) (kind_of_variable v)) (sym (ap (some_node (is_open (kinds_of s))) (resolved-variable T s solved id v e f)) ∙ d) where
  on : (q : Bool) → not q ≡ false → q ≡ true
  on true h = refl
  on false h = absurd (false≢true (sym h))

-- an alias is not definite
alias-open : (ks : List VarKind) (σ : Variable → Tree) (t : Tree) → is_alias (node_of t) ≡ true → some_node (is_open ks) (replaced σ (erased t)) ≡ true
unfolding some_node replaced erased
alias-open ks σ (node h ts) e = absurd (false≢true e)
alias-open ks σ (alias k ts) e = refl
alias-open ks σ (variable v) e = absurd (false≢true e)

pub alias-undecided : (T : List Tree) (s : Inference) (l r : TermId) → is_alias (node_of (tree_at T l)) || is_alias (node_of (tree_at T r)) ≡ true → (u : Unified) → IsDecided T s s (sides l r) u
unfolding IsDecided IsDefinite resolved term_at
alias-undecided T s l r e u dl dr = on (is_alias (node_of (tree_at T l))) refl where
  on : (q : Bool) → is_alias (node_of (tree_at T l)) ≡ q → IsDecision T s s u
  on true f = absurd (false≢true (sym dl ∙ alias-open (kinds_of s) (resolution T s) (tree_at T l) f))
  on false f = absurd (false≢true (sym dr ∙ alias-open (kinds_of s) (resolution T s) (tree_at T r) (sym (ap (λ q. q || is_alias (node_of (tree_at T r))) f) ∙ e)))

-- what stands nowhere in a term stands nowhere in its parts
some-part : (p : Node → Bool) (f : TermId → Tree) (ids : List TermId) (i : ℕ) (d : TermId) → some_in_row p (forest (map f ids)) ≡ false → i < length ids → some_node p (f (get_or ids i d)) ≡ false
unfolding some_node
some-part p f [] i d e l = absurd (omega arith)
some-part p f (id ∷ ids) zero d e l = (either-false (some_node p (f id)) (some_in_row p (forest (map f ids))) e).0
some-part p f (id ∷ ids) (suc i) d e l = some-part p f ids i d (either-false (some_node p (f id)) (some_in_row p (forest (map f ids))) e).1 (omega arith)

some-with : (p : Node → Bool) (n : Node) (us : List Tree) → is_above n → some_node p (tree_with (compared_node Forgotten n) us) ≡ false → some_in_row p (forest us) ≡ false
unfolding some_node
some-with p (nodes.Head h) us q e = (either-false (p (nodes.Head (erased_head h))) (some_in_row p (forest us)) e).1
some-with p (nodes.Alias k) us q e = (either-false (p (nodes.Alias k)) (some_in_row p (forest us)) e).1
some-with p (nodes.Variable v) us q e = absurd q

pub never-in-part : (p : Node → Bool) (T : List Tree) (s : Inference) (id : TermId) (ids : List TermId) (i : ℕ) → map (tree_at T) ids ≡ parts_of (tree_at T id) →
    is_above (node_of (tree_at T id)) → i < length ids → some_node p (resolved T s id) ≡ false → some_node p (resolved T s (get_or ids i (record { 0 = 0 }))) ≡ false
unfolding resolved
never-in-part p T s id ids i e q l d =
    some-part p (standing T (resolution T s)) ids i (record { 0 = 0 })
    (some-with p (node_of (tree_at T id)) (map (standing T (resolution T s)) ids) q
    (sym (ap (some_node p) (standing-parts T (resolution T s) id ids e q)) ∙ d)) l
