-- Which variables a solved state leaves alone.
use Rattle.std.proofs.Common.{◌≡◌, ◌≢◌, ℕ, zero, suc, ◌<◌, Bool, true, false, List, [], ◌∷◌, ◌++◌, length, Option, Some, None, refl, sym, ap, ap₂, ◌∙◌, subst, arith}
use Rattle.std.specs.Prelude.{slice_get, if◌then◌else◌, ◌==◌, IsTrue}
use Rattle.std.specs.List.{All}
use Rattle.std.proofs.lemmas.Bool.{eqb-true}
use Rattle.std.proofs.lemmas.List.Elements.{All-nil, All-cons, All-head, All-tail}
use Rattle.goal_terms.specs.NodeTests.{same_var_kind}
use Rattle.goal_terms.specs.Tree.{Tree, Trees, node, alias, variable, none, more}
use Rattle.goal_terms.specs.declared.answers.VarKind.{VarKind}
use Rattle.goal_terms.specs.declared.answers.VarKind.TheVariants as kind
use Rattle.goal_terms.specs.declared.heads.Variable.{Variable}
use Rattle.goal_interner.specs.declared.term_nodes.TermId.{TermId}
use Rattle.goal_infer.specs.Inference.{Inference}
use Rattle.goal_infer.specs.Occurrence.{place_of, place_in_row, joined, within_alias, place_at}
use Rattle.goal_infer.specs.Replacement.{number_of, kind_of_variable, replaced, replaced_row}
use Rattle.goal_infer.specs.Resolution.{term_at, binding_in, binding_of, bound_tree, bound_at, resolution_after, resolution, Agrees, StandOnce, IsSolved}
use Rattle.goal_infer.specs.Unification.{is_made_in}
use Rattle.goal_infer.specs.declared.occurs.Occurrence.TheVariants.{Nowhere}
use Rattle.goal_infer.specs.declared.undo.InferVariable.{InferVariable}
use Rattle.goal_infer.proofs.ReplacementLemmas.{by_same}
use Rattle.goal_infer.proofs.UnifyLemmas.{made-get, free-variable}
use Rattle.goal_solver.specs.Responses.{variable_of_kind, variable_made, variable_at}
use Rattle.goal_solver.proofs.StoredLemmas.{some-is}

-- the row of a tree, and what a row begins with
abbrev pub row_of : Tree → Trees
row_of (node h ts) = ts
row_of (alias k ts) = ts
row_of (variable v) = none

abbrev pub first_or : Tree → Trees → Tree
first_or d none = d
first_or d (more t ts) = t

abbrev pub rest_of : Trees → Trees
rest_of none = none
rest_of (more t ts) = ts

-- a term that becomes a variable is one
from-variable : (ρ : Variable → Tree) (t : Tree) (x : Variable) → replaced ρ t ≡ variable x → (w : Variable) × (t ≡ variable w) × (ρ w ≡ variable x)
unfolding replaced
from-variable ρ (node h ts) x e = absurd (cc)
from-variable ρ (alias k ts) x e = absurd (cc)
from-variable ρ (variable w) x e = (w, refl, e)

-- a term stays the same with what leaves its variables alone
mutual
  unfolding replaced

  pub stays-same : (ρ σ : Variable → Tree) → ((w : Variable) → ρ w ≡ variable w → σ w ≡ variable w) → (t : Tree) → replaced ρ t ≡ t → replaced σ t ≡ t
  stays-same ρ σ leaves (node h ts) e = ap (node h) (stays_row-same ρ σ leaves ts (ap row_of e))
  stays-same ρ σ leaves (alias k ts) e = ap (alias k) (stays_row-same ρ σ leaves ts (ap row_of e))
  stays-same ρ σ leaves (variable w) e = leaves w e

  stays_row-same : (ρ σ : Variable → Tree) → ((w : Variable) → ρ w ≡ variable w → σ w ≡ variable w) → (ts : Trees) → replaced_row ρ ts ≡ ts → replaced_row σ ts ≡ ts
  stays_row-same ρ σ leaves none e = refl
  stays_row-same ρ σ leaves (more t ts) e = ap₂ more (stays-same ρ σ leaves t (ap (first_or t) e)) (stays_row-same ρ σ leaves ts (ap rest_of e))

-- and no other variable stands in it
mutual
  unfolding replaced place_of

  pub stands-nowhere : (ρ : Variable → Tree) (v : Variable) → ρ v ≢ variable v → (t : Tree) → replaced ρ t ≡ t → place_of v t ≡ Nowhere
  stands-nowhere ρ v moves (node h ts) e = stands_in_row-nowhere ρ v moves ts (ap row_of e)
  stands-nowhere ρ v moves (alias k ts) e = ap within_alias (stands_in_row-nowhere ρ v moves ts (ap row_of e))
  stands-nowhere ρ v moves (variable w) e =
      by_same v w (place_of v (variable w) ≡ Nowhere) (λ p. absurd (moves (subst (λ x. ρ x ≡ variable x) p e))) (λ p. ap place_at p)

  stands_in_row-nowhere : (ρ : Variable → Tree) (v : Variable) → ρ v ≢ variable v → (ts : Trees) → replaced_row ρ ts ≡ ts → place_in_row v ts ≡ Nowhere
  stands_in_row-nowhere ρ v moves none e = refl
  stands_in_row-nowhere ρ v moves (more t ts) e =
      ap (λ o. joined o (place_in_row v ts)) (stands-nowhere ρ v moves t (ap (first_or t) e)) ∙ stands_in_row-nowhere ρ v moves ts (ap rest_of e)

module _ (T : List Tree) (s : Inference) (solved : IsSolved T s) where
  -- what stands for a variable, where it is a variable, is unbound
  ends-unbound : (k : ℕ) (v x : Variable) → solved.chain v < k → resolution T s v ≡ variable x → binding_of s x ≡ None
  unfolding Agrees
  ends-unbound zero v x l e = absurd (omega (arith, l))
  ends-unbound (suc k) v x l e = on (λ w m f. ends-unbound k w x m f) (binding_of s v) refl where
    on : ((w : Variable) → solved.chain w < k → resolution T s w ≡ variable x → binding_of s x ≡ None) → (o : Option TermId) → binding_of s v ≡ o → binding_of s x ≡ None
    on next None f =
        let p : variable v ≡ variable x = sym (solved.free v f) ∙ e in
        let q : v ≡ x = cc in
        ap (binding_of s) (sym q) ∙ f
    on next (Some id) f =
        let r : (w : Variable) × (term_at T id ≡ variable w) × (resolution T s w ≡ variable x) = from-variable (resolution T s) (term_at T id) x (sym (solved.agrees v id f) ∙ e) in
        next r.0 (omega (arith, l, solved.falls v r.0 id f r.1)) r.2

  pub stands-unbound : (v x : Variable) → resolution T s v ≡ variable x → binding_of s x ≡ None
  stands-unbound v x e = ends-unbound (suc (solved.chain v)) v x (omega arith) e

  -- a variable whose number isn't on the trail stands for itself
  bound_at-off : (n : ℕ) (ρ : Variable → Tree) (v : Variable) → n ≢ number_of v → bound_at T s n ρ v ≡ variable v
  unfolding bound_at
  bound_at-off n ρ v differ = pick (number_of v == n) refl where
    pick : (q : Bool) → number_of v == n ≡ q → (if q then bound_tree T ρ v (binding_of s v) else variable v) ≡ variable v
    pick true h = absurd (differ (sym (eqb-true (number_of v) n h)))
    pick false h = refl

  after-off : (ns : List ℕ) (v : Variable) (ρ : Variable → Tree) → All (λ m. m ≢ number_of v) ns → ρ v ≡ variable v → resolution_after T s ns ρ v ≡ variable v
  unfolding resolution_after replaced
  after-off [] v ρ off e = e
  after-off (n ∷ ns) v ρ off e =
      after-off ns v (λ w. replaced (bound_at T s n ρ) (ρ w)) (All-tail (λ m. m ≢ number_of v) n ns off)
      (ap (replaced (bound_at T s n ρ)) e ∙ bound_at-off n ρ v (All-head (λ m. m ≢ number_of v) n ns off))

  -- so it is unbound
  pub off-unbound : (v : Variable) → All (λ m. m ≢ number_of v) s.trail → binding_of s v ≡ None
  unfolding resolution
  off-unbound v off = stands-unbound v v (after-off s.trail v variable off refl)

  -- and the number of one that was made and is unbound isn't on it
  pub unbound-off : (v : Variable) → IsTrue (is_made_in s v) → binding_of s v ≡ None → All (λ m. m ≢ number_of v) s.trail
  unbound-off v made e = let free = free-variable s v made e in solved.off_trail (number_of v) free.0 free.1 free.3

  -- what stands for a variable stays as it is
  pub resolution-again : (v : Variable) → replaced (resolution T s) (resolution T s v) ≡ resolution T s v
  resolution-again v = sym (solved.general (resolution T s) solved.agrees v)

-- a variable of a number and a kind
kind-self : (k : VarKind) → same_var_kind k k ≡ true
kind-self kind.Ty = refl
kind-self kind.Int = refl
kind-self kind.Float = refl
kind-self kind.Const = refl
kind-self kind.Region = refl

of-kind : (k : VarKind) (n : ℕ) (v : Variable) → variable_of_kind k n ≡ Some v → (number_of v ≡ n) × (kind_of_variable v ≡ k)
of-kind kind.Ty n v e = (ap number_of (sym (some-is _ v e)), ap kind_of_variable (sym (some-is _ v e)))
of-kind kind.Int n v e = (ap number_of (sym (some-is _ v e)), ap kind_of_variable (sym (some-is _ v e)))
of-kind kind.Float n v e = (ap number_of (sym (some-is _ v e)), ap kind_of_variable (sym (some-is _ v e)))
of-kind kind.Const n v e = (ap number_of (sym (some-is _ v e)), ap kind_of_variable (sym (some-is _ v e)))
of-kind kind.Region n v e = absurd (cc)

-- the variable of a number was made
pub variable-made : (s : Inference) (n : ℕ) (v : Variable) → variable_at s n ≡ Some v → (number_of v ≡ n) × IsTrue (is_made_in s v)
variable-made s n v e = on (slice_get s.variables n) refl e where
  on : (o : Option InferVariable) → slice_get s.variables n ≡ o → variable_made o n ≡ Some v → (number_of v ≡ n) × IsTrue (is_made_in s v)
  on None f g = absurd (cc)
  on (Some x) f g =
      let k : (number_of v ≡ n) × (kind_of_variable v ≡ x.kind) = of-kind x.kind n v g in
      (k.0, sym (made-get s v x (ap (slice_get s.variables) k.0 ∙ f)) ∙ ap (same_var_kind x.kind) k.1 ∙ kind-self x.kind)

-- one that wasn't made is unbound
pub unmade-unbound : (s : Inference) (v : Variable) → is_made_in s v ≡ false → binding_of s v ≡ None
unfolding binding_of
unmade-unbound s v e = on (slice_get s.variables (number_of v)) refl where
  on : (o : Option InferVariable) → slice_get s.variables (number_of v) ≡ o → binding_in (slice_get s.variables (number_of v)) (kind_of_variable v) ≡ None
  on None f = ap (λ o. binding_in o (kind_of_variable v)) f
  on (Some x) f = ap (λ o. binding_in o (kind_of_variable v)) f ∙ ap (λ b. if b then x.binding else None) (made-get s v x f ∙ e)

-- what holds of each element of a list holds of each of its parts
pub all-front : (P : ℕ → Type 0) (ms ns : List ℕ) → All P (ms ++ ns) → All P ms
all-front P [] ns h = All-nil P
all-front P (m ∷ ms) ns h = All-cons P m ms (All-head P m (ms ++ ns) h) (all-front P ms ns (All-tail P m (ms ++ ns) h))

pub all-back : (P : ℕ → Type 0) (ms ns : List ℕ) → All P (ms ++ ns) → All P ns
all-back P [] ns h = h
all-back P (m ∷ ms) ns h = all-back P ms ns (All-tail P m (ms ++ ns) h)

-- a number that stands once doesn't stand before its place
get-here : (ms : List ℕ) (n : ℕ) (ns : List ℕ) → slice_get (ms ++ n ∷ ns) (length ms) ≡ Some n
get-here [] n ns = refl
get-here (m ∷ ms) n ns = get-here ms n ns

pub off-before : (ms : List ℕ) (n : ℕ) (ns : List ℕ) → StandOnce (ms ++ n ∷ ns) → All (λ m. m ≢ n) ms
off-before [] n ns once = All-nil (λ m. m ≢ n)
off-before (m ∷ ms) n ns once =
    All-cons (λ k. k ≢ n) m ms (λ e. omega (arith, once zero (suc (length ms)) n (ap Some e) (get-here ms n ns)))
    (off-before ms n ns (λ i j k e f. omega (arith, once (suc i) (suc j) k e f)))
