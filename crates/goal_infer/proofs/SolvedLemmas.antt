-- Which states are solved.
use Rattle.std.proofs.Common.{◌≡◌, ◌≢◌, ℕ, zero, suc, ◌+◌, ◌<◌, ◌≤◌, Bool, true, false, List, [], ◌∷◌, ◌++◌, length, Option, Some, None, refl, sym, ap, ◌∙◌, subst, arith, length-append, inl, inr}
use Rattle.std.specs.Prelude.{◌↔◌, slice_get, if◌then◌else◌, ◌==◌}
use Rattle.std.specs.List.{All}
use Rattle.std.proofs.lemmas.Bool.{cases_lt}
use Rattle.std.proofs.Math.Path.{fun_ext}
use Rattle.goal_terms.specs.Tree.{Tree, variable}
use Rattle.goal_terms.specs.Erased.{erased}
use Rattle.goal_terms.specs.NodeTests.{same_var_kind}
use Rattle.goal_interner.specs.TableMeaning.{tree_at, Keeps}
use Rattle.goal_terms.specs.declared.answers.VarKind.{VarKind}
use Rattle.goal_terms.specs.declared.heads.Variable.{Variable}
use Rattle.goal_interner.specs.declared.term_nodes.TermId.{TermId}
use Rattle.goal_terms.specs.declared.terms.Region.{Region}
use Rattle.goal_infer.specs.Inference.{Inference}
use Rattle.goal_infer.specs.Replacement.{number_of, kind_of_variable, replaced, OfKinds}
use Rattle.goal_infer.specs.Resolution.{term_at, binding_in, binding_of, unbound_count, bound_tree, bound_at, resolution_after, resolution, resolved, Agrees, StandOnce, IsSolved}
use Rattle.goal_infer.specs.declared.undo.InferVariable.{InferVariable}
use Rattle.goal_infer.proofs.KindLemmas.{takes-itself}

-- a state without variables
pub solved-first : (T : List Tree) → IsSolved T (record { variables = []; trail = []; equations = [] })
unfolding binding_of resolution resolution_after replaced OfKinds Agrees unbound_count
solved-first T = record {
  within = λ v id e. absurd (cc);
  free = λ v e. refl;
  agrees = λ v id e. absurd (cc);
  kinds = takes-itself;
  general = λ ρ a v. refl;
  off_trail = λ n x e f. absurd (cc);
  on_trail = λ k d l. absurd (omega arith);
  once = λ i j n e f. absurd (cc);
  counted = refl;
  chain = λ v. 0;
  short = λ v. omega arith;
  ends = λ v e. refl;
  begins = λ v id e. absurd (cc);
  falls = λ v w id e f. absurd (cc);
}

-- a state that binds the same variables in the same order to the same terms
module _ (T U : List Tree) (s z : Inference) (bindings : (v : Variable) → binding_of z v ≡ binding_of s v)
    (terms : (v : Variable) (id : TermId) → binding_of s v ≡ Some id → term_at U id ≡ term_at T id) where
  bound_tree-as : (ρ : Variable → Tree) (v : Variable) → bound_tree U ρ v (binding_of z v) ≡ bound_tree T ρ v (binding_of s v)
  bound_tree-as ρ v = ap (bound_tree U ρ v) (bindings v) ∙ on (binding_of s v) refl where
    on : (o : Option TermId) → binding_of s v ≡ o → bound_tree U ρ v o ≡ bound_tree T ρ v o
    on None e = refl
    on (Some id) e = ap (replaced ρ) (terms v id e)

  bound_at-as : (n : ℕ) (ρ : Variable → Tree) → bound_at U z n ρ ≡ bound_at T s n ρ
  unfolding bound_at
  bound_at-as n ρ = fun_ext (λ v. ap (λ t. if number_of v == n then t else variable v) (bound_tree-as ρ v))

  after-as : (ns : List ℕ) (ρ : Variable → Tree) → resolution_after U z ns ρ ≡ resolution_after T s ns ρ
  unfolding resolution_after
  after-as [] ρ = refl
  after-as (n ∷ ns) ρ =
      after-as ns (λ v. replaced (bound_at U z n ρ) (ρ v)) ∙ ap (λ f. resolution_after T s ns (λ v. replaced f (ρ v))) (bound_at-as n ρ)

  pub resolution-as : z.trail ≡ s.trail → resolution U z ≡ resolution T s
  unfolding resolution
  resolution-as e = ap (λ ns. resolution_after U z ns variable) e ∙ after-as s.trail variable

  pub agrees-forth : (ρ : Variable → Tree) → Agrees T s ρ → Agrees U z ρ
  unfolding Agrees
  agrees-forth ρ a v id e =
      let f : binding_of s v ≡ Some id = sym (bindings v) ∙ e in a v id f ∙ ap (replaced ρ) (sym (terms v id f))

  pub agrees-back : (ρ : Variable → Tree) → Agrees U z ρ → Agrees T s ρ
  unfolding Agrees
  agrees-back ρ a v id e = a v id (bindings v ∙ e) ∙ ap (replaced ρ) (terms v id e)

  pub solved-as : IsSolved T s → z.trail ≡ s.trail → ((v : Variable) (id : TermId) → binding_of s v ≡ Some id → id.0 < length U) →
      ((n : ℕ) (x : InferVariable) → slice_get z.variables n ≡ Some x → x.binding ≡ None → All (λ m. m ≢ n) z.trail) →
      All (λ n. n < length z.variables) z.trail → length z.trail + unbound_count z.variables ≡ length z.variables → IsSolved U z
  solved-as solved e within off_trail on_trail counted = record {
    within = λ v id f. within v id (sym (bindings v) ∙ f);
    free = λ v f. ap (λ r. r v) (resolution-as e) ∙ solved.free v (sym (bindings v) ∙ f);
    agrees = agrees-forth (resolution U z) (subst (Agrees T s) (sym (resolution-as e)) solved.agrees);
    kinds = subst OfKinds (sym (resolution-as e)) solved.kinds;
    general = λ ρ a v. solved.general ρ (agrees-back ρ a) v ∙ ap (λ r. replaced ρ (r v)) (sym (resolution-as e));
    off_trail = off_trail;
    on_trail = on_trail;
    once = subst StandOnce (sym e) solved.once;
    counted = counted;
    chain = solved.chain;
    short = λ v. omega (arith, solved.short v, ap length e);
    ends = λ v f. solved.ends v (sym (bindings v) ∙ f);
    begins = λ v id f. solved.begins v id (sym (bindings v) ∙ f);
    falls = λ v w id f g. solved.falls v w id (sym (bindings v) ∙ f) (sym (terms v id (sym (bindings v) ∙ f)) ∙ g);
  }

-- one more variable
binding-more : (vs : List InferVariable) (x : InferVariable) (n : ℕ) (k : VarKind) → x.binding ≡ None → binding_in (slice_get (vs ++ x ∷ []) n) k ≡ binding_in (slice_get vs n) k
binding-more [] x zero k e = on (same_var_kind x.kind k) where
  on : (q : Bool) → (if q then x.binding else None) ≡ None
  on true = e
  on false = refl
binding-more [] x (suc n) k e = refl
binding-more (v ∷ vs) x zero k e = refl
binding-more (v ∷ vs) x (suc n) k e = binding-more vs x n k e

bindings-more : (s : Inference) (x : InferVariable) → x.binding ≡ None → (v : Variable) → binding_of (record s { variables = s.variables ++ x ∷ [] }) v ≡ binding_of s v
unfolding binding_of
bindings-more s x e v = binding-more s.variables x (number_of v) (kind_of_variable v) e

count-more : (vs : List InferVariable) (x : InferVariable) → x.binding ≡ None → unbound_count (vs ++ x ∷ []) ≡ suc (unbound_count vs)
unfolding unbound_count
count-more [] x e = rw e refl
count-more (v ∷ vs) x e = omega (arith, count-more vs x e)

below-length : (ns : List ℕ) (n k : ℕ) → k ≤ n → All (λ m. m < k) ns → All (λ m. m ≢ n) ns
below-length ns n k l below i d h e = omega (arith, below i d h, e)

get-more : (vs : List InferVariable) (x y : InferVariable) (n : ℕ) → slice_get (vs ++ x ∷ []) n ≡ Some y → n < length vs → slice_get vs n ≡ Some y
get-more [] x y n e l = absurd (omega arith)
get-more (v ∷ vs) x y zero e l = e
get-more (v ∷ vs) x y (suc n) e l = get-more vs x y n e (omega arith)

made-more : (s : Inference) (x : InferVariable) → All (λ n. n < length s.variables) s.trail → All (λ n. n < length (s.variables ++ x ∷ [])) s.trail
made-more s x below i d h = omega (arith, below i d h, length-append s.variables (x ∷ []))

pub solved-more : (T : List Tree) (s : Inference) (x : InferVariable) → x.binding ≡ None → IsSolved T s → IsSolved T (record s { variables = s.variables ++ x ∷ [] })
solved-more T s x e solved =
    solved-as T T s (record s { variables = s.variables ++ x ∷ [] }) (bindings-more s x e) (λ v id f. refl) solved refl solved.within
    (λ n y f g. elim (cases_lt n (length s.variables)) [
      | inl l ↦ solved.off_trail n y (get-more s.variables x y n f l) g
      | inr l ↦ below-length s.trail n (length s.variables) l solved.on_trail
    ])
    (made-more s x solved.on_trail)
    (omega (arith, solved.counted, count-more s.variables x e, length-append s.variables (x ∷ [])))

-- one more equation
bindings-equation : (s : Inference) (e : Region × Region) → (v : Variable) → binding_of (record s { equations = s.equations ++ e ∷ [] }) v ≡ binding_of s v
unfolding binding_of
bindings-equation s e v = refl

pub solved-equation : (T : List Tree) (s : Inference) (e : Region × Region) → IsSolved T s → IsSolved T (record s { equations = s.equations ++ e ∷ [] })
solved-equation T s e solved =
    solved-as T T s (record s { equations = s.equations ++ e ∷ [] }) (bindings-equation s e) (λ v id f. refl) solved refl solved.within
    solved.off_trail solved.on_trail solved.counted

-- a table that grows
pub solved-kept : (T U : List Tree) (s : Inference) → Keeps T U → IsSolved T s → IsSolved U s
unfolding term_at
solved-kept T U s keeps solved =
    solved-as T U s s (λ v. refl) (λ v id f. ap erased (keeps.same id (solved.within v id f))) solved refl (λ v id f. omega (arith, solved.within v id f, keeps.longer))
    solved.off_trail solved.on_trail solved.counted

-- what stays the same with it
pub agrees-kept : (T U : List Tree) (s : Inference) → Keeps T U → IsSolved T s → (ρ : Variable → Tree) → Agrees U s ρ ↔ Agrees T s ρ
unfolding term_at
agrees-kept T U s keeps solved ρ = (
  agrees-back T U s s (λ v. refl) (λ v id f. ap erased (keeps.same id (solved.within v id f))) ρ,
  agrees-forth T U s s (λ v. refl) (λ v id f. ap erased (keeps.same id (solved.within v id f))) ρ,
)

pub resolved-kept : (T U : List Tree) (s : Inference) → Keeps T U → IsSolved T s → (id : TermId) → id.0 < length T → resolved U s id ≡ resolved T s id
unfolding term_at resolved
resolved-kept T U s keeps solved id l =
    ap (λ r. replaced r (erased (tree_at U id))) (resolution-as T U s s (λ v. refl) (λ v other f. ap erased (keeps.same other (solved.within v other f))) refl)
    ∙ ap (λ t. replaced (resolution T s) (erased t)) (keeps.same id l)
