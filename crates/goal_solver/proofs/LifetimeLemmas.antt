-- Equations of the lifetimes of lists of terms, pair by pair, and kinds in step with the variables that they bring.
use Rattle.std.proofs.Common.{◌≡◌, ◌⊎◌, inl, inr, ℕ, zero, suc, ◌+◌, ◌<◌, ◌≤◌, List, [], ◌∷◌, ◌++◌, length, map, drop, get_or, refl, sym, ap, ◌∙◌, subst, arith}
use Rattle.std.specs.Prelude.{replicate, min, Result, OnOk}
use Rattle.std.proofs.lemmas.Bool.{cases_lt}
use Rattle.std.proofs.lemmas.List.{length-map, drop_all, get_or-map, map-append}
use Rattle.std.proofs.lemmas.List.Elements.{All-get_or}
use Rattle.goal_interner.specs.TableMeaning.{tree_at, AreBelow, Keeps}
use Rattle.goal_terms.specs.Tree.{Tree}
use Rattle.goal_terms.specs.Erased.{erased}
use Rattle.goal_terms.specs.declared.answers.VarKind.{VarKind}
use Rattle.goal_terms.specs.declared.answers.VarKind.TheVariants as kind
use Rattle.goal_interner.specs.declared.term_nodes.TermId.{TermId}
use Rattle.goal_infer.specs.Inference.{Inference}
use Rattle.goal_infer.specs.RegionEquations.{AddsRegions, region_variable, equated}
use Rattle.goal_infer.specs.declared.undo.InferVariable.{InferVariable}
use Rattle.goal_infer.proofs.RegionStateLemmas.{regions-count}
use Rattle.goal_lists.specs.Interned.{erased_at}
use Rattle.goal_solver.specs.Relating.{ChangesInference, all_equated, AreIdentical}
use Rattle.goal_solver.specs.State.{State, kinds_in}
use Rattle.goal_solver.proofs.BindingLemmas.{on_ok-map}

-- the equations from a pair on are those of the pair, and then those of the pairs after it
equated-suc : (ts us : List Tree) (i : ℕ) (d e : Tree) (s : Inference) → i < length ts → i < length us →
    all_equated (drop i ts) (drop i us) s ≡ all_equated (drop (suc i) ts) (drop (suc i) us) (equated (get_or ts i d) (get_or us i e) s)
unfolding all_equated
equated-suc [] us i d e s p q = absurd (omega arith)
equated-suc (t ∷ ts) [] i d e s p q = absurd (omega arith)
equated-suc (t ∷ ts) (u ∷ us) zero d e s p q = refl
equated-suc (t ∷ ts) (u ∷ us) (suc i) d e s p q = equated-suc ts us i d e s (omega arith) (omega arith)

plus-one : (i : ℕ) → i + 1 ≡ suc i
plus-one i = omega arith

-- the equations of one more pair
pub lifetimes-more : (T U : List Tree) (ls rs : List TermId) (i : ℕ) (x y : TermId) (now next whole : Inference) → Keeps T U → AreBelow (length T) ls → AreBelow (length T) rs →
    i < length ls → i < length rs → AreIdentical (map (tree_at T) ls) (map (tree_at T) rs) →
    (erased_at U (get_or ls i x) ≡ erased_at U (get_or rs i y) → next ≡ equated (tree_at U (get_or ls i x)) (tree_at U (get_or rs i y)) now) →
    all_equated (drop i (map (tree_at T) ls)) (drop i (map (tree_at T) rs)) now ≡ whole →
    all_equated (drop (i + 1) (map (tree_at T) ls)) (drop (i + 1) (map (tree_at T) rs)) next ≡ whole
lifetimes-more T U ls rs i x y now next whole kept below under p q same step e =
    let ts : List Tree = map (tree_at T) ls in
    let us : List Tree = map (tree_at T) rs in
    let t : Tree = tree_at T (get_or ls i x) in
    let u : Tree = tree_at T (get_or rs i y) in
    let l : tree_at U (get_or ls i x) ≡ t = kept.same (get_or ls i x) (All-get_or (λ (id : TermId). id.0 < length T) ls i x p below) in
    let r : tree_at U (get_or rs i y) ≡ u = kept.same (get_or rs i y) (All-get_or (λ (id : TermId). id.0 < length T) rs i y q under) in
    let m : i < length ts = subst (λ n. i < n) (sym (length-map ls (tree_at T))) p in
    let n : i < length us = subst (λ k. i < k) (sym (length-map rs (tree_at T))) q in
    let left : get_or ts i t ≡ t = get_or-map (tree_at T) ls i x t p in
    let right : get_or us i u ≡ u = get_or-map (tree_at T) rs i y u q in
    let alike : erased t ≡ erased u =
    sym (get_or-map erased ts i t (erased t) m ∙ ap erased left) ∙ ap (λ zs. get_or zs i (erased t)) same ∙ get_or-map erased us i u (erased t) n ∙ ap erased right in
    let made : next ≡ equated (get_or ts i t) (get_or us i u) now =
    step (ap erased l ∙ alike ∙ sym (ap erased r)) ∙ ap (λ z. equated z (tree_at U (get_or rs i y)) now) (l ∙ sym left) ∙ ap (λ z. equated (get_or ts i t) z now) (r ∙ sym right) in
    ap (λ k. all_equated (drop k ts) (drop k us) next) (plus-one i) ∙ ap (all_equated (drop (suc i) ts) (drop (suc i) us)) made ∙ sym (equated-suc ts us i t u now m n) ∙ e

-- none are left
equated-done : (ts us : List Tree) (i : ℕ) (s : Inference) → length ts ≤ i → all_equated (drop i ts) (drop i us) s ≡ s
unfolding all_equated
equated-done ts us i s l = ap (λ zs. all_equated zs (drop i us) s) (drop_all i ts l)

pub lifetimes-done : (T : List Tree) (ls rs : List TermId) (i : ℕ) (now whole : Inference) → (length ls ≤ i) ⊎ (length rs ≤ i) → AreIdentical (map (tree_at T) ls) (map (tree_at T) rs) →
    all_equated (drop i (map (tree_at T) ls)) (drop i (map (tree_at T) rs)) now ≡ whole → now ≡ whole
lifetimes-done T ls rs i now whole l same e =
    let long : length ls ≡ length rs =
    sym (length-map ls (tree_at T)) ∙ sym (length-map (map (tree_at T) ls) erased) ∙ ap length same ∙ length-map (map (tree_at T) rs) erased ∙ length-map rs (tree_at T) in
    let last : length ls ≤ i = elim l [ inl p ↦ p | inr q ↦ omega (arith, q, long) ] in
    sym (equated-done (map (tree_at T) ls) (map (tree_at T) rs) i now (omega (arith, last, length-map ls (tree_at T)))) ∙ e

-- the kinds of region variables
kinds-replicated : (c : ℕ) → kinds_in (replicate c region_variable) ≡ replicate c kind.Region
kinds-replicated zero = refl
kinds-replicated (suc c) = ap (λ ks. kind.Region ∷ ks) (kinds-replicated c)

pub kinds-added : {T E : Type 0} (r : Result T E) (k : ℕ) (ks ms : List VarKind) (s z : Inference) → AddsRegions s z → k ≡ length z.variables →
    ((n : ℕ) → k ≡ length ks + n → OnOk r (ms ≡ ks ++ replicate n kind.Region)) → ks ≡ kinds_in s.variables → OnOk r (ms ≡ kinds_in z.variables)
kinds-added r k ks ms s z a long more e =
    let count : k ≡ length ks + a.count =
    long ∙ ap (λ (i : Inference). length i.variables) a.is ∙ regions-count a.count a.added s
    ∙ ap (λ n. n + a.count) (sym (ap length e ∙ length-map s.variables (λ (v : InferVariable). v.kind))) in
    on_ok-map r
    (λ m. m ∙ ap (λ xs. xs ++ replicate a.count kind.Region) e ∙ ap (λ xs. kinds_in s.variables ++ xs) (sym (kinds-replicated a.count))
    ∙ sym (map-append (λ (v : InferVariable). v.kind) s.variables (replicate a.count region_variable))
    ∙ ap (λ (i : Inference). kinds_in i.variables) (sym a.is))
    (more a.count count)

-- a place past the shorter of two lists
pub past-shorter : (a b i m : ℕ) → m ≡ min a b → m ≤ i → (a ≤ i) ⊎ (b ≤ i)
past-shorter a b i m e l = elim (cases_lt i a) [
  | inl p ↦ inr (omega arith)
  | inr p ↦ inl p
]

-- only terms and inference state change, one after the other
pub changes-through : (a b c : State) → ChangesInference a b → ChangesInference b c → ChangesInference a c
changes-through a b c e f = f ∙ ap (λ (s : State). record s { terms = c.terms; inference = c.inference }) e
