-- States with more region variables and equations.
use Rattle.std.proofs.Common.{◌≡◌, ℕ, zero, suc, ◌+◌, ◌<◌, List, [], ◌∷◌, ◌++◌, length, get_or, take, refl, sym, ap, ◌∙◌, subst, arith, append_assoc, length-append}
use Rattle.std.specs.Prelude.{replicate}
use Rattle.std.proofs.lemmas.List.{append-nil, length-replicate, replicate-append-replicate, replicate_more, take_more, length-take}
use Rattle.std.proofs.Math.Seq.{take-append_seam, drop-length, take-length}
use Rattle.goal_terms.specs.Tree.{Tree}
use Rattle.goal_terms.specs.declared.terms.Region.{Region}
use Rattle.goal_infer.specs.Inference.{Inference, GoesBack}
use Rattle.goal_infer.specs.RegionEquations.{AddsRegions, region_variable, numbered, with_regions}
use Rattle.goal_infer.specs.Resolution.{IsSolved}
use Rattle.goal_infer.specs.Undo.{unbound}
use Rattle.goal_infer.specs.declared.region_equations.EnteredRegion.{EnteredRegion}
use Rattle.goal_infer.proofs.SolvedLemmas.{solved-more, solved-equation}
use Rattle.goal_infer.proofs.UndoLemmas.{state-is}

-- a state with nothing more is the state
pub regions-none : (s : Inference) → with_regions 0 [] s ≡ s
regions-none s = state-is _ _ _ s (append-nil s.variables) refl (append-nil s.equations)

-- how many variables there are then
pub regions-count : (c : ℕ) (es : List (Region × Region)) (s : Inference) → length (with_regions c es s).variables ≡ length s.variables + c
regions-count c es s = length-append s.variables (replicate c region_variable) ∙ ap (λ n. length s.variables + n) (length-replicate c region_variable)

-- more after more
pub regions-twice : (a b : ℕ) (es fs : List (Region × Region)) (s : Inference) → with_regions b fs (with_regions a es s) ≡ with_regions (a + b) (es ++ fs) s
regions-twice a b es fs s =
    state-is _ _ _ (with_regions (a + b) (es ++ fs) s)
    (append_assoc s.variables (replicate a region_variable) (replicate b region_variable) ∙ ap (λ vs. s.variables ++ vs) (replicate-append-replicate a b region_variable))
    refl (append_assoc s.equations es fs)

-- what the record says of states that are known to be equal to these
pub adds-same : (s z : Inference) → z ≡ s → AddsRegions s z
adds-same s z e = record { count = 0; added = []; is = e ∙ sym (regions-none s) }

pub adds-regions : (c : ℕ) (es : List (Region × Region)) (s z : Inference) → z ≡ with_regions c es s → AddsRegions s z
adds-regions c es s z e = record { count = c; added = es; is = e }

pub adds-through : (a b c : Inference) → AddsRegions a b → AddsRegions b c → AddsRegions a c
adds-through a b c p q = record {
  count = p.count + q.count;
  added = p.added ++ q.added;
  is = q.is ∙ ap (with_regions q.count q.added) p.is ∙ regions-twice p.count q.count p.added q.added a;
}

-- one more variable
pub regions-more : (i : ℕ) (s z y : Inference) → z ≡ with_regions i [] s → y ≡ record z { variables = z.variables ++ region_variable ∷ [] } →
    y ≡ with_regions (i + 1) [] s
regions-more i s z y e f =
    f ∙ ap (λ (w : Inference). record w { variables = w.variables ++ region_variable ∷ [] }) e
    ∙ state-is _ _ _ (with_regions (i + 1) [] s)
    (append_assoc s.variables (replicate i region_variable) (region_variable ∷ []) ∙ ap (λ vs. s.variables ++ vs) (replicate_more i region_variable))
    refl refl

-- one more lifetime with its variable
numbered-more : (b n k : ℕ) (ks : List ℕ) → numbered b n (ks ++ k ∷ []) ≡ numbered b n ks ++ record { binder = b; number = k; variable = n + length ks } ∷ []
unfolding numbered
numbered-more b n k [] = ap (λ m. record { binder = b; number = k; variable = m } ∷ []) (plus-zero n) where
  plus-zero : (m : ℕ) → m ≡ m + 0
  plus-zero m = omega arith
numbered-more b n k (j ∷ ks) =
    ap (λ es. record { binder = b; number = j; variable = n } ∷ es)
    (numbered-more b (n + 1) k ks ∙ ap (λ m. numbered b (n + 1) ks ++ record { binder = b; number = k; variable = m } ∷ []) (plus-one n (length ks))) where
      plus-one : (m l : ℕ) → m + 1 + l ≡ m + suc l
      plus-one m l = omega arith

pub entered-more : (b n i k : ℕ) (ks : List ℕ) (d v : ℕ) (old now : List EnteredRegion) → i < length ks → k ≡ get_or ks i d → v ≡ n + i →
    now ≡ (old ++ numbered b n (take i ks)) ++ record { binder = b; number = k; variable = v } ∷ [] → now ≡ old ++ numbered b n (take (i + 1) ks)
entered-more b n i k ks d v old now l e f g =
    g ∙ ap (λ m. (old ++ numbered b n (take i ks)) ++ record { binder = b; number = k; variable = m } ∷ [])
    (f ∙ ap (λ m. n + m) (sym (cut-length i ks l)))
    ∙ append_assoc old (numbered b n (take i ks)) _
    ∙ ap (λ es. old ++ es) (sym (numbered-more b n k (take i ks)))
    ∙ ap (λ m. old ++ numbered b n (take i ks ++ m ∷ [])) e
    ∙ ap (λ ms. old ++ numbered b n ms) (sym (take_more ks i d l)) where
      cut-length : (j : ℕ) (ms : List ℕ) → j < length ms → length (take j ms) ≡ j
      cut-length j ms h = omega (arith, length-take j ms)

-- such a state goes back, and is solved with the one before
pub regions-go_back : (c : ℕ) (es : List (Region × Region)) (s : Inference) → GoesBack s (with_regions c es s)
unfolding GoesBack unbound
regions-go_back c es s =
    state-is _ _ _ s
    (ap (λ z. take (length s.variables) (unbound z (s.variables ++ replicate c region_variable))) (drop-length s.trail) ∙ take-append_seam s.variables (replicate c region_variable))
    (take-length s.trail) (take-append_seam s.equations es)

pub adds-go_back : (s z : Inference) → AddsRegions s z → GoesBack s z
adds-go_back s z a = subst (GoesBack s) (sym a.is) (regions-go_back a.count a.added s)

solved-equations : (T : List Tree) (s : Inference) (es : List (Region × Region)) → IsSolved T s → IsSolved T (with_regions 0 es s)
solved-equations T s [] solved = subst (IsSolved T) (sym (regions-none s)) solved
solved-equations T s (e ∷ es) solved =
    subst (IsSolved T) (one-more s) (solved-equations T (record s { equations = s.equations ++ e ∷ [] }) es (solved-equation T s e solved)) where
      one-more : (z : Inference) → with_regions 0 es (record z { equations = z.equations ++ e ∷ [] }) ≡ with_regions 0 (e ∷ es) z
      one-more z = state-is _ _ _ (with_regions 0 (e ∷ es) z) refl refl (append_assoc z.equations (e ∷ []) es)

solved-regions : (T : List Tree) (s : Inference) (c : ℕ) (es : List (Region × Region)) → IsSolved T s → IsSolved T (with_regions c es s)
solved-regions T s zero es solved = solved-equations T s es solved
solved-regions T s (suc c) es solved =
    subst (IsSolved T) (one-more s) (solved-regions T (record s { variables = s.variables ++ region_variable ∷ [] }) c es (solved-more T s region_variable refl solved)) where
      one-more : (z : Inference) → with_regions c es (record z { variables = z.variables ++ region_variable ∷ [] }) ≡ with_regions (suc c) es z
      one-more z = state-is _ _ _ (with_regions (suc c) es z) (append_assoc z.variables (region_variable ∷ []) (replicate c region_variable)) refl refl

pub adds-solved : (T : List Tree) (s z : Inference) → AddsRegions s z → IsSolved T s → IsSolved T z
adds-solved T s z a solved = subst (IsSolved T) (sym a.is) (solved-regions T s a.count a.added solved)
