-- Parameters, place by place.
use Rattle.std.proofs.Common.{◌≡◌, ℕ, zero, suc, ◌+◌, Bool, true, false, List, [], ◌∷◌, length, drop, map, Some, refl, sym, ap, ◌∙◌, arith, add-one}
use Rattle.std.specs.Prelude.{slice_get, not, ◌||◌}
use Rattle.std.proofs.lemmas.List.{drop_all}
use Rattle.goal_terms.specs.Tree.{Tree, node_of}
use Rattle.goal_terms.specs.TreeOf.{tree_of_arg}
use Rattle.goal_terms.specs.declared.answers.ParamKind.{ParamKind}
use Rattle.goal_terms.specs.declared.terms.GenericArg.{GenericArg}
use Rattle.goal_tables.specs.Clauses.{kinds_of}
use Rattle.goal_tables.specs.Options.{option_holds}
use Rattle.goal_tables.specs.ParamKinds.{differs_in_kind, has_param}
use Rattle.goal_terms.specs.Kinds.{same_kind, kind_of}

-- whether parts are of other kinds than their parameters at some place from i on
unfoldable pub differs_from : List ParamKind → List Tree → ℕ → Bool
differs_from ps ts i = differs_in_kind (drop i ps) (map (λ x. kind_of (node_of x)) (drop i ts))

pub differs_from-start : (ps : List ParamKind) (ts : List Tree) → differs_in_kind ps (map (λ x. kind_of (node_of x)) ts) ≡ differs_from ps ts 0
unfolding differs_from
differs_from-start ps ts = refl

differs_none : (ps : List ParamKind) → differs_in_kind ps [] ≡ false
differs_none [] = refl
differs_none (p ∷ ps) = refl

step : (ps : List ParamKind) (ts : List Tree) (i : ℕ) (t : Tree) → slice_get ts i ≡ Some t →
    differs_from ps ts i ≡ option_holds (λ p. not (same_kind p (kind_of (node_of t)))) (slice_get ps i) || differs_from ps ts (suc i)
unfolding differs_from
step ps [] i t e = absurd (cc)
step [] (x ∷ ts) zero t e = refl
step [] (x ∷ ts) (suc i) t e = refl
step (p ∷ ps) (x ∷ ts) zero t e = let q : x ≡ t = cc in ap (λ w. not (same_kind p (kind_of (node_of w))) || differs_in_kind ps (map (λ x. kind_of (node_of x)) ts)) q
step (p ∷ ps) (x ∷ ts) (suc i) t e = step ps ts i t e

pub differs_from-more : (ps : List ParamKind) (ts : List Tree) (i : ℕ) (t : Tree) (k : ParamKind) (b : Bool) → slice_get ts i ≡ Some t →
    k ≡ kind_of (node_of t) → option_holds (λ p. not (same_kind p k)) (slice_get ps i) ≡ false → differs_from ps ts i ≡ b → differs_from ps ts (i + 1) ≡ b
differs_from-more ps ts i t k b e same h f =
    let here : option_holds (λ p. not (same_kind p (kind_of (node_of t)))) (slice_get ps i) ≡ false =
    ap (λ w. option_holds (λ p. not (same_kind p w)) (slice_get ps i)) (sym same) ∙ h in
    rw add-one (ap (λ w. w || differs_from ps ts (suc i)) (sym here) ∙ sym (step ps ts i t e) ∙ f)

pub differs_from-found : (ps : List ParamKind) (ts : List Tree) (i : ℕ) (t : Tree) (k : ParamKind) (b : Bool) → slice_get ts i ≡ Some t →
    k ≡ kind_of (node_of t) → option_holds (λ p. not (same_kind p k)) (slice_get ps i) ≡ true → differs_from ps ts i ≡ b → b ≡ true
differs_from-found ps ts i t k b e same h f =
    let here : option_holds (λ p. not (same_kind p (kind_of (node_of t)))) (slice_get ps i) ≡ true =
    ap (λ w. option_holds (λ p. not (same_kind p w)) (slice_get ps i)) (sym same) ∙ h in
    sym f ∙ step ps ts i t e ∙ ap (λ w. w || differs_from ps ts (suc i)) here

pub differs_from-end : (ps : List ParamKind) (ts : List Tree) (i : ℕ) → length ts ≡ i → differs_from ps ts i ≡ false
unfolding differs_from
differs_from-end ps ts i e =
    let p : drop i ts ≡ [] = drop_all i ts (omega arith) in
    ap (λ us. differs_in_kind (drop i ps) (map (λ x. kind_of (node_of x)) us)) p ∙ differs_none (drop i ps)

pub ruleset differing = (differs_from-start, differs_from-more, differs_from-found, differs_from-end)

pub has_param-at : (ps : List ParamKind) (n : ℕ) (k : ParamKind) → has_param ps n k ≡ option_holds (λ p. same_kind p k) (slice_get ps n)
has_param-at [] n k = refl
has_param-at (p ∷ ps) zero k = refl
has_param-at (p ∷ ps) (suc n) k = has_param-at ps n k

pub ruleset having = (has_param-at)

pub kinds_of-parts : (args : List GenericArg) → map (λ x. kind_of (node_of x)) (map tree_of_arg args) ≡ kinds_of args
kinds_of-parts [] = refl
kinds_of-parts (a ∷ args) = ap (λ ks. kind_of (node_of (tree_of_arg a)) ∷ ks) (kinds_of-parts args)

pub ruleset kinds_of_args = (kinds_of-parts)
