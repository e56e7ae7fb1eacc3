-- Kinds of parameters, place by place.
use Rattle.std.proofs.Common.{◌≡◌, ℕ, zero, suc, ◌+◌, ◌<◌, ◌≤◌, Bool, true, false, List, [], ◌∷◌, length, drop, get_or, refl, sym, ap, ◌∙◌, arith, add-one}
use Rattle.std.specs.Prelude.{not, ◌||◌, ◌&&◌}
use Rattle.std.proofs.lemmas.List.{drop_all}
use Rattle.goal_terms.specs.declared.answers.ParamKind.{ParamKind}
use Rattle.goal_terms.specs.Kinds.{same_kind}
use Rattle.goal_tables.specs.ParamKinds.{differs_in_kind, has_param}

-- whether two lists have other kinds at some place from i on
unfoldable pub kinds_from : List ParamKind → List ParamKind → ℕ → Bool
kinds_from ps ks i = differs_in_kind (drop i ps) (drop i ks)

pub kinds_from-start : (ps ks : List ParamKind) → differs_in_kind ps ks ≡ kinds_from ps ks 0
unfolding kinds_from
kinds_from-start ps ks = refl

kinds_step : (ps ks : List ParamKind) (i : ℕ) (d : ParamKind) → i < length ps → i < length ks →
    kinds_from ps ks i ≡ not (same_kind (get_or ps i d) (get_or ks i d)) || kinds_from ps ks (suc i)
unfolding kinds_from
kinds_step [] ks i d g h = absurd (omega arith)
kinds_step (x ∷ ps) [] i d g h = absurd (omega arith)
kinds_step (x ∷ ps) (y ∷ ks) zero d g h = refl
kinds_step (x ∷ ps) (y ∷ ks) (suc i) d g h = kinds_step ps ks i d (omega arith) (omega arith)

pub kinds_from-more : (ps ks : List ParamKind) (i : ℕ) (d : ParamKind) (b : Bool) → i < length ps → i < length ks →
    same_kind (get_or ps i d) (get_or ks i d) ≡ true → kinds_from ps ks i ≡ b → kinds_from ps ks (i + 1) ≡ b
kinds_from-more ps ks i d b g h same old =
    rw add-one (ap (λ w. not w || kinds_from ps ks (suc i)) (sym same) ∙ sym (kinds_step ps ks i d g h) ∙ old)

pub kinds_from-found : (ps ks : List ParamKind) (i : ℕ) (d : ParamKind) (b : Bool) → i < length ps → i < length ks →
    same_kind (get_or ps i d) (get_or ks i d) ≡ false → kinds_from ps ks i ≡ b → b ≡ true
kinds_from-found ps ks i d b g h same old =
    sym old ∙ kinds_step ps ks i d g h ∙ ap (λ w. not w || kinds_from ps ks (suc i)) same

pub found : (a b : Bool) → b ≡ true → false ≡ a && not b
found true b e = ap not (sym e)
found false b e = refl

pub kinds_from-end : (ps ks : List ParamKind) (i : ℕ) → length ps ≡ i → kinds_from ps ks i ≡ false
unfolding kinds_from
kinds_from-end ps ks i e =
    let p : drop i ps ≡ [] = drop_all i ps (omega arith) in
    ap (λ us. differs_in_kind us (drop i ks)) p

pub ruleset kinds_differing = (kinds_from-start, kinds_from-more, kinds_from-found, kinds_from-end)

pub has_param-past : (ps : List ParamKind) (n : ℕ) (k : ParamKind) → length ps ≤ n → has_param ps n k ≡ false
has_param-past [] n k h = refl
has_param-past (p ∷ ps) zero k h = absurd (omega arith)
has_param-past (p ∷ ps) (suc n) k h = has_param-past ps n k (omega arith)

pub has_param-some : (ps : List ParamKind) (n : ℕ) (d k : ParamKind) → n < length ps → same_kind (get_or ps n d) k ≡ has_param ps n k
has_param-some [] n d k h = absurd (omega arith)
has_param-some (p ∷ ps) zero d k h = refl
has_param-some (p ∷ ps) (suc n) d k h = has_param-some ps n d k (omega arith)

pub ruleset having = (has_param-past, has_param-some)
