-- Going back is transitive.
use Rattle.std.proofs.Common.{◌≡◌, ℕ, zero, suc, ◌≤◌, List, [], ◌∷◌, ◌++◌, length, take, drop, refl, sym, ap, ◌∙◌, subst, arith}
use Rattle.std.proofs.lemmas.List.{length-take, take-append-drop, drop-append-le}
use Rattle.goal_infer.specs.Inference.{Inference, GoesBack}
use Rattle.goal_infer.specs.Undo.{unbound_at, unbound}
use Rattle.goal_infer.specs.declared.undo.InferVariable.{InferVariable}
use Rattle.goal_infer.proofs.UndoLemmas.{state-is, unbound-length}

-- a shorter beginning of a beginning
take-shorter : {A : Type 0} (xs : List A) (i j : ℕ) → i ≤ j → take i (take j xs) ≡ take i xs
take-shorter xs zero j h = refl
take-shorter xs (suc i) zero h = absurd (omega (arith, h))
take-shorter [] (suc i) (suc j) h = refl
take-shorter (x ∷ xs) (suc i) (suc j) h = ap (λ z. x ∷ z) (take-shorter xs i j (omega (arith, h)))

-- a list that is a beginning of another is no longer
beginning-shorter : {A : Type 0} (xs ys : List A) → take (length xs) ys ≡ xs → length xs ≤ length ys
beginning-shorter xs ys e = omega (arith, ap length e, length-take (length xs) ys)

-- a beginning of a beginning is one
beginning-through : {A : Type 0} (xs ys zs : List A) → take (length xs) ys ≡ xs → take (length ys) zs ≡ ys → take (length xs) zs ≡ xs
beginning-through xs ys zs e h =
    sym (take-shorter zs (length xs) (length ys) (beginning-shorter xs ys e)) ∙ ap (take (length xs)) h ∙ e

-- undoing keeps to the variables that are there
unbound_at-cut : (n k : ℕ) (vs : List InferVariable) → take k (unbound_at n vs) ≡ unbound_at n (take k vs)
unfolding unbound_at
unbound_at-cut n zero vs = refl
unbound_at-cut n (suc k) [] = refl
unbound_at-cut zero (suc k) (v ∷ vs) = refl
unbound_at-cut (suc n) (suc k) (v ∷ vs) = ap (λ z. v ∷ z) (unbound_at-cut n k vs)

unbound-cut : (ns : List ℕ) (k : ℕ) (vs : List InferVariable) → take k (unbound ns vs) ≡ unbound ns (take k vs)
unfolding unbound
unbound-cut [] k vs = refl
unbound-cut (n ∷ ns) k vs = unbound-cut ns k (unbound_at n vs) ∙ ap (unbound ns) (unbound_at-cut n k vs)

-- the order of undoing says nothing
unbound_at-swap : (n m : ℕ) (vs : List InferVariable) → unbound_at n (unbound_at m vs) ≡ unbound_at m (unbound_at n vs)
unfolding unbound_at
unbound_at-swap n m [] = refl
unbound_at-swap zero zero (v ∷ vs) = refl
unbound_at-swap zero (suc m) (v ∷ vs) = refl
unbound_at-swap (suc n) zero (v ∷ vs) = refl
unbound_at-swap (suc n) (suc m) (v ∷ vs) = ap (λ z. v ∷ z) (unbound_at-swap n m vs)

unbound-one : (ns : List ℕ) (m : ℕ) (vs : List InferVariable) → unbound ns (unbound_at m vs) ≡ unbound_at m (unbound ns vs)
unfolding unbound
unbound-one [] m vs = refl
unbound-one (n ∷ ns) m vs = ap (unbound ns) (unbound_at-swap n m vs) ∙ unbound-one ns m (unbound_at n vs)

unbound-append : (ns ms : List ℕ) (vs : List InferVariable) → unbound (ns ++ ms) vs ≡ unbound ns (unbound ms vs)
unfolding unbound
unbound-append [] ms vs = refl
unbound-append (n ∷ ns) ms vs = unbound-append ns ms (unbound_at n vs) ∙ ap (unbound ns) (unbound-one ms n vs)

-- the end of a trail, in two pieces
trail-end : (a b c : List ℕ) → take (length a) b ≡ a → take (length b) c ≡ b → drop (length a) c ≡ drop (length a) b ++ drop (length b) c
trail-end a b c e h =
    ap (drop (length a)) (sym (take-append-drop (length b) c) ∙ ap (λ z. z ++ drop (length b) c) h)
    ∙ drop-append-le (length a) b (drop (length b) c) (beginning-shorter a b e)

-- what goes back to a state that goes back to another goes back to that
pub goes_back-through : (a b c : Inference) → GoesBack a b → GoesBack b c → GoesBack a c
unfolding GoesBack
goes_back-through a b c g h =
    let va : take (length a.variables) (unbound (drop (length a.trail) b.trail) b.variables) ≡ a.variables = ap (λ s. s.variables) g in
    let vb : take (length b.variables) (unbound (drop (length b.trail) c.trail) c.variables) ≡ b.variables = ap (λ s. s.variables) h in
    let ta : take (length a.trail) b.trail ≡ a.trail = ap (λ s. s.trail) g in
    let tb : take (length b.trail) c.trail ≡ b.trail = ap (λ s. s.trail) h in
    state-is _ _ _ a
    (ap (λ z. take (length a.variables) (unbound z c.variables)) (trail-end a.trail b.trail c.trail ta tb)
    ∙ ap (take (length a.variables)) (unbound-append (drop (length a.trail) b.trail) (drop (length b.trail) c.trail) c.variables)
    ∙ unbound-cut (drop (length a.trail) b.trail) (length a.variables) (unbound (drop (length b.trail) c.trail) c.variables)
    ∙ ap (unbound (drop (length a.trail) b.trail))
    (sym (take-shorter (unbound (drop (length b.trail) c.trail) c.variables) (length a.variables) (length b.variables)
    (subst (λ n. length a.variables ≤ n) (unbound-length (drop (length a.trail) b.trail) b.variables)
    (beginning-shorter a.variables (unbound (drop (length a.trail) b.trail) b.variables) va)))
    ∙ ap (take (length a.variables)) vb)
    ∙ sym (unbound-cut (drop (length a.trail) b.trail) (length a.variables) b.variables)
    ∙ va)
    (beginning-through a.trail b.trail c.trail ta tb)
    (beginning-through a.equations b.equations c.equations (ap (λ s. s.equations) g) (ap (λ s. s.equations) h))
