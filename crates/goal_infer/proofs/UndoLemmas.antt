-- What undoing of bindings does.
use Rattle.std.proofs.Common.{◌≡◌, ℕ, zero, suc, ◌+◌, ◌<◌, ◌≤◌, List, [], ◌∷◌, ◌++◌, length, get_or, take, drop, Some, None, refl, sym, ap, ◌∙◌, subst, arith}
use Rattle.std.specs.Prelude.{slice_get, slice_set, Option, unwrap_or}
use Rattle.std.proofs.lemmas.List.{drop_all, length-take}
use Rattle.std.proofs.Math.Seq.{take-length, take-append_seam, drop-append_seam, drop-length}
use Rattle.goal_terms.specs.declared.answers.VarKind.{VarKind}
use Rattle.goal_interner.specs.declared.term_nodes.TermId.{TermId}
use Rattle.goal_terms.specs.declared.terms.Region.{Region}
use Rattle.goal_infer.specs.Inference.{Inference, GoesBack, lengths_of, rolled_back}
use Rattle.goal_infer.specs.Undo.{unbound_at, unbound}
use Rattle.goal_infer.specs.declared.state.Snapshot.{Snapshot}
use Rattle.goal_infer.specs.declared.undo.InferVariable.{InferVariable}

-- writing no binding at a place
pub set-unbinds : (vs : List InferVariable) (n : ℕ) (x : InferVariable) → n < length vs → x ≡ get_or vs n x →
    slice_set vs n (record { kind = x.kind; binding = None }) ≡ unbound_at n vs
unfolding unbound_at
set-unbinds [] n x h e = absurd (omega arith)
set-unbinds (v ∷ vs) zero x h e = ap (λ (z : InferVariable). record { kind = z.kind; binding = None } ∷ vs) e
set-unbinds (v ∷ vs) (suc n) x h e = ap (λ z. v ∷ z) (set-unbinds vs n x (omega arith) e)

-- no variable has a number past the end
pub unbound-beyond : (vs : List InferVariable) (n : ℕ) → length vs ≤ n → unbound_at n vs ≡ vs
unfolding unbound_at
unbound-beyond [] n h = refl
unbound-beyond (v ∷ vs) zero h = absurd (omega arith)
unbound-beyond (v ∷ vs) (suc n) h = ap (λ z. v ∷ z) (unbound-beyond vs n (omega arith))

plus-one : (i : ℕ) → suc i ≡ i + 1
plus-one i = omega arith

-- one number of a list is taken from its front
unbound-suc : (ns : List ℕ) (i d : ℕ) (vs : List InferVariable) → i < length ns →
    unbound (drop i ns) vs ≡ unbound (drop (suc i) ns) (unbound_at (get_or ns i d) vs)
unfolding unbound
unbound-suc [] i d vs h = absurd (omega arith)
unbound-suc (m ∷ ns) zero d vs h = refl
unbound-suc (m ∷ ns) (suc i) d vs h = unbound-suc ns i d vs (omega arith)

pub unbound-step : (ns : List ℕ) (i d : ℕ) (vs : List InferVariable) → i < length ns →
    unbound (drop i ns) vs ≡ unbound (drop (i + 1) ns) (unbound_at (get_or ns i d) vs)
unbound-step ns i d vs h = unbound-suc ns i d vs h ∙ ap (λ z. unbound (drop z ns) (unbound_at (get_or ns i d) vs)) (plus-one i)

-- when all numbers are taken, nothing is left to do
pub unbound-end : (ns : List ℕ) (i : ℕ) (vs : List InferVariable) → length ns ≤ i → unbound (drop i ns) vs ≡ vs
unfolding unbound
unbound-end ns i vs h = ap (λ z. unbound z vs) (drop_all i ns h)

-- a variable is its kind and its binding
variable-is : (k : VarKind) (w : InferVariable) → k ≡ w.kind → w.binding ≡ None → record { kind = k; binding = None } ≡ w
variable-is k w e b =
    ap (λ z. record { kind = z; binding = None }) e ∙ ap (λ z. record { kind = w.kind; binding = z }) (sym b)

-- nothing is not something
abbrev is_something : {A : Type 0} → Option A → Type 0
is_something None = ⊥
is_something (Some x) = Unit {0}

none-is-some : {A : Type 0} (v : A) → None ≡ Some v → ⊥
none-is-some v e = subst is_something (sym e) tt

-- what an option holds
some-is : (v w : InferVariable) → Some v ≡ Some w → v ≡ w
some-is v w e = ap (λ o. unwrap_or o v) e

-- an unbound variable that is bound and unbound again
pub set-unbound : (vs : List InferVariable) (n : ℕ) (v x : InferVariable) → slice_get vs n ≡ Some v → v.binding ≡ None → x.kind ≡ v.kind →
    unbound_at n (slice_set vs n x) ≡ vs
unfolding unbound_at
set-unbound [] n v x e b k = refl
set-unbound (w ∷ vs) zero v x e b k =
    ap (λ z. z ∷ vs) (variable-is x.kind w (k ∙ ap (λ z. z.kind) (sym (some-is w v e))) (ap (λ z. z.binding) (some-is w v e) ∙ b))
set-unbound (w ∷ vs) (suc n) v x e b k = ap (λ z. w ∷ z) (set-unbound vs n v x e b k)

-- a state is its three lists
pub state-is : (vs : List InferVariable) (ns : List ℕ) (es : List (Region × Region)) (s : Inference) → vs ≡ s.variables → ns ≡ s.trail → es ≡ s.equations →
    record { variables = vs; trail = ns; equations = es } ≡ s
state-is vs ns es s a b c =
    ap (λ z. record { variables = z; trail = ns; equations = es }) a
    ∙ ap (λ z. record { variables = s.variables; trail = z; equations = es }) b
    ∙ ap (λ z. record { variables = s.variables; trail = s.trail; equations = z }) c

-- no bindings are undone where the trail ends
unbound-none : (s : Inference) (vs : List InferVariable) → unbound (drop (length s.trail) s.trail) vs ≡ vs
unfolding unbound
unbound-none s vs = ap (λ z. unbound z vs) (drop-length s.trail)

-- a state goes back to itself
pub goes_back-same : (s : Inference) → GoesBack s s
unfolding GoesBack
goes_back-same s =
    state-is _ _ _ s (ap (take (length s.variables)) (unbound-none s s.variables) ∙ take-length s.variables) (take-length s.trail) (take-length s.equations)

-- a state with one more variable goes back
pub goes_back-variable : (s : Inference) (v : InferVariable) → GoesBack s (record s { variables = s.variables ++ v ∷ [] })
unfolding GoesBack
goes_back-variable s v =
    state-is _ _ _ s
    (ap (take (length s.variables)) (unbound-none s (s.variables ++ v ∷ [])) ∙ take-append_seam s.variables (v ∷ []))
    (take-length s.trail) (take-length s.equations)

-- a state with one more binding goes back
pub goes_back-binding : (s : Inference) (n : ℕ) (v x : InferVariable) → slice_get s.variables n ≡ Some v → v.binding ≡ None → x.kind ≡ v.kind →
    GoesBack s (record s { variables = slice_set s.variables n x; trail = s.trail ++ n ∷ [] })
unfolding GoesBack unbound
goes_back-binding s n v x e b k =
    state-is _ _ _ s
    (ap (λ z. take (length s.variables) (unbound z (slice_set s.variables n x))) (drop-append_seam s.trail (n ∷ []))
    ∙ ap (take (length s.variables)) (set-unbound s.variables n v x e b k) ∙ take-length s.variables)
    (take-append_seam s.trail (n ∷ [])) (take-length s.equations)

-- a state with one more equation goes back
pub goes_back-equation : (s : Inference) (e : Region × Region) → GoesBack s (record s { equations = s.equations ++ e ∷ [] })
unfolding GoesBack
goes_back-equation s e =
    state-is _ _ _ s (ap (take (length s.variables)) (unbound-none s s.variables) ∙ take-length s.variables) (take-length s.trail)
    (take-append_seam s.equations (e ∷ []))

-- the same of states that are only known to be equal to these
pub goes_back-when_same : (s z : Inference) → z ≡ s → GoesBack s z
goes_back-when_same s z e = subst (GoesBack s) (sym e) (goes_back-same s)

pub goes_back-when_made : (s z : Inference) (v : InferVariable) → z ≡ record s { variables = s.variables ++ v ∷ [] } → GoesBack s z
goes_back-when_made s z v e = subst (GoesBack s) (sym e) (goes_back-variable s v)

pub goes_back-when_added : (s z : Inference) (e : Region × Region) → z ≡ record s { equations = s.equations ++ e ∷ [] } → GoesBack s z
goes_back-when_added s z e h = subst (GoesBack s) (sym h) (goes_back-equation s e)

pub goes_back-when_bound : (s z : Inference) (n : ℕ) (v x : InferVariable) → slice_get s.variables n ≡ Some v → v.binding ≡ None → x.kind ≡ v.kind →
    z ≡ record s { variables = slice_set s.variables n x; trail = s.trail ++ n ∷ [] } → GoesBack s z
goes_back-when_bound s z n v x e b k h = subst (GoesBack s) (sym h) (goes_back-binding s n v x e b k)

-- a place of a list, found in two ways
pub same-item : {A : Type 0} (vs : List A) (n : ℕ) (v x : A) → slice_get vs n ≡ Some v → x ≡ get_or vs n x → x ≡ v
same-item [] n v x e h = absurd (none-is-some v e)
same-item (w ∷ vs) zero v x e h = h ∙ ap (λ o. unwrap_or o w) e
same-item (w ∷ vs) (suc n) v x e h = same-item vs n v x e h

pub item-within : {A : Type 0} (vs : List A) (n : ℕ) (v : A) → slice_get vs n ≡ Some v → n < length vs
item-within [] n v e = absurd (none-is-some v e)
item-within (w ∷ vs) zero v e = omega arith
item-within (w ∷ vs) (suc n) v e = omega (arith, item-within vs n v e)

-- a state after a binding was written in its lists
pub bound-state : (s : Inference) (vs : List InferVariable) (ns : List ℕ) (es : List (Region × Region)) (n : ℕ) (v x : InferVariable) (b : Option TermId) →
    vs ≡ s.variables → slice_get s.variables n ≡ Some v → x ≡ get_or vs n x → ns ≡ s.trail ++ n ∷ [] → es ≡ s.equations →
    record { variables = slice_set vs n (record { kind = x.kind; binding = b }); trail = ns; equations = es }
    ≡ record s { variables = slice_set s.variables n (record { kind = v.kind; binding = b }); trail = s.trail ++ n ∷ [] }
bound-state s vs ns es n v x b p e h q r =
    ap (λ z. record { variables = slice_set vs n (record { kind = z.kind; binding = b }); trail = ns; equations = es })
    (same-item vs n v x (ap (λ z. slice_get z n) p ∙ e) h)
    ∙ ap (λ z. record { variables = slice_set z n (record { kind = v.kind; binding = b }); trail = ns; equations = es }) p
    ∙ ap (λ z. record { variables = slice_set s.variables n (record { kind = v.kind; binding = b }); trail = z; equations = es }) q
    ∙ ap (λ z. record { variables = slice_set s.variables n (record { kind = v.kind; binding = b }); trail = s.trail ++ n ∷ []; equations = z }) r

-- a state after a rollback of its lists
pub rolled_back-state : (s : Inference) (to : Snapshot) (vs us : List InferVariable) (ns : List ℕ) (es fs : List (Region × Region)) →
    us ≡ unbound (drop to.trail s.trail) s.variables → vs ≡ take to.variables us → ns ≡ take to.trail s.trail → fs ≡ s.equations → es ≡ take to.equations fs →
    record { variables = vs; trail = ns; equations = es } ≡ rolled_back to s
rolled_back-state s to vs us ns es fs a b c d e =
    state-is vs ns es (rolled_back to s) (b ∙ ap (take to.variables) a) c (e ∙ ap (take to.equations) d)

-- from a state that goes back to the one that a snapshot saw, that one comes back
pub restored-state : (before after z : Inference) (to : Snapshot) → z ≡ rolled_back to after → to ≡ lengths_of before → GoesBack before after → z ≡ before
unfolding GoesBack
restored-state before after z to e h g = e ∙ ap (λ x. rolled_back x after) h ∙ g

-- there are as many variables when bindings are undone
unbound_at-length : (n : ℕ) (vs : List InferVariable) → length (unbound_at n vs) ≡ length vs
unfolding unbound_at
unbound_at-length n [] = refl
unbound_at-length zero (v ∷ vs) = refl
unbound_at-length (suc n) (v ∷ vs) = ap suc (unbound_at-length n vs)

pub unbound-length : (ns : List ℕ) (vs : List InferVariable) → length (unbound ns vs) ≡ length vs
unfolding unbound
unbound-length [] vs = refl
unbound-length (n ∷ ns) vs = unbound-length ns (unbound_at n vs) ∙ unbound_at-length n vs

-- and not more when they are cut
pub cut-length : (to n : ℕ) (vs us ws : List InferVariable) → vs ≡ take to us → length us ≡ length ws → length ws < n → length vs < n
cut-length to n vs us ws e h b = omega (arith, ap length e, length-take to us, h, b)
