-- A binding keeps what is promised of the bindings of a state.
use Rattle.std.proofs.Common.{◌≡◌, ◌≢◌, ◌⊎◌, inl, inr, ℕ, zero, suc, ◌+◌, ◌<◌, ◌≤◌, Bool, true, false, List, [], ◌∷◌, ◌++◌, length, Some, None, refl, sym, ap, ◌∙◌, subst, arith, eq-eqb, length-append}
use Rattle.std.specs.Prelude.{slice_get, slice_set, if◌then◌else◌, ◌==◌, IsTrue}
use Rattle.std.specs.List.{All}
use Rattle.std.proofs.lemmas.Bool.{false≢true, eqb-true}
use Rattle.std.proofs.lemmas.List.Elements.{All-push, All-head, All-tail}
use Rattle.std.proofs.Math.Path.{fun_ext}
use Rattle.goal_terms.specs.Tree.{Tree, node, alias, variable, node_of}
use Rattle.goal_terms.specs.NodeTests.{same_var_kind}
use Rattle.goal_terms.specs.declared.heads.Variable.{Variable}
use Rattle.goal_interner.specs.declared.term_nodes.TermId.{TermId}
use Rattle.goal_infer.specs.Inference.{Inference}
use Rattle.goal_infer.specs.Occurrence.{place_of, place_at}
use Rattle.goal_infer.specs.Replacement.{number_of, kind_of_variable, same_variable, replaced, takes, OfKinds}
use Rattle.goal_infer.specs.Resolution.{term_at, binding_in, binding_of, unbound_count, bound_tree, bound_at, resolution_after, resolution, resolved, Agrees, StandOnce, IsSolved}
use Rattle.goal_infer.specs.declared.occurs.Occurrence.TheVariants.{Nowhere}
use Rattle.goal_infer.specs.declared.undo.InferVariable.{InferVariable}
use Rattle.goal_infer.proofs.UndoLemmas.{item-within}
use Rattle.goal_infer.proofs.KindLemmas.{variable-of_kind, kinds-single, kinds-replaced}
use Rattle.goal_infer.proofs.ReplacementLemmas.{single, replaced-twice, replaced-pointwise, replaced-nowhere, place_at-nowhere, replaced-single, by_same, same_variable-self, single-here, single-elsewhere, single-other}

module _ {A : Type 0} where
  pub set-here : (xs : List A) (n : ℕ) (x y : A) → slice_get xs n ≡ Some x → slice_get (slice_set xs n y) n ≡ Some y
  set-here [] n x y e = absurd (cc)
  set-here (z ∷ xs) zero x y e = refl
  set-here (z ∷ xs) (suc n) x y e = set-here xs n x y e

  pub set-elsewhere : (xs : List A) (n m : ℕ) (y : A) → m ≢ n → slice_get (slice_set xs n y) m ≡ slice_get xs m
  set-elsewhere [] n m y e = refl
  set-elsewhere (z ∷ xs) zero zero y e = absurd (e refl)
  set-elsewhere (z ∷ xs) zero (suc m) y e = refl
  set-elsewhere (z ∷ xs) (suc n) zero y e = refl
  set-elsewhere (z ∷ xs) (suc n) (suc m) y e = set-elsewhere xs n m y (λ p. e (ap suc p))

  set-length : (xs : List A) (n : ℕ) (y : A) → length (slice_set xs n y) ≡ length xs
  set-length [] n y = refl
  set-length (z ∷ xs) zero y = refl
  set-length (z ∷ xs) (suc n) y = ap suc (set-length xs n y)

-- a number that doesn't stand in a list stands once when it is added
get-push : (ns : List ℕ) (n m i : ℕ) → slice_get (ns ++ n ∷ []) i ≡ Some m → (slice_get ns i ≡ Some m) ⊎ ((i ≡ length ns) × (n ≡ m))
get-push [] n m zero e = inr (refl, cc)
get-push [] n m (suc i) e = absurd (cc)
get-push (k ∷ ns) n m zero e = inl e
get-push (k ∷ ns) n m (suc i) e = elim (get-push ns n m i e) [ inl p ↦ inl p | inr p ↦ inr (ap suc p.0, p.1) ]

off-list : (ns : List ℕ) (n i : ℕ) → All (λ m. m ≢ n) ns → slice_get ns i ≡ Some n → ⊥
off-list [] n i off e = absurd (cc)
off-list (k ∷ ns) n zero off e = let same : k ≡ n = cc in All-head (λ m. m ≢ n) k ns off same
off-list (k ∷ ns) n (suc i) off e = off-list ns n i (All-tail (λ m. m ≢ n) k ns off) e

once-pushed : (ns : List ℕ) (n : ℕ) → All (λ m. m ≢ n) ns → StandOnce ns → StandOnce (ns ++ n ∷ [])
once-pushed ns n off once i j m e f =
    elim (get-push ns n m i e) [
      | inl p ↦ elim (get-push ns n m j f) [
        | inl q ↦ once i j m p q
        | inr q ↦ absurd (off-list ns n i off (p ∙ ap Some (sym q.1)))
      ]
      | inr p ↦ elim (get-push ns n m j f) [
        | inl q ↦ absurd (off-list ns n j off (q ∙ ap Some (sym p.1)))
        | inr q ↦ p.0 ∙ sym q.0
      ]
    ]

-- a state with one more binding
abbrev pub with_binding : Inference → ℕ → InferVariable → TermId → Inference
with_binding s n x id = record s { variables = slice_set s.variables n (record { kind = x.kind; binding = Some id }); trail = s.trail ++ n ∷ [] }

-- what may be bound: an unbound variable to a resolved term of its kind in which it doesn't stand
pub record IsBindable (T : List Tree) (s : Inference) (v : Variable) (x : InferVariable) (id : TermId) : Type 0 where
  pub solved : IsSolved T s
  pub made : slice_get s.variables (number_of v) ≡ Some x
  pub kind : same_var_kind x.kind (kind_of_variable v) ≡ true
  pub unbound : x.binding ≡ None
  pub within : id.0 < length T
  pub nowhere : place_of v (resolved T s id) ≡ Nowhere
  pub takes : IsTrue (takes v (node_of (resolved T s id)))
  pub ended : (w : Variable) → term_at T id ≡ variable w → binding_of s w ≡ None

resolution-append : (T : List Tree) (s : Inference) (ns : List ℕ) (n : ℕ) (ρ : Variable → Tree) →
    resolution_after T s (ns ++ n ∷ []) ρ ≡ (λ u. replaced (bound_at T s n (resolution_after T s ns ρ)) (resolution_after T s ns ρ u))
unfolding resolution_after
resolution-append T s [] n ρ = refl
resolution-append T s (m ∷ ns) n ρ = resolution-append T s ns n (λ u. replaced (bound_at T s m ρ) (ρ u))

pub count-set : (vs : List InferVariable) (n : ℕ) (x y : InferVariable) (id : TermId) → slice_get vs n ≡ Some x → x.binding ≡ None → y.binding ≡ Some id →
    suc (unbound_count (slice_set vs n y)) ≡ unbound_count vs
unfolding unbound_count
count-set [] n x y id e f g = absurd (cc)
count-set (z ∷ vs) zero x y id e f g =
    let p : z ≡ x = cc in
    let q : z.binding ≡ None = ap (λ w. w.binding) p ∙ f in
    rw (q, g) (omega arith)
count-set (z ∷ vs) (suc n) x y id e f g = omega (arith, count-set vs n x y id e f g)

-- whether a tree is the variable, as a number
abbrev one_if : Bool → ℕ
one_if true = 1
one_if false = 0

abbrev link_to : Variable → Tree → ℕ
link_to v (node h ts) = 0
link_to v (alias k ts) = 0
link_to v (variable w) = one_if (same_variable w v)

link_to-small : (v : Variable) (t : Tree) → link_to v t ≤ 1
link_to-small v (node h ts) = omega arith
link_to-small v (alias k ts) = omega arith
link_to-small v (variable w) = small (same_variable w v) where
  small : (q : Bool) → one_if q ≤ 1
  small true = omega arith
  small false = omega arith

different : (w v : Variable) → w ≢ v → same_variable w v ≡ false
different w v differ = by_same v w (same_variable w v ≡ false) (λ e. absurd (differ e)) (λ e. e)

module _ (T : List Tree) (s : Inference) (v : Variable) (x : InferVariable) (id : TermId) (b : IsBindable T s v x id) where
  abbrev after : Inference
  after = with_binding s (number_of v) x id

  bound-here : binding_of after v ≡ Some id
  unfolding binding_of
  bound-here =
      ap (λ o. binding_in o (kind_of_variable v)) (set-here s.variables (number_of v) x (record { kind = x.kind; binding = Some id }) b.made)
      ∙ ap (λ q. if q then Some id else None) b.kind

  unbound-before : binding_of s v ≡ None
  unfolding binding_of
  unbound-before = ap (λ o. binding_in o (kind_of_variable v)) b.made ∙ ap (λ q. if q then x.binding else None) b.kind ∙ b.unbound

  bound-elsewhere : (w : Variable) → number_of w ≢ number_of v → binding_of after w ≡ binding_of s w
  unfolding binding_of
  bound-elsewhere w differ =
      ap (λ o. binding_in o (kind_of_variable w)) (set-elsewhere s.variables (number_of v) (number_of w) (record { kind = x.kind; binding = Some id }) differ)

  other_kind : (w : Variable) → number_of w ≡ number_of v → w ≢ v → same_var_kind x.kind (kind_of_variable w) ≡ false
  other_kind w e differ = on (same_var_kind x.kind (kind_of_variable w)) refl where
    on : (q : Bool) → same_var_kind x.kind (kind_of_variable w) ≡ q → same_var_kind x.kind (kind_of_variable w) ≡ false
    on true h = absurd (differ (variable-of_kind x.kind w v e h b.kind))
    on false h = h

  bound-other_kind : (w : Variable) → number_of w ≡ number_of v → w ≢ v → binding_of after w ≡ None
  unfolding binding_of
  bound-other_kind w e differ =
      ap (λ n. binding_in (slice_get after.variables n) (kind_of_variable w)) e
      ∙ ap (λ o. binding_in o (kind_of_variable w)) (set-here s.variables (number_of v) x (record { kind = x.kind; binding = Some id }) b.made)
      ∙ ap (λ q. if q then Some id else None) (other_kind w e differ)

  unbound-other_kind : (w : Variable) → number_of w ≡ number_of v → w ≢ v → binding_of s w ≡ None
  unfolding binding_of
  unbound-other_kind w e differ =
      ap (λ n. binding_in (slice_get s.variables n) (kind_of_variable w)) e
      ∙ ap (λ o. binding_in o (kind_of_variable w)) b.made
      ∙ ap (λ q. if q then x.binding else None) (other_kind w e differ)

  by_number : (n m : ℕ) (P : Type 0) → (n ≡ m → P) → (n ≢ m → P) → P
  by_number n m P f g = on (n == m) refl where
    on : (q : Bool) → n == m ≡ q → P
    on true h = f (eqb-true n m h)
    on false h = g (λ e. false≢true (sym h ∙ eq-eqb n m e))

  pub bound-other : (w : Variable) → w ≢ v → binding_of after w ≡ binding_of s w
  bound-other w differ =
      by_number (number_of w) (number_of v) (binding_of after w ≡ binding_of s w)
      (λ e. bound-other_kind w e differ ∙ sym (unbound-other_kind w e differ)) (bound-elsewhere w)

  bound_at-kept : (m : ℕ) → m ≢ number_of v → (ρ : Variable → Tree) → bound_at T after m ρ ≡ bound_at T s m ρ
  unfolding bound_at
  bound_at-kept m differ ρ = fun_ext (λ w. pick w (number_of w == m) refl) where
    pick : (w : Variable) (q : Bool) → number_of w == m ≡ q →
        (if q then bound_tree T ρ w (binding_of after w) else variable w) ≡ (if q then bound_tree T ρ w (binding_of s w) else variable w)
    pick w true h = ap (bound_tree T ρ w) (bound-elsewhere w (λ p. differ (sym (eqb-true (number_of w) m h) ∙ p)))
    pick w false h = refl

  after-kept : (ns : List ℕ) → All (λ m. m ≢ number_of v) ns → (ρ : Variable → Tree) → resolution_after T after ns ρ ≡ resolution_after T s ns ρ
  unfolding resolution_after
  after-kept [] off ρ = refl
  after-kept (m ∷ ns) off ρ =
      after-kept ns (All-tail (λ k. k ≢ number_of v) m ns off) (λ u. replaced (bound_at T after m ρ) (ρ u))
      ∙ ap (λ f. resolution_after T s ns (λ u. replaced f (ρ u))) (bound_at-kept m (All-head (λ k. k ≢ number_of v) m ns off) ρ)

  bound_at-itself : bound_at T after (number_of v) (resolution T s) v ≡ resolved T s id
  unfolding bound_at resolved
  bound_at-itself =
      ap (λ q. if q then bound_tree T (resolution T s) v (binding_of after v) else variable v) (eq-eqb (number_of v) (number_of v) refl)
      ∙ ap (bound_tree T (resolution T s) v) bound-here

  bound_at-other : (w : Variable) → w ≢ v → bound_at T after (number_of v) (resolution T s) w ≡ variable w
  unfolding bound_at
  bound_at-other w differ = pick (number_of w == number_of v) refl where
    pick : (q : Bool) → number_of w == number_of v ≡ q → (if q then bound_tree T (resolution T s) w (binding_of after w) else variable w) ≡ variable w
    pick true h = ap (bound_tree T (resolution T s) w) (bound-other_kind w (eqb-true (number_of w) (number_of v) h) differ)
    pick false h = refl

  differ-if : (w : Variable) → same_variable w v ≡ false → w ≢ v
  differ-if w p e = false≢true (sym p ∙ same_variable-self w v e)

  bound_at-here : bound_at T after (number_of v) (resolution T s) ≡ single v (resolved T s id)
  bound_at-here = fun_ext (λ w. by_same v w (bound_at T after (number_of v) (resolution T s) w ≡ single v (resolved T s id) w)
      (λ p. ap (bound_at T after (number_of v) (resolution T s)) p ∙ bound_at-itself ∙ sym (single-here v w (resolved T s id) p))
      (λ p. bound_at-other w (differ-if w p) ∙ sym (single-elsewhere v w (resolved T s id) p)))

  pub resolution-bound : resolution T after ≡ (λ u. replaced (single v (resolved T s id)) (resolution T s u))
  unfolding resolution
  resolution-bound =
      resolution-append T after s.trail (number_of v) variable
      ∙ ap (λ f. λ u. replaced (bound_at T after (number_of v) f) (f u)) (after-kept s.trail (b.solved.off_trail (number_of v) x b.made b.unbound) variable)
      ∙ ap (λ g. λ u. replaced g (resolution T s u)) bound_at-here

  never-none : (w : Variable) → binding_of after w ≡ None → w ≢ v
  never-none w e p = let q : Some id ≡ None = sym bound-here ∙ ap (binding_of after) (sym p) ∙ e in absurd (cc)

  unbound-still : (w : Variable) → binding_of after w ≡ None → binding_of s w ≡ None
  unbound-still w e = sym (bound-other w (never-none w e)) ∙ e

  is-id : (w : Variable) (other : TermId) → w ≡ v → binding_of after w ≡ Some other → other ≡ id
  is-id w other p e = let q : Some other ≡ Some id = sym e ∙ ap (binding_of after) p ∙ bound-here in cc

  next-free : (w : Variable) → binding_of after w ≡ None → replaced (single v (resolved T s id)) (resolution T s w) ≡ variable w
  unfolding replaced
  next-free w e =
      ap (replaced (single v (resolved T s id))) (b.solved.free w (unbound-still w e)) ∙ single-other v w (resolved T s id) (never-none w e)

  pub next-here : replaced (single v (resolved T s id)) (resolution T s v) ≡ resolved T s id
  unfolding replaced
  next-here = ap (replaced (single v (resolved T s id))) (b.solved.free v unbound-before) ∙ single-here v v (resolved T s id) refl

  next-resolved : replaced (λ u. replaced (single v (resolved T s id)) (resolution T s u)) (term_at T id) ≡ resolved T s id
  unfolding resolved
  next-resolved =
      sym (replaced-twice (single v (resolved T s id)) (resolution T s) (term_at T id)) ∙ replaced-nowhere v (resolved T s id) (resolved T s id) b.nowhere

  next-agrees : Agrees T after (λ u. replaced (single v (resolved T s id)) (resolution T s u))
  unfolding Agrees
  next-agrees w other e =
      by_same v w (replaced (single v (resolved T s id)) (resolution T s w) ≡ replaced (λ u. replaced (single v (resolved T s id)) (resolution T s u)) (term_at T other))
      (λ p. ap (λ z. replaced (single v (resolved T s id)) (resolution T s z)) p ∙ next-here ∙ sym next-resolved
      ∙ ap (λ z. replaced (λ u. replaced (single v (resolved T s id)) (resolution T s u)) (term_at T z)) (sym (is-id w other p e)))
      (λ p. ap (replaced (single v (resolved T s id))) (b.solved.agrees w other (sym (bound-other w (differ-if w p)) ∙ e))
      ∙ replaced-twice (single v (resolved T s id)) (resolution T s) (term_at T other))

  -- what agrees after the binding agreed before, and makes the variable the same as the term
  pub agrees-before : (ρ : Variable → Tree) → Agrees T after ρ → Agrees T s ρ
  unfolding Agrees
  agrees-before ρ a w other e =
      by_same v w (ρ w ≡ replaced ρ (term_at T other))
      (λ p. let q : Some other ≡ None = sym e ∙ ap (binding_of s) p ∙ unbound-before in absurd (cc))
      (λ p. a w other (bound-other w (differ-if w p) ∙ e))

  pub agrees-general : (ρ : Variable → Tree) → Agrees T s ρ → (t : Tree) → replaced ρ (replaced (resolution T s) t) ≡ replaced ρ t
  agrees-general ρ a t =
      replaced-twice ρ (resolution T s) t ∙ replaced-pointwise (λ u. replaced ρ (resolution T s u)) ρ (λ u. sym (b.solved.general ρ a u)) t

  pub agrees-here : (ρ : Variable → Tree) → Agrees T after ρ → ρ v ≡ replaced ρ (resolved T s id)
  unfolding Agrees resolved
  agrees-here ρ a = a v id bound-here ∙ sym (agrees-general ρ (agrees-before ρ a) (term_at T id))

  pub agrees-after : (ρ : Variable → Tree) → Agrees T s ρ → ρ v ≡ replaced ρ (resolved T s id) → Agrees T after ρ
  unfolding Agrees resolved
  agrees-after ρ a h w other e =
      by_same v w (ρ w ≡ replaced ρ (term_at T other))
      (λ p. ap ρ p ∙ h ∙ agrees-general ρ a (term_at T id) ∙ ap (λ z. replaced ρ (term_at T z)) (sym (is-id w other p e)))
      (λ p. a w other (sym (bound-other w (differ-if w p)) ∙ e))

  next-general : (ρ : Variable → Tree) → Agrees T after ρ → (u : Variable) → ρ u ≡ replaced ρ (replaced (single v (resolved T s id)) (resolution T s u))
  next-general ρ a u =
      b.solved.general ρ (agrees-before ρ a) u
      ∙ sym (replaced-twice ρ (single v (resolved T s id)) (resolution T s u)
      ∙ replaced-pointwise (λ w. replaced ρ (single v (resolved T s id) w)) ρ (replaced-single ρ v (resolved T s id) (agrees-here ρ a)) (resolution T s u))

  next-within : (w : Variable) (other : TermId) → binding_of after w ≡ Some other → other.0 < length T
  next-within w other e =
      by_same v w (other.0 < length T) (λ p. subst (λ z. z.0 < length T) (sym (is-id w other p e)) b.within)
      (λ p. b.solved.within w other (sym (bound-other w (differ-if w p)) ∙ e))

  next-off_trail : (n : ℕ) (y : InferVariable) → slice_get after.variables n ≡ Some y → y.binding ≡ None → All (λ m. m ≢ n) after.trail
  next-off_trail n y e f =
      by_number n (number_of v) (All (λ m. m ≢ n) after.trail)
      (λ p. let q : Some (record { kind = x.kind; binding = Some id }) ≡ Some y =
      sym (set-here s.variables (number_of v) x (record { kind = x.kind; binding = Some id }) b.made) ∙ ap (slice_get after.variables) (sym p) ∙ e in
      let r : record { kind = x.kind; binding = Some id } ≡ y = cc in
      let z : Some id ≡ None = ap (λ w. w.binding) r ∙ f in absurd (cc))
      (λ p. All-push (λ m. m ≢ n) s.trail (number_of v)
      (b.solved.off_trail n y (sym (set-elsewhere s.variables (number_of v) n (record { kind = x.kind; binding = Some id }) p) ∙ e) f) (λ q. p (sym q)))

  next-on_trail : All (λ n. n < length after.variables) after.trail
  next-on_trail =
      All-push (λ n. n < length after.variables) s.trail (number_of v)
      (subst (λ k. All (λ n. n < k) s.trail) (sym (set-length s.variables (number_of v) (record { kind = x.kind; binding = Some id }))) b.solved.on_trail)
      (omega (arith, set-length s.variables (number_of v) (record { kind = x.kind; binding = Some id }), item-within s.variables (number_of v) x b.made))

  next-once : StandOnce after.trail
  next-once = once-pushed s.trail (number_of v) (b.solved.off_trail (number_of v) x b.made b.unbound) b.solved.once

  next-counted : length after.trail + unbound_count after.variables ≡ length after.variables
  next-counted =
      omega (
        arith,
        b.solved.counted,
        length-append s.trail (number_of v ∷ []),
        set-length s.variables (number_of v) (record { kind = x.kind; binding = Some id }),
        count-set s.variables (number_of v) x (record { kind = x.kind; binding = Some id }) id b.made b.unbound refl,
      )

  links : Variable → ℕ
  links u = b.solved.chain u + link_to v (resolution T s u)

  link-free : (u : Variable) → binding_of s u ≡ None → link_to v (resolution T s u) ≡ one_if (same_variable u v)
  link-free u e = ap (link_to v) (b.solved.free u e)

  links-short : (u : Variable) → links u ≤ length after.trail
  unfolding links
  links-short u = omega (arith, b.solved.short u, link_to-small v (resolution T s u), length-append s.trail (number_of v ∷ []))

  links-end : (u : Variable) → binding_of after u ≡ None → links u ≡ 0
  unfolding links
  links-end u e =
      omega (arith, b.solved.ends u (unbound-still u e), link-free u (unbound-still u e) ∙ ap one_if (different u v (never-none u e)))

  links-begin : (u : Variable) (other : TermId) → binding_of after u ≡ Some other → 0 < links u
  unfolding links
  links-begin u other e =
      by_same v u (0 < b.solved.chain u + link_to v (resolution T s u))
      (λ p. omega (arith, link-free u (ap (binding_of s) p ∙ unbound-before) ∙ ap one_if (same_variable-self u v p)))
      (λ p. omega (arith, b.solved.begins u other (sym (bound-other u (differ-if u p)) ∙ e)))

  link-last : (w : Variable) → term_at T id ≡ variable w → link_to v (resolution T s w) ≡ 0
  unfolding replaced resolved place_of
  link-last w f =
      let still : resolution T s w ≡ variable w = b.solved.free w (b.ended w f) in
      let away : place_at (same_variable w v) ≡ Nowhere = sym (ap (place_of v) (ap (replaced (resolution T s)) f ∙ still)) ∙ b.nowhere in
      link-free w (b.ended w f) ∙ ap one_if (place_at-nowhere (same_variable w v) away)

  links-fall : (u w : Variable) (other : TermId) → binding_of after u ≡ Some other → term_at T other ≡ variable w → links w < links u
  unfolding links replaced Agrees
  links-fall u w other e f =
      by_same v u (b.solved.chain w + link_to v (resolution T s w) < b.solved.chain u + link_to v (resolution T s u))
      (λ p. let g : term_at T id ≡ variable w = ap (term_at T) (sym (is-id u other p e)) ∙ f in
      omega (
        arith,
        b.solved.ends w (b.ended w g),
        link-last w g,
        link-free u (ap (binding_of s) p ∙ unbound-before) ∙ ap one_if (same_variable-self u v p),
      ))
      (λ p. let g : binding_of s u ≡ Some other = sym (bound-other u (differ-if u p)) ∙ e in
      omega (arith, b.solved.falls u w other g f, ap (link_to v) (b.solved.agrees u other g ∙ ap (replaced (resolution T s)) f)))

  pub solved-after : IsSolved T after
  unfolding Agrees
  solved-after = record {
    within = next-within;
    free = λ w e. ap (λ f. f w) resolution-bound ∙ next-free w e;
    agrees = subst (Agrees T after) (sym resolution-bound) next-agrees;
    kinds = subst OfKinds (sym resolution-bound) (kinds-replaced (single v (resolved T s id)) (resolution T s) (kinds-single v (resolved T s id) b.takes) b.solved.kinds);
    general = λ ρ a u. next-general ρ a u ∙ ap (λ f. replaced ρ (f u)) (sym resolution-bound);
    off_trail = next-off_trail;
    on_trail = next-on_trail;
    once = next-once;
    counted = next-counted;
    chain = links;
    short = links-short;
    ends = links-end;
    begins = links-begin;
    falls = links-fall;
  }
