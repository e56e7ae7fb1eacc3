-- Where a header clashes with given terms: what is asked of each place, found by a walk over both.
use Rattle.std.proofs.Common.{◌≡◌, ◌≢◌, ◌⊎◌, inl, inr, ℕ, zero, suc, ◌+◌, Bool, true, false, List, [], ◌∷◌, ◌++◌, length, map, drop, Option, Some, refl, sym, ap, ◌∙◌, subst, add-one, arith}
use Rattle.std.specs.Prelude.{◌↔◌, Result, Ok, Err, IfOk, slice_get, is_some}
use Rattle.goal_terms.specs.Erased.{erased, erased_row, erased_head, compared_node}
use Rattle.goal_terms.specs.Tree.{Tree, Trees, node, alias, variable, none, more, node_of, parts_of, list_of}
use Rattle.goal_terms.specs.declared.compare.Regions.TheVariants.{Forgotten}
use Rattle.goal_terms.specs.declared.heads.Head.{Head}
use Rattle.goal_terms.specs.declared.heads.Node.{Node}
use Rattle.goal_terms.specs.declared.heads.Node.TheVariants as nodes
use Rattle.goal_terms.specs.declared.heads.Variable.{Variable}
use Rattle.goal_lists.specs.Headers.{parameter_of, InstanceUnequal, StepClashes, Clash, RowClash}
use Rattle.goal_lists.specs.Level.{Level}
use Rattle.goal_lists.specs.Settings.{Setting}
use Rattle.goal_lists.specs.Words.{Exists, SomePair}
use Rattle.goal_lists.proofs.WithinWords.{sum-map}
use Rattle.goal_eval.specs.HeaderWords.{is_any, is_whole}
use Rattle.goal_eval.proofs.HeaderPlaceLemmas.{IsAbove, parameter-erased, both_ways, either_true, either_false}

-- a test for parameters, without lifetimes
any_erased : (h k : Head) (b : Bool) → nodes.Head h ≡ nodes.Head k → is_any k ≡ b → is_some (parameter_of (erased_head h)) ≡ b
any_erased h k b e f = let same : h ≡ k = cc in ap is_some (parameter-erased h ∙ ap parameter_of same) ∙ f

-- what a test for parameters and aliases says of a constructor
pub whole-head : (m : Node) (h : Head) (b x : Bool) → m ≡ nodes.Head h → b ≡ is_whole m → b ≡ x → is_any h ≡ x
whole-head m h b x e s w = ap is_whole (sym e) ∙ sym s ∙ w

-- a variable of a header does not clash
pub clash-loose : (M B : Level) → IsAbove M B → (K : ℕ → Tree → Type 0) (t g : Tree) → is_whole (node_of t) ≡ false → ((h : Head) → node_of t ≢ nodes.Head h) →
    M.clash K (erased t) g → ⊥
unfolding Clash erased
clash-loose M B above K (node h ts) g w e x = e h refl
clash-loose M B above K (alias k ts) g w e x = absurd (cc)
clash-loose M B above K (variable v) g w e x = (above.clash K (erased (variable v)) g).0 x

-- a parameter or an alias clashes where its instance is unequal
pub clash-whole : (M B : Level) → IsAbove M B → (K : ℕ → Tree → Type 0) (t g : Tree) → is_whole (node_of t) ≡ true →
    M.clash K (erased t) g ↔ InstanceUnequal B K (erased t) g
unfolding Clash erased
clash-whole M B above K (node h ts) g w =
    both_ways (above.clash K (erased (node h ts)) g) (either_true (is_some (parameter_of (erased_head h))) _ _ (any_erased h h true refl w))
clash-whole M B above K (alias k ts) g w = above.clash K (erased (alias k ts)) g
clash-whole M B above K (variable v) g w = absurd (cc)

-- another constructor clashes where a given term differs from it
pub clash-step : (M B : Level) → IsAbove M B → (K : ℕ → Tree → Type 0) (h : Head) (ts : Trees) (g : Tree) → is_any h ≡ false →
    M.clash K (erased (node h ts)) g ↔ StepClashes B (erased_head h) (λ us. RowClash B K (erased_row ts) us) (λ f. B.clash K (erased (node h ts)) f) g
unfolding Clash erased
clash-step M B above K h ts g w =
    both_ways (above.clash K (erased (node h ts)) g) (either_false (is_some (parameter_of (erased_head h))) _ _ (any_erased h h false refl w))

-- not from a variable
pub clash-variable : (M B : Level) → IsAbove M B → (K : ℕ → Tree → Type 0) (t u : Tree) (h : Head) (v : Variable) → node_of t ≡ nodes.Head h → is_any h ≡ false →
    node_of u ≡ nodes.Variable v → M.clash K (erased t) (erased u) → ⊥
unfolding erased StepClashes
clash-variable M B above K (node k ts) (variable w) h v e f a x =
    let same : k ≡ h = cc in (clash-step M B above K k ts (variable w) (ap is_any same ∙ f)).0 x
clash-variable M B above K (node k ts) (node j us) h v e f a x = absurd (cc)
clash-variable M B above K (node k ts) (alias j us) h v e f a x = absurd (cc)
clash-variable M B above K (alias k ts) u h v e f a x = absurd (cc)
clash-variable M B above K (variable w) u h v e f a x = absurd (cc)

-- from another constructor
pub clash-apart : (M B : Level) → IsAbove M B → (K : ℕ → Tree → Type 0) (t u : Tree) (h k : Head) → node_of t ≡ nodes.Head h → is_any h ≡ false →
    node_of u ≡ nodes.Head k → compared_node Forgotten (node_of t) ≢ compared_node Forgotten (node_of u) → M.clash K (erased t) (erased u)
unfolding erased StepClashes
clash-apart M B above K (node i ts) (node j us) h k e f a d =
    let same : i ≡ h = cc in (clash-step M B above K i ts (erased (node j us)) (ap is_any same ∙ f)).1 (inl (λ p. d (ap nodes.Head p)))
clash-apart M B above K (node i ts) (variable w) h k e f a d = absurd (cc)
clash-apart M B above K (node i ts) (alias j us) h k e f a d = absurd (cc)
clash-apart M B above K (alias i ts) u h k e f a d = absurd (cc)
clash-apart M B above K (variable w) u h k e f a d = absurd (cc)

-- rows and lists
row-clash : (M B : Level) → IsAbove M B → (K : ℕ → Tree → Type 0) (ts us : Trees) →
    RowClash B K (erased_row ts) (erased_row us) ↔ SomePair (M.clash K) (map erased (list_of ts)) (map erased (list_of us))
unfolding Clash SomePair erased
row-clash M B above K none none = (λ x. x, λ x. x)
row-clash M B above K none (more u us) = (λ x. x, λ x. x)
row-clash M B above K (more t ts) none = (λ x. x, λ x. x)
row-clash M B above K (more t ts) (more u us) =
    let here : M.clash K (erased t) (erased u) ↔ Clash B K (erased t) (erased u) = above.clash K (erased t) (erased u) in
    let rest : RowClash B K (erased_row ts) (erased_row us) ↔ SomePair (M.clash K) (map erased (list_of ts)) (map erased (list_of us)) = row-clash M B above K ts us in
    (sum-map here.1 rest.0, sum-map here.0 rest.1)

-- from the same constructor where its parts do
pub clash-alike : (M B : Level) → IsAbove M B → (K : ℕ → Tree → Type 0) (t u : Tree) (h k : Head) → node_of t ≡ nodes.Head h → is_any h ≡ false →
    node_of u ≡ nodes.Head k → compared_node Forgotten (node_of t) ≡ compared_node Forgotten (node_of u) →
    M.clash K (erased t) (erased u) ↔ SomePair (M.clash K) (map erased (parts_of t)) (map erased (parts_of u))
unfolding erased StepClashes
clash-alike M B above K (node i ts) (node j us) h k e f a d =
    let same : i ≡ h = cc in
    let alike : erased_head i ≡ erased_head j = cc in
    let step : M.clash K (erased (node i ts)) (erased (node j us)) ↔ ((erased_head i ≢ erased_head j) ⊎ RowClash B K (erased_row ts) (erased_row us)) =
    clash-step M B above K i ts (erased (node j us)) (ap is_any same ∙ f) in
    let row : RowClash B K (erased_row ts) (erased_row us) ↔ SomePair (M.clash K) (map erased (list_of ts)) (map erased (list_of us)) = row-clash M B above K ts us in
    (λ x. elim (step.0 x) [ inl n ↦ absurd (n alike) | inr r ↦ row.0 r ], λ x. step.1 (inr (row.1 x)))
clash-alike M B above K (node i ts) (variable w) h k e f a d = absurd (cc)
clash-alike M B above K (node i ts) (alias j us) h k e f a d = absurd (cc)
clash-alike M B above K (alias i ts) u h k e f a d = absurd (cc)
clash-alike M B above K (variable w) u h k e f a d = absurd (cc)

-- one question more
pub exists-push : {A : Type 0} (P : A → Type 0) (xs : List A) (x : A) → Exists P (xs ++ x ∷ []) ↔ (Exists P xs ⊎ P x)
unfolding Exists
exists-push P [] x = (λ h. elim h [ inl p ↦ inr p | inr q ↦ absurd q ], λ h. elim h [ inl p ↦ absurd p | inr q ↦ inl q ])
exists-push P (y ∷ ys) x =
    let rest : Exists P (ys ++ x ∷ []) ↔ (Exists P ys ⊎ P x) = exists-push P ys x in (
      λ h. elim h [ inl p ↦ inl (inl p) | inr q ↦ elim (rest.0 q) [ inl r ↦ inl (inr r) | inr s ↦ inr s ] ],
      λ h. elim h [ inl p ↦ elim p [ inl r ↦ inl r | inr s ↦ inr (rest.1 (inl s)) ] | inr q ↦ inr (rest.1 (inr q)) ],
    )

-- what was asked before, or a claim
pub asked-one : {A : Type 0} (P : A → Type 0) (old new : List A) (x : A) (C : Type 0) → new ≡ old ++ x ∷ [] → C ↔ P x → Exists P new ↔ (Exists P old ⊎ C)
asked-one P old new x C e f =
    let push : Exists P (old ++ x ∷ []) ↔ (Exists P old ⊎ P x) = exists-push P old x in (
      λ h. elim (push.0 (subst (Exists P) e h)) [ inl p ↦ inl p | inr q ↦ inr (f.1 q) ],
      λ h. subst (Exists P) (sym e) (elim h [ inl p ↦ push.1 (inl p) | inr q ↦ push.1 (inr (f.0 q)) ]),
    )

pub asked-same : {A : Type 0} (P : A → Type 0) (old new : List A) (C D : Type 0) → Exists P new ↔ (Exists P old ⊎ C) → D ↔ C → Exists P new ↔ (Exists P old ⊎ D)
asked-same P old new C D h f =
    (λ x. elim (h.0 x) [ inl p ↦ inl p | inr q ↦ inr (f.1 q) ], λ x. elim x [ inl p ↦ h.1 (inl p) | inr q ↦ h.1 (inr (f.0 q)) ])

-- what was asked, or is still to be asked of the pairs from a place on
unfoldable pub StillClash : Type 0 → (Tree → Tree → Type 0) → List Tree → List Tree → ℕ → Type 0
StillClash E C hs us i = E ⊎ SomePair C (map erased (drop i hs)) (map erased (drop i us))

pub still-start : (E : Type 0) (C : Tree → Tree → Type 0) (hs us : List Tree) → StillClash E C hs us 0 ↔ (E ⊎ SomePair C (map erased hs) (map erased us))
unfolding StillClash
still-start E C hs us = (λ x. x, λ x. x)

still-suc : (E F : Type 0) (C : Tree → Tree → Type 0) (hs us : List Tree) (i : ℕ) (t u : Tree) → slice_get hs i ≡ Some t → slice_get us i ≡ Some u →
    F ↔ (E ⊎ C (erased t) (erased u)) → StillClash F C hs us (suc i) ↔ StillClash E C hs us i
unfolding StillClash SomePair
still-suc E F C [] us i t u e f h = absurd (cc)
still-suc E F C (x ∷ hs) [] i t u e f h = absurd (cc)
still-suc E F C (x ∷ hs) (y ∷ us) zero t u e f h =
    let one : x ≡ t = cc in let two : y ≡ u = cc in
    let g : F ↔ (E ⊎ C (erased x) (erased y)) = rw (one, two) h in (
      λ z. elim z [ inl p ↦ elim (g.0 p) [ inl r ↦ inl r | inr s ↦ inr (inl s) ] | inr q ↦ inr (inr q) ],
      λ z. elim z [ inl p ↦ inl (g.1 (inl p)) | inr q ↦ elim q [ inl r ↦ inl (g.1 (inr r)) | inr s ↦ inr s ] ],
    )
still-suc E F C (x ∷ hs) (y ∷ us) (suc i) t u e f h = still-suc E F C hs us i t u e f h

pub still-step : (E F : Type 0) (C : Tree → Tree → Type 0) (hs us : List Tree) (i : ℕ) (t u : Tree) → slice_get hs i ≡ Some t → slice_get us i ≡ Some u →
    F ↔ (E ⊎ C (erased t) (erased u)) → StillClash F C hs us (i + 1) ↔ StillClash E C hs us i
still-step E F C hs us i t u e f h = rw add-one (still-suc E F C hs us i t u e f h)

pub still-end : (E : Type 0) (C : Tree → Tree → Type 0) (hs us : List Tree) (i : ℕ) → length hs ≡ i → length us ≡ i → E ↔ StillClash E C hs us i
unfolding StillClash SomePair
still-end E C [] [] zero e f = (λ x. inl x, λ x. elim x [ inl p ↦ p | inr q ↦ absurd q ])
still-end E C [] [] (suc i) e f = absurd (omega arith)
still-end E C (x ∷ hs) us zero e f = absurd (omega arith)
still-end E C [] (y ∷ us) i e f = absurd (omega arith)
still-end E C (x ∷ hs) [] (suc i) e f = absurd (omega arith)
still-end E C (x ∷ hs) (y ∷ us) (suc i) e f = still-end E C hs us i (omega arith) (omega arith)

-- lists of other lengths have a pair apart
pub other-lengths : (C : Tree → Tree → Type 0) (hs us : List Tree) → length hs ≢ length us → SomePair C (map erased hs) (map erased us)
unfolding SomePair
other-lengths C [] [] e = absurd (e refl)
other-lengths C [] (y ∷ us) e = tt
other-lengths C (x ∷ hs) [] e = tt
other-lengths C (x ∷ hs) (y ∷ us) e = inr (other-lengths C hs us (λ f. e (ap suc f)))

-- the claims of a whole and of its parts, where a call that may be refused asks of the parts
pub asked-parts : {A E : Type 0} (P : Setting → ℕ → List (Option Tree) → A → Type 0) (C D : Setting → ℕ → List (Option Tree) → Type 0) (old new : List A) (r : Result (Unit {0}) E) →
    ((S : Setting) (k : ℕ) (ks : List (Option Tree)) → D S k ks ↔ C S k ks) →
    IfOk r (λ d. (S : Setting) (k : ℕ) (ks : List (Option Tree)) → Exists (P S k ks) new ↔ (Exists (P S k ks) old ⊎ C S k ks)) →
    IfOk r (λ d. (S : Setting) (k : ℕ) (ks : List (Option Tree)) → Exists (P S k ks) new ↔ (Exists (P S k ks) old ⊎ D S k ks))
asked-parts P C D old new (Ok d) f h = λ S k ks. asked-same (P S k ks) old new (C S k ks) (D S k ks) (h S k ks) (f S k ks)
asked-parts P C D old new (Err e) f h = h
