-- How high resolved terms get, and how the work falls.
use Rattle.std.proofs.Common.{◌≡◌, ℕ, zero, suc, ◌+◌, ◌*◌, ◌<◌, ◌≤◌, Bool, true, false, List, [], ◌∷◌, length, Option, Some, None, sym, ap, subst, arith, inl, inr}
use Rattle.std.specs.Prelude.{max, slice_index_or, if◌then◌else◌, ◌==◌}
use Rattle.std.proofs.Math.Nat.{mul-le-mul_right}
use Rattle.goal_terms.specs.Tree.{Tree, Trees, node, alias, variable, none, more}
use Rattle.goal_terms.specs.Erased.{erased}
use Rattle.goal_interner.specs.TableMeaning.{tree_at}
use Rattle.goal_terms.specs.TreeOf.{leaf}
use Rattle.goal_terms.specs.declared.heads.Head.TheVariants as head
use Rattle.goal_terms.specs.declared.heads.Variable.{Variable}
use Rattle.goal_interner.specs.declared.term_nodes.TermId.{TermId}
use Rattle.goal_infer.specs.Inference.{Inference}
use Rattle.goal_infer.specs.Replacement.{number_of, replaced, replaced_row}
use Rattle.goal_infer.specs.Resolution.{term_at, binding_of, unbound_count, bound_tree, bound_at, resolution_after, resolution, resolved, IsSolved}
use Rattle.goal_infer.specs.Unification.{IsLater}
use Rattle.goal_infer.proofs.ReplacementLemmas.{height, row_height}

-- the greatest height in a table
unfoldable pub tallest : List Tree → ℕ
tallest [] = 1
tallest (t ∷ ts) = max (height (erased t)) (tallest ts)

-- how high trees can get by so many bindings
unfoldable pub limit : ℕ → ℕ → ℕ → ℕ
limit top zero h = h
limit top (suc n) h = limit top n (h + (top + h))

-- how high resolved terms can get
unfoldable pub ceiling : List Tree → ℕ → ℕ
ceiling T n = tallest T + limit (tallest T) n 0

-- how much there is left to do: more by an unbound variable than by any term
unfoldable pub work : List Tree → Inference → TermId → ℕ
work T s id = unbound_count s.variables * suc (ceiling T (length s.variables)) + height (resolved T s id)

-- trees are put that are not higher than h
abbrev IsLow : (Variable → Tree) → ℕ → Type 0
IsLow σ h = (v : Variable) → height (σ v) ≤ h

mutual
  unfolding replaced height

  height-replaced : (σ : Variable → Tree) (h : ℕ) → IsLow σ h → (t : Tree) → height (replaced σ t) ≤ height t + h
  height-replaced σ h low (node k ts) = let l : row_height (replaced_row σ ts) ≤ row_height ts + h = row_height-replaced σ h low ts in omega arith
  height-replaced σ h low (alias k ts) = let l : row_height (replaced_row σ ts) ≤ row_height ts + h = row_height-replaced σ h low ts in omega arith
  height-replaced σ h low (variable v) = omega (arith, low v)

  row_height-replaced : (σ : Variable → Tree) (h : ℕ) → IsLow σ h → (ts : Trees) → row_height (replaced_row σ ts) ≤ row_height ts + h
  row_height-replaced σ h low none = omega arith
  row_height-replaced σ h low (more t ts) =
      let a : height (replaced σ t) ≤ height t + h = height-replaced σ h low t in
      let b : row_height (replaced_row σ ts) ≤ row_height ts + h = row_height-replaced σ h low ts in omega arith

height-leaf : (B : ℕ) → 1 ≤ B → height (erased (leaf head.Bool)) ≤ B
unfolding height erased
height-leaf B l = l

tallest-at : (T : List Tree) (n : ℕ) → height (erased (slice_index_or T n (leaf head.Bool))) ≤ tallest T
unfolding tallest
tallest-at [] n = height-leaf 1 (omega arith)
tallest-at (t ∷ ts) zero = omega arith
tallest-at (t ∷ ts) (suc n) = let l : height (erased (slice_index_or ts n (leaf head.Bool))) ≤ tallest ts = tallest-at ts n in omega arith

height-term : (T : List Tree) (id : TermId) → height (term_at T id) ≤ tallest T
unfolding term_at tree_at
height-term T id = tallest-at T id.0

-- one binding
low-bound : (T : List Tree) (s : Inference) (n h : ℕ) (ρ : Variable → Tree) → IsLow ρ h → IsLow (bound_at T s n ρ) (tallest T + h)
unfolding bound_at height
low-bound T s n h ρ low v = pick (number_of v == n) (binding_of s v) where
  pick : (q : Bool) (o : Option TermId) → height (if q then bound_tree T ρ v o else variable v) ≤ tallest T + h
  pick true None = omega arith
  pick true (Some id) = omega (arith, height-replaced ρ h low (term_at T id), height-term T id)
  pick false o = omega arith

low-step : (T : List Tree) (s : Inference) (n h : ℕ) (ρ : Variable → Tree) → IsLow ρ h → IsLow (λ v. replaced (bound_at T s n ρ) (ρ v)) (h + (tallest T + h))
low-step T s n h ρ low v = omega (arith, height-replaced (bound_at T s n ρ) (tallest T + h) (low-bound T s n h ρ low) (ρ v), low v)

-- all of them
low-after : (T : List Tree) (s : Inference) (ns : List ℕ) (h : ℕ) (ρ : Variable → Tree) → IsLow ρ h → IsLow (resolution_after T s ns ρ) (limit (tallest T) (length ns) h)
unfolding resolution_after limit
low-after T s [] h ρ low = low
low-after T s (n ∷ ns) h ρ low = low-after T s ns (h + (tallest T + h)) (λ v. replaced (bound_at T s n ρ) (ρ v)) (low-step T s n h ρ low)

limit-above : (top n h : ℕ) → h ≤ limit top n h
unfolding limit
limit-above top zero h = omega arith
limit-above top (suc n) h = omega (arith, limit-above top n (h + (top + h)))

limit-more : (top n m h : ℕ) → n ≤ m → limit top n h ≤ limit top m h
unfolding limit
limit-more top zero m h l = limit-above top m h
limit-more top (suc n) zero h l = absurd (omega arith)
limit-more top (suc n) (suc m) h l = limit-more top n m (h + (top + h)) (omega arith)

pub height-resolved : (T : List Tree) (s : Inference) → IsSolved T s → (id : TermId) → height (resolved T s id) ≤ ceiling T (length s.variables)
unfolding resolved resolution ceiling height
height-resolved T s solved id =
    omega (
      arith,
      height-term T id,
      height-replaced (resolution T s) (limit (tallest T) (length s.trail) 0) (low-after T s s.trail 0 variable (λ v. omega arith)) (term_at T id),
      limit-more (tallest T) (length s.trail) (length s.variables) 0 (omega (arith, solved.counted)),
    )

-- the work falls from a term to a part, whatever was bound since
pub work-falls : (T : List Tree) (before after : Inference) → IsSolved T after → IsLater before after → length after.variables ≡ length before.variables →
    (whole part : TermId) → height (resolved T before part) < height (resolved T before whole) → work T after part < work T before whole
unfolding work
work-falls T before after solved (inl same) count whole part l =
    subst (λ s. unbound_count s.variables * suc (ceiling T (length s.variables)) + height (resolved T s part)
    < unbound_count before.variables * suc (ceiling T (length before.variables)) + height (resolved T before whole)) (sym same) (omega (arith, l))
work-falls T before after solved (inr fewer) count whole part l =
    let top : height (resolved T after part) ≤ ceiling T (length after.variables) = height-resolved T after solved part in
    let same : ceiling T (length after.variables) ≡ ceiling T (length before.variables) = ap (ceiling T) count in
    let product : suc (unbound_count after.variables) * suc (ceiling T (length before.variables)) ≤ unbound_count before.variables * suc (ceiling T (length before.variables)) =
    mul-le-mul_right (suc (ceiling T (length before.variables))) (omega (arith, fewer)) in
    let one : unbound_count after.variables * suc (ceiling T (length after.variables)) ≡ unbound_count after.variables * suc (ceiling T (length before.variables)) =
    ap (λ n. unbound_count after.variables * suc n) same in
    omega (arith, top, same, product, one)
