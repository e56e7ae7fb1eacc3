-- What hashing a term writes, part by part.
use Rattle.std.proofs.Common.{◌≡◌, ℕ, zero, suc, ◌+◌, List, [], ◌∷◌, ◌++◌, length, drop, Some, refl, sym, ap, ◌∙◌, add-one, arith}
use Rattle.std.specs.Prelude.{slice_get, fold}
use Rattle.std.proofs.lemmas.List.{drop_all}
use Rattle.goal_terms.specs.Tree.{Tree, Trees, node, alias, variable, none, more, node_of, parts_of, list_of}
use Rattle.goal_terms.specs.Writes.{node_writes, tree_writes, row_writes}
use Rattle.goal_terms.specs.declared.heads.Node.TheVariants as nodes

abbrev writes_of : List Tree → List (List ℕ)
writes_of [] = []
writes_of (t ∷ ts) = tree_writes t ++ writes_of ts

-- what the parts from a place on write
unfoldable pub writes_from : List Tree → ℕ → List (List ℕ)
writes_from ts i = writes_of (drop i ts)

writes_from-step' : (ts : List Tree) (i : ℕ) (t : Tree) → slice_get ts i ≡ Some t → writes_from ts i ≡ tree_writes t ++ writes_from ts (suc i)
unfolding writes_from
writes_from-step' [] i t e = absurd (cc)
writes_from-step' (x ∷ ts) zero t e = let p : x ≡ t = cc in ap (λ w. tree_writes w ++ writes_of ts) p
writes_from-step' (x ∷ ts) (suc i) t e = writes_from-step' ts i t e

pub writes_from-end : (ts : List Tree) (i : ℕ) → length ts ≡ i → writes_from ts i ≡ []
unfolding writes_from
writes_from-end ts i e = let p : drop i ts ≡ [] = drop_all i ts (omega arith) in ap writes_of p

append_none : (ws : List (List ℕ)) → ws ++ [] ≡ ws
append_none [] = refl
append_none (w ∷ ws) = ap (λ xs. w ∷ xs) (append_none ws)

row_writes-list : (ts : Trees) → row_writes ts ≡ writes_of (list_of ts)
unfolding tree_writes
row_writes-list none = refl
row_writes-list (more t ts) = ap (λ w. tree_writes t ++ w) (row_writes-list ts)

tree_writes-parts : (t : Tree) → tree_writes t ≡ node_writes (node_of t) ++ writes_from (parts_of t) 0
unfolding tree_writes writes_from
tree_writes-parts (node h ts) = ap (λ w. node_writes (nodes.Head h) ++ w) (row_writes-list ts)
tree_writes-parts (alias k ts) = ap (λ w. node_writes (nodes.Alias k) ++ w) (row_writes-list ts)
tree_writes-parts (variable v) = sym (append_none (node_writes (nodes.Variable v)))

fold-append : {S : Type 0} (f : S → List ℕ → S) (s : S) (a b : List (List ℕ)) → fold f s (a ++ b) ≡ fold f (fold f s a) b
fold-append f s [] b = refl
fold-append f s (x ∷ a) b = fold-append f (f s x) a b

-- the state after the parts from a place on
pub fed-step : {S : Type 0} (f : S → List ℕ → S) (s : S) (ts : List Tree) (i : ℕ) (t : Tree) → slice_get ts i ≡ Some t →
    fold f (fold f s (tree_writes t)) (writes_from ts (i + 1)) ≡ fold f s (writes_from ts i)
fed-step f s ts i t e = rw add-one (sym (ap (fold f s) (writes_from-step' ts i t e) ∙ fold-append f s (tree_writes t) (writes_from ts (suc i))))

pub fed-start : {S : Type 0} (f : S → List ℕ → S) (s : S) (t : Tree) →
    fold f (fold f s (node_writes (node_of t))) (writes_from (parts_of t) 0) ≡ fold f s (tree_writes t)
fed-start f s t = sym (ap (fold f s) (tree_writes-parts t) ∙ fold-append f s (node_writes (node_of t)) (writes_from (parts_of t) 0))

pub fed-end : {S : Type 0} (f : S → List ℕ → S) (s : S) (ts : List Tree) (i : ℕ) → length ts ≡ i → fold f s (writes_from ts i) ≡ s
fed-end f s ts i e = ap (fold f s) (writes_from-end ts i e)

pub ruleset feeding = (fed-step, fed-start, fed-end)
