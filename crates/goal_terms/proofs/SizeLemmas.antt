-- How many nodes the parts of a term have.
use Rattle.std.proofs.Common.{◌≡◌, ℕ, zero, suc, ◌+◌, ◌≤◌, List, [], ◌∷◌, take, Some, refl, ap, arith, add-one}
use Rattle.std.specs.Prelude.{slice_get}
use Rattle.goal_terms.specs.Tree.{Tree, Trees, node, alias, variable, none, more, list_of, parts_of, tree_size, row_size}

-- how many nodes the trees of a list have
unfoldable pub sizes : List Tree → ℕ
sizes [] = 0
sizes (t ∷ ts) = tree_size t + sizes ts

row_size-list : (ts : Trees) → row_size ts ≡ sizes (list_of ts)
unfolding tree_size sizes
row_size-list none = refl
row_size-list (more t ts) = ap (λ n. tree_size t + n) (row_size-list ts)

pub tree_size-parts : (t : Tree) → tree_size t ≡ sizes (parts_of t) + 1
unfolding tree_size sizes
tree_size-parts (node h ts) = omega (arith, row_size-list ts)
tree_size-parts (alias k ts) = omega (arith, row_size-list ts)
tree_size-parts (variable v) = omega arith

sizes-suc : (ts : List Tree) (i : ℕ) (t : Tree) → slice_get ts i ≡ Some t → sizes (take (suc i) ts) ≡ sizes (take i ts) + tree_size t
unfolding sizes
sizes-suc [] i t e = absurd (cc)
sizes-suc (u ∷ ts) zero t e = let p : u ≡ t = cc in omega (arith, ap tree_size p)
sizes-suc (u ∷ ts) (suc i) t e = omega (arith, sizes-suc ts i t e)

pub sizes-more : (ts : List Tree) (i : ℕ) (t : Tree) → slice_get ts i ≡ Some t → sizes (take (i + 1) ts) ≡ sizes (take i ts) + tree_size t
sizes-more ts i t e = rw add-one (sizes-suc ts i t e)

pub sizes-take : (ts : List Tree) (i : ℕ) → sizes (take i ts) ≤ sizes ts
unfolding sizes
sizes-take [] zero = omega arith
sizes-take [] (suc i) = omega arith
sizes-take (t ∷ ts) zero = omega arith
sizes-take (t ∷ ts) (suc i) = omega (arith, sizes-take ts i)

-- after a part: the front with it is no larger than the whole
pub grown-part : (ts : List Tree) (i : ℕ) (t whole : Tree) (old mid new : ℕ) → slice_get ts i ≡ Some t → ts ≡ parts_of whole →
    mid ≤ old + sizes (take i ts) → new ≤ mid + tree_size t → new ≤ old + tree_size whole
grown-part ts i t whole old mid new e f h k =
    omega (arith, sizes-more ts i t e, sizes-take ts (i + 1), tree_size-parts whole, ap sizes f)

pub grown-whole : (ts : List Tree) (i : ℕ) (whole : Tree) (old mid new : ℕ) → ts ≡ parts_of whole →
    mid ≤ old + sizes (take i ts) → new ≤ mid + 1 → new ≤ old + tree_size whole
grown-whole ts i whole old mid new f h k = omega (arith, sizes-take ts i, tree_size-parts whole, ap sizes f)
