-- What walks over the parts of terms need.
use Rattle.std.proofs.Common.{◌≡◌, ◌≢◌, ℕ, zero, suc, ◌+◌, ◌<◌, ◌≤◌, Bool, true, false, ◌&&◌, List, [], ◌∷◌, length, map, drop, Some, refl, sym, ap, ◌∙◌, arith, add-one}
use Rattle.std.specs.Prelude.{slice_get}
use Rattle.std.proofs.lemmas.List.{drop_all}
use Rattle.goal_terms.specs.Tree.{Tree, Trees, node, alias, variable, none, more, node_of, parts_of, list_of, tree_size, row_size}
use Rattle.goal_terms.specs.SameTree.{same_node, same_tree, same_row, all_same}
use Rattle.goal_terms.specs.Erased.{erased, erased_row, compared, compared_node}
use Rattle.goal_terms.specs.declared.heads.Node.TheVariants as nodes
use Rattle.goal_terms.specs.declared.compare.Regions as modes
use Rattle.goal_terms.specs.declared.compare.Regions.TheVariants.{Compared, Forgotten}

pub and-false : (b : Bool) → b && false ≡ false
and-false true = refl
and-false false = refl

and-true : (b : Bool) → b && true ≡ b
and-true true = refl
and-true false = refl

-- a part is smaller than the whole
row_size-part : (ts : Trees) (i : ℕ) (u : Tree) → slice_get (list_of ts) i ≡ Some u → tree_size u ≤ row_size ts
unfolding tree_size
row_size-part none i u e = absurd (cc)
row_size-part (more t ts) zero u e = let p : t ≡ u = cc in omega (arith, ap tree_size p)
row_size-part (more t ts) (suc i) u e = omega (arith, row_size-part ts i u e)

pub tree_size-part : (t : Tree) (i : ℕ) (u : Tree) → slice_get (parts_of t) i ≡ Some u → tree_size u < tree_size t
unfolding tree_size
tree_size-part (node h ts) i u e = omega (arith, row_size-part ts i u e)
tree_size-part (alias k ts) i u e = omega (arith, row_size-part ts i u e)
tree_size-part (variable v) i u e = absurd (cc)

-- whether the parts from a place on are the same
unfoldable pub sames : modes.Regions → List Tree → List Tree → ℕ → Bool
sames r ts us i = all_same (map (compared r) (drop i ts)) (map (compared r) (drop i us))

sames-step' : (r : modes.Regions) (ts us : List Tree) (i : ℕ) (t u : Tree) →
    slice_get ts i ≡ Some t → slice_get us i ≡ Some u →
    sames r ts us i ≡ same_tree (compared r t) (compared r u) && sames r ts us (suc i)
unfolding sames
sames-step' r [] us i t u e f = absurd (cc)
sames-step' r (x ∷ ts) [] i t u e f = absurd (cc)
sames-step' r (x ∷ ts) (y ∷ us) zero t u e f =
    let p : x ≡ t = cc in let q : y ≡ u = cc in
    ap (λ w. same_tree (compared r w) (compared r y) && all_same (map (compared r) ts) (map (compared r) us)) p
    ∙ ap (λ w. same_tree (compared r t) (compared r w) && all_same (map (compared r) ts) (map (compared r) us)) q
sames-step' r (x ∷ ts) (y ∷ us) (suc i) t u e f = sames-step' r ts us i t u e f

pub sames-step : (r : modes.Regions) (ts us : List Tree) (i : ℕ) (t u : Tree) →
    slice_get ts i ≡ Some t → slice_get us i ≡ Some u →
    sames r ts us i ≡ same_tree (compared r t) (compared r u) && sames r ts us (i + 1)
sames-step r ts us i t u e f = rw add-one (sames-step' r ts us i t u e f)

pub sames-more : (r : modes.Regions) (ts us : List Tree) (i : ℕ) (t u : Tree) (b : Bool) →
    slice_get ts i ≡ Some t → slice_get us i ≡ Some u → same_tree (compared r t) (compared r u) ≡ true →
    sames r ts us i ≡ b → sames r ts us (i + 1) ≡ b
sames-more r ts us i t u b e f h k =
    ap (λ w. w && sames r ts us (i + 1)) (sym h) ∙ sym (sames-step r ts us i t u e f) ∙ k

pub sames-none : (r : modes.Regions) (ts us : List Tree) (i : ℕ) (t u : Tree) (b : Bool) →
    slice_get ts i ≡ Some t → slice_get us i ≡ Some u → same_tree (compared r t) (compared r u) ≡ false →
    sames r ts us i ≡ b → b ≡ false
sames-none r ts us i t u b e f h k =
    sym k ∙ sames-step r ts us i t u e f ∙ ap (λ w. w && sames r ts us (i + 1)) h

pub sames-end : (r : modes.Regions) (ts us : List Tree) (i : ℕ) → length ts ≡ i → length us ≡ i → sames r ts us i ≡ true
unfolding sames
sames-end r ts us i e f =
    let p : drop i ts ≡ [] = drop_all i ts (omega arith) in
    let q : drop i us ≡ [] = drop_all i us (omega arith) in
    rw (p, q) refl

sames-unequal : (r : modes.Regions) (ts us : List Tree) → length us ≢ length ts →
    all_same (map (compared r) ts) (map (compared r) us) ≡ false
sames-unequal r [] [] e = absurd (e refl)
sames-unequal r [] (u ∷ us) e = refl
sames-unequal r (t ∷ ts) [] e = refl
sames-unequal r (t ∷ ts) (u ∷ us) e =
    rw (sames-unequal r ts us (λ h. e (ap suc h))) (and-false (same_tree (compared r t) (compared r u)))

pub sames-lengths : (r : modes.Regions) (ts us : List Tree) → length us ≢ length ts → sames r ts us 0 ≡ false
unfolding sames
sames-lengths r ts us e = sames-unequal r ts us e

same_row-list : (ts : Trees) (us : List Tree) → same_row ts us ≡ all_same (list_of ts) us
unfolding same_tree
same_row-list none [] = refl
same_row-list none (u ∷ us) = refl
same_row-list (more t ts) [] = refl
same_row-list (more t ts) (u ∷ us) = ap (λ b. same_tree t u && b) (same_row-list ts us)

same_tree-parts : (t u : Tree) → same_tree t u ≡ same_node (node_of t) (node_of u) && all_same (parts_of t) (parts_of u)
unfolding same_tree same_node
same_tree-parts (node h ts) u = ap (λ b. same_node (nodes.Head h) (node_of u) && b) (same_row-list ts (parts_of u))
same_tree-parts (alias k ts) u = ap (λ b. same_node (nodes.Alias k) (node_of u) && b) (same_row-list ts (parts_of u))
same_tree-parts (variable v) (node h us) = refl
same_tree-parts (variable v) (alias h us) = refl
same_tree-parts (variable v) (variable w) = sym (and-true (same_node (nodes.Variable v) (nodes.Variable w)))

list_of-erased : (ts : Trees) → list_of (erased_row ts) ≡ map erased (list_of ts)
unfolding erased
list_of-erased none = refl
list_of-erased (more t ts) = ap (λ us. erased t ∷ us) (list_of-erased ts)

map_itself : (ts : List Tree) → map (λ t. t) ts ≡ ts
map_itself [] = refl
map_itself (t ∷ ts) = ap (λ us. t ∷ us) (map_itself ts)

pub parts_of-compared : (r : modes.Regions) (t : Tree) → parts_of (compared r t) ≡ map (compared r) (parts_of t)
unfolding erased
parts_of-compared Compared t = sym (map_itself (parts_of t))
parts_of-compared Forgotten (node h ts) = list_of-erased ts
parts_of-compared Forgotten (alias k ts) = list_of-erased ts
parts_of-compared Forgotten (variable v) = refl

pub node_of-compared : (r : modes.Regions) (t : Tree) → node_of (compared r t) ≡ compared_node r (node_of t)
unfolding erased
node_of-compared Compared t = refl
node_of-compared Forgotten (node h ts) = refl
node_of-compared Forgotten (alias k ts) = refl
node_of-compared Forgotten (variable v) = refl

pub same_tree-walk : (r : modes.Regions) (t u : Tree) →
    same_tree (compared r t) (compared r u) ≡ same_node (compared_node r (node_of t)) (compared_node r (node_of u)) && sames r (parts_of t) (parts_of u) 0
unfolding sames
same_tree-walk r t u =
    same_tree-parts (compared r t) (compared r u)
    ∙ ap (λ n. same_node n (node_of (compared r u)) && all_same (parts_of (compared r t)) (parts_of (compared r u))) (node_of-compared r t)
    ∙ ap (λ n. same_node (compared_node r (node_of t)) n && all_same (parts_of (compared r t)) (parts_of (compared r u))) (node_of-compared r u)
    ∙ ap (λ ps. same_node (compared_node r (node_of t)) (compared_node r (node_of u)) && all_same ps (parts_of (compared r u))) (parts_of-compared r t)
    ∙ ap (λ ps. same_node (compared_node r (node_of t)) (compared_node r (node_of u)) && all_same (map (compared r) (parts_of t)) ps) (parts_of-compared r u)

-- what a comparison of two terms goes by
pub ruleset walking = (same_tree-walk, sames-step, sames-end, sames-lengths, tree_size-part)
