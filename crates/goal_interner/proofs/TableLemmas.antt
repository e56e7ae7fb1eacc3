-- The trees of a table: appending a node changes none of them.
use Rattle.std.proofs.Common.{◌≡◌, ◌⊎◌, ℕ, zero, suc, ◌+◌, ◌<◌, ◌≤◌, Bool, true, false, ◌||◌, List, [], ◌∷◌, ◌++◌, length, map, Some, refl, sym, ap, ◌∙◌, inl, inr, arith, length-append, subst}
use Rattle.std.specs.Prelude.{slice_get}
use Rattle.std.specs.List.{list_any}
use Rattle.std.proofs.lemmas.Bool.{false≢true}
use Rattle.std.proofs.lemmas.Option.{slice_get-get_or, get_or_from_slice_get}
use Rattle.std.proofs.lemmas.List.Elements.{All-head, All-tail}
use Rattle.goal_terms.specs.Tree.{Tree, node_of, parts_of}
use Rattle.goal_terms.specs.TreeOf.{leaf}
use Rattle.goal_terms.specs.TreeWith.{tree_with}
use Rattle.goal_terms.specs.Sorts.{Fits}
use Rattle.goal_interner.specs.TableMeaning.{tree_at, AreBelow, trees_after, trees_of_nodes, AreDistinct, IsTable}
use Rattle.goal_terms.specs.declared.heads.Head.TheVariants as head
use Rattle.goal_terms.specs.declared.heads.Node.{Node}
use Rattle.goal_terms.specs.declared.heads.Node.TheVariants as nodes
use Rattle.goal_interner.specs.declared.term_nodes.TermId.{TermId}
use Rattle.goal_interner.specs.declared.term_nodes.TermNode.{TermNode}
use Rattle.goal_terms.proofs.TreeLemmas.{list_of-forest}

either_false : (a b : Bool) → a || b ≡ false → (a ≡ false) × (b ≡ false)
either_false true b e = absurd (false≢true (sym e))
either_false false b e = (refl, e)

module _ {A : Type 0} where
  pub slice_get-front : (xs ys : List A) (k : ℕ) (x : A) → slice_get xs k ≡ Some x → slice_get (xs ++ ys) k ≡ Some x
  slice_get-front [] ys k x e = absurd (cc)
  slice_get-front (z ∷ xs) ys zero x e = e
  slice_get-front (z ∷ xs) ys (suc k) x e = slice_get-front xs ys k x e

  pub slice_get-seam : (xs : List A) (x : A) (k : ℕ) → k ≡ length xs → slice_get (xs ++ x ∷ []) k ≡ Some x
  slice_get-seam [] x k e = ap (slice_get (x ∷ [])) e
  slice_get-seam (z ∷ xs) x zero e = absurd (omega arith)
  slice_get-seam (z ∷ xs) x (suc k) e = slice_get-seam xs x k (omega arith)

  pub slice_get-push : (xs : List A) (y : A) (k : ℕ) (x : A) → slice_get (xs ++ y ∷ []) k ≡ Some x →
      (slice_get xs k ≡ Some x) ⊎ ((k ≡ length xs) × (y ≡ x))
  slice_get-push [] y zero x e = inr (refl, cc)
  slice_get-push [] y (suc k) x e = absurd (cc)
  slice_get-push (z ∷ xs) y zero x e = inl e
  slice_get-push (z ∷ xs) y (suc k) x e =
      elim (slice_get-push xs y k x e) [ inl p ↦ inl p | inr p ↦ inr (ap suc p.0, p.1) ]

  pub list_any-none : (test : A → Bool) (xs : List A) (k : ℕ) (x : A) → slice_get xs k ≡ Some x → list_any test xs ≡ false → test x ≡ false
  list_any-none test [] k x e h = absurd (cc)
  list_any-none test (z ∷ xs) zero x e h =
      let same : z ≡ x = cc in ap test (sym same) ∙ (either_false (test z) (list_any test xs) h).0
  list_any-none test (z ∷ xs) (suc k) x e h = list_any-none test xs k x e (either_false (test z) (list_any test xs) h).1

-- each number of a list of trees has the same tree in another list
abbrev pub IsKept : List Tree → List Tree → Type 0
IsKept old new = (k : ℕ) (t : Tree) → slice_get old k ≡ Some t → slice_get new k ≡ Some t

-- a tree by its number
pub tree_at-get : (ts : List Tree) (id : TermId) (t : Tree) → slice_get ts id.0 ≡ Some t → tree_at ts id ≡ t
unfolding tree_at
tree_at-get ts id t e = get_or_from_slice_get ts id.0 t (leaf head.Bool) e

pub get-tree_at : (ts : List Tree) (id : TermId) → id.0 < length ts → slice_get ts id.0 ≡ Some (tree_at ts id)
unfolding tree_at
get-tree_at ts id l = slice_get-get_or ts id.0 (leaf head.Bool) l

pub tree_at-kept : (old new : List Tree) → IsKept old new → (id : TermId) → id.0 < length old → tree_at new id ≡ tree_at old id
tree_at-kept old new keeps id l = tree_at-get new id (tree_at old id) (keeps id.0 (tree_at old id) (get-tree_at old id l))

pub trees-kept : (old new : List Tree) → IsKept old new → (bound : ℕ) → bound ≤ length old → (ids : List TermId) → AreBelow bound ids →
    map (tree_at new) ids ≡ map (tree_at old) ids
trees-kept old new keeps bound l [] below = refl
trees-kept old new keeps bound l (id ∷ ids) below =
    let here : id.0 < bound = All-head (λ i. i.0 < bound) id ids below in
    let within : id.0 < length old = omega arith in
    ap (λ t. t ∷ map (tree_at new) ids) (tree_at-kept old new keeps id within)
    ∙ ap (λ ts. tree_at old id ∷ ts) (trees-kept old new keeps bound l ids (All-tail (λ i. i.0 < bound) id ids below))

-- the trees after further nodes
pub kept_after : (ts : List Tree) (ns : List TermNode) → IsKept ts (trees_after ts ns)
unfolding trees_after
kept_after ts [] k t e = e
kept_after ts (n ∷ ns) k t e =
    let new : Tree = tree_with n.node (map (tree_at ts) n.parts.items) in
    kept_after (ts ++ new ∷ []) ns k t (slice_get-front ts (new ∷ []) k t e)

pub length-trees_after : (ts : List Tree) (ns : List TermNode) → length (trees_after ts ns) ≡ length ts + length ns
unfolding trees_after
length-trees_after ts [] = omega arith
length-trees_after ts (n ∷ ns) =
    let new : Tree = tree_with n.node (map (tree_at ts) n.parts.items) in
    omega (arith, length-trees_after (ts ++ new ∷ []) ns, length-append ts (new ∷ []))

pub trees_after-push : (ts : List Tree) (ns : List TermNode) (n : TermNode) →
    trees_after ts (ns ++ n ∷ []) ≡ trees_after ts ns ++ tree_with n.node (map (tree_at (trees_after ts ns)) n.parts.items) ∷ []
unfolding trees_after
trees_after-push ts [] n = refl
trees_after-push ts (m ∷ ns) n = trees_after-push (ts ++ tree_with m.node (map (tree_at ts) m.parts.items) ∷ []) ns n

-- the tree of a node, over the trees of all
node_after : (ts : List Tree) (ns : List TermNode) (i j : ℕ) (n : TermNode) → slice_get ns i ≡ Some n → j ≡ length ts + i → AreBelow j n.parts.items →
    slice_get (trees_after ts ns) j ≡ Some (tree_with n.node (map (tree_at (trees_after ts ns)) n.parts.items))
unfolding trees_after
node_after ts [] i j n e at below = absurd (cc)
node_after ts (m ∷ ns) zero j n e at below =
    let same : m ≡ n = cc in
    let new : Tree = tree_with m.node (map (tree_at ts) m.parts.items) in
    let all : List Tree = trees_after (ts ++ new ∷ []) ns in
    kept_after (ts ++ new ∷ []) ns j new (slice_get-seam ts new j (omega arith))
    ∙ ap (λ k. Some (tree_with k.node (map (tree_at ts) k.parts.items))) same
    ∙ ap (λ us. Some (tree_with n.node us)) (sym (trees-kept ts all (kept_after ts (m ∷ ns)) j (omega arith) n.parts.items below))
node_after ts (m ∷ ns) (suc i) j n e at below =
    let new : Tree = tree_with m.node (map (tree_at ts) m.parts.items) in
    node_after (ts ++ new ∷ []) ns i j n e (omega (arith, length-append ts (new ∷ []))) below

pub length-trees : (ns : List TermNode) → length (trees_of_nodes ns) ≡ length ns
length-trees ns = omega (arith, length-trees_after [] ns)

pub node_in : (ns : List TermNode) → IsTable ns → (i : ℕ) (n : TermNode) → slice_get ns i ≡ Some n →
    slice_get (trees_of_nodes ns) i ≡ Some (tree_with n.node (map (tree_at (trees_of_nodes ns)) n.parts.items))
node_in ns table i n e = node_after [] ns i i n e (omega arith) (table.earlier i n e)

-- a tree from its top and its parts
pub node_of-tree_with : (n : Node) (ts : List Tree) → node_of (tree_with n ts) ≡ n
node_of-tree_with (nodes.Head h) ts = refl
node_of-tree_with (nodes.Alias k) ts = refl
node_of-tree_with (nodes.Variable v) ts = refl

pub parts_of-tree_with : (n : Node) (ts : List Tree) → Fits n ts → parts_of (tree_with n ts) ≡ ts
parts_of-tree_with (nodes.Head h) ts fits = list_of-forest ts
parts_of-tree_with (nodes.Alias k) ts fits = list_of-forest ts
parts_of-tree_with (nodes.Variable v) ts fits = sym fits

-- numbers of distinct trees
pub same_id : (a b : TermId) → a.0 ≡ b.0 → a ≡ b
same_id a b e = ap (λ n. record { 0 = n }) e

pub same_number : (ts : List Tree) → AreDistinct ts → (a b : TermId) → a.0 < length ts → b.0 < length ts → tree_at ts a ≡ tree_at ts b → a ≡ b
same_number ts distinct a b la lb e =
    same_id a b (distinct a.0 b.0 (tree_at ts b) (get-tree_at ts a la ∙ ap Some e) (get-tree_at ts b lb))

pub same_numbers : (ts : List Tree) → AreDistinct ts → (is js : List TermId) → AreBelow (length ts) is → AreBelow (length ts) js →
    map (tree_at ts) is ≡ map (tree_at ts) js → is ≡ js
same_numbers ts distinct [] [] li lj e = refl
same_numbers ts distinct [] (j ∷ js) li lj e = absurd (cc)
same_numbers ts distinct (i ∷ is) [] li lj e = absurd (cc)
same_numbers ts distinct (i ∷ is) (j ∷ js) li lj e =
    let here : tree_at ts i ≡ tree_at ts j = cc in
    let rest : map (tree_at ts) is ≡ map (tree_at ts) js = cc in
    let first : i ≡ j = same_number ts distinct i j (All-head (λ k. k.0 < length ts) i is li) (All-head (λ k. k.0 < length ts) j js lj) here in
    ap (λ x. x ∷ is) first ∙ ap (λ xs. j ∷ xs) (same_numbers ts distinct is js (All-tail (λ k. k.0 < length ts) i is li) (All-tail (λ k. k.0 < length ts) j js lj) rest)

-- what a table says of a number
tree_read : (ns : List TermNode) (ts : List Tree) → IsTable ns → trees_of_nodes ns ≡ ts → (id : TermId) (n : TermNode) → slice_get ns id.0 ≡ Some n →
    tree_at ts id ≡ tree_with n.node (map (tree_at ts) n.parts.items)
tree_read ns ts table e id n at =
    let P : List Tree → Type 0 = λ us. tree_at us id ≡ tree_with n.node (map (tree_at us) n.parts.items) in
    subst P e (tree_at-get (trees_of_nodes ns) id _ (node_in ns table id.0 n at))

pub node_read : (ns : List TermNode) (ts : List Tree) → IsTable ns → trees_of_nodes ns ≡ ts → (id : TermId) (n : TermNode) → slice_get ns id.0 ≡ Some n →
    n.node ≡ node_of (tree_at ts id)
node_read ns ts table e id n at =
    sym (ap node_of (tree_read ns ts table e id n at) ∙ node_of-tree_with n.node (map (tree_at ts) n.parts.items))

pub fits_read : (ns : List TermNode) (ts : List Tree) → IsTable ns → trees_of_nodes ns ≡ ts → (i : ℕ) (n : TermNode) → slice_get ns i ≡ Some n →
    Fits n.node (map (tree_at ts) n.parts.items)
fits_read ns ts table e i n at =
    let P : List Tree → Type 0 = λ us. Fits n.node (map (tree_at us) n.parts.items) in subst P e (table.fits i n at)

pub parts_read : (ns : List TermNode) (ts : List Tree) → IsTable ns → trees_of_nodes ns ≡ ts → (id : TermId) (n : TermNode) → slice_get ns id.0 ≡ Some n →
    map (tree_at ts) n.parts.items ≡ parts_of (tree_at ts id)
parts_read ns ts table e id n at =
    sym (ap parts_of (tree_read ns ts table e id n at) ∙ parts_of-tree_with n.node (map (tree_at ts) n.parts.items) (fits_read ns ts table e id.0 n at))

-- the table without nodes
pub table-none : IsTable []
unfolding trees_after
table-none = record {
  earlier = λ i n e. absurd (cc);
  fits = λ i n e. absurd (cc);
  distinct = λ i j t e f. absurd (cc);
  small = omega arith;
}

pub trees-none : trees_of_nodes [] ≡ []
unfolding trees_after
trees-none = refl

pub number_within : (ns : List TermNode) (ts : List Tree) (ms : List TermNode) → trees_of_nodes ns ≡ ts → ms ≡ ns → (i : ℕ) → i < length ts → i < length ms
number_within ns ts ms e f i l = omega (arith, ap length e, ap length f, length-trees ns)

pub fits_at : (ns : List TermNode) (ts : List Tree) → IsTable ns → trees_of_nodes ns ≡ ts → (id : TermId) (n : TermNode) → slice_get ns id.0 ≡ Some n →
    Fits n.node (parts_of (tree_at ts id))
fits_at ns ts table e id n at = subst (Fits n.node) (parts_read ns ts table e id n at) (fits_read ns ts table e id.0 n at)

pub ruleset table_facts = (length-trees)
