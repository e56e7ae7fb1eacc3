-- How many nodes a rewritten term has, and how much a table grows by its parts.
use Rattle.std.proofs.Common.{◌≡◌, ℕ, ◌+◌, ◌≤◌, List, length, map, take, Some, None, sym, ap, ◌∙◌, refl, arith}
use Rattle.std.specs.Prelude.{slice_get}
use Rattle.std.specs.List.{All}
use Rattle.goal_terms.specs.Folding.{folded, shifting, shifted, instantiating}
use Rattle.goal_terms.specs.Sorts.{IsArgument, Fits}
use Rattle.goal_terms.specs.Tops.{depth_of_parts, folded_top, argument_for}
use Rattle.goal_terms.specs.Tree.{Tree, node_of, parts_of, tree_size}
use Rattle.goal_terms.specs.TreeWith.{tree_with}
use Rattle.goal_terms.specs.declared.heads.Node.{Node}
use Rattle.goal_terms.proofs.SizeLemmas.{sizes, tree_size-parts, sizes-more, sizes-take}
use Rattle.goal_interner.proofs.TableLemmas.{parts_of-tree_with}
use Rattle.goal_interner.proofs.UnderLemmas.{shifting-sorts, instantiating-sorts, folded-fits, shifted-made, instantiated-made}

-- a term has one node more than its parts
tree_size-with : (n : Node) (us : List Tree) → Fits n us → tree_size (tree_with n us) ≡ sizes us + 1
tree_size-with n us fits = tree_size-parts (tree_with n us) ∙ ap (λ vs. sizes vs + 1) (parts_of-tree_with n us fits)

pub shifted-size : (by d e : ℕ) (t : Tree) (n : Node) → n ≡ node_of t → Fits n (parts_of t) → e ≡ depth_of_parts n d →
    tree_size (shifted by d t) ≡ sizes (map (folded (shifting by) e) (parts_of t)) + 1
shifted-size by d e t n top fits depth =
    let us : List Tree = map (folded (shifting by) e) (parts_of t) in
    ap tree_size (sym (shifted-made by d e t n (folded_top (shifting by) d n) us top fits depth refl refl))
    ∙ tree_size-with (folded_top (shifting by) d n) us (folded-fits (shifting by) (shifting-sorts by) d e n (parts_of t) fits)

pub instantiated-size : (args : List Tree) → All IsArgument args → (d e : ℕ) (t : Tree) (n : Node) → argument_for args n ≡ None →
    n ≡ node_of t → Fits n (parts_of t) → e ≡ depth_of_parts n d →
    tree_size (folded (instantiating args) d t) ≡ sizes (map (folded (instantiating args) e) (parts_of t)) + 1
instantiated-size args all d e t n unfilled top fits depth =
    let us : List Tree = map (folded (instantiating args) e) (parts_of t) in
    ap tree_size (sym (instantiated-made args all d e t n (folded_top (instantiating args) d n) us unfilled top fits depth refl refl))
    ∙ tree_size-with (folded_top (instantiating args) d n) us (folded-fits (instantiating args) (instantiating-sorts args all) d e n (parts_of t) fits)

-- after a part: the parts so far are no more than all of them
pub grown-by_part : (ts : List Tree) (i : ℕ) (t : Tree) (old mid new whole : ℕ) → slice_get ts i ≡ Some t → whole ≡ sizes ts + 1 →
    mid ≤ old + sizes (take i ts) → new ≤ mid + tree_size t → new ≤ old + whole
grown-by_part ts i t old mid new whole e f h k = omega (arith, sizes-more ts i t e, sizes-take ts (i + 1), f)

pub grown-by_all : (ts : List Tree) (i : ℕ) (old mid new whole : ℕ) → whole ≡ sizes ts + 1 →
    mid ≤ old + sizes (take i ts) → new ≤ mid + 1 → new ≤ old + whole
grown-by_all ts i old mid new whole f h k = omega (arith, sizes-take ts i, f)
