-- Shifting by nothing leaves the terms of a table as they are.
use Rattle.std.proofs.Common.{◌≡◌, ℕ, zero, suc, ◌<◌, Bool, true, false, List, [], ◌∷◌, length, map, Some, refl, sym, ap, ◌∙◌, arith}
use Rattle.std.specs.Prelude.{slice_get, nat_lt, if◌then◌else◌}
use Rattle.std.proofs.lemmas.List.Elements.{All-head, All-tail}
use Rattle.goal_terms.specs.Folding.{depth_below, folded_node, folded, shifted_region, shifting, shifted}
use Rattle.goal_terms.specs.Sorts.{HeadFits, Fits}
use Rattle.goal_interner.specs.TableMeaning.{tree_at, AreBelow, trees_of_nodes, IsTable}
use Rattle.goal_terms.specs.Tree.{Tree, node, alias, forest}
use Rattle.goal_terms.specs.TreeWith.{tree_with}
use Rattle.goal_terms.specs.declared.heads.Head.{Head}
use Rattle.goal_terms.specs.declared.heads.Head.TheVariants as head
use Rattle.goal_terms.specs.declared.heads.Node.{Node}
use Rattle.goal_terms.specs.declared.heads.Node.TheVariants as nodes
use Rattle.goal_interner.specs.declared.term_nodes.TermId.{TermId}
use Rattle.goal_interner.specs.declared.term_nodes.TermNode.{TermNode}
use Rattle.goal_terms.specs.declared.terms.Region.{Region}
use Rattle.goal_terms.specs.declared.terms.Region.TheVariants as regions
use Rattle.goal_terms.proofs.FoldLemmas.{folded_row-forest}
use Rattle.goal_interner.proofs.TableLemmas.{node_in, tree_at-get}

either_way : (b : Bool) (r : Region) → (if b then r else r) ≡ r
either_way true r = refl
either_way false r = refl

shifted_region-0 : (d : ℕ) (r : Region) → shifted_region 0 d r ≡ r
unfolding shifted_region
shifted_region-0 d (regions.Bound b k) = either_way (nat_lt b d) (regions.Bound b k)
shifted_region-0 d r = refl

-- a parameter has no parts
shifted_node-0 : (d : ℕ) (h : Head) (ts : List Tree) → HeadFits h ts → folded_node (shifting 0) d h (forest ts) ≡ node h (forest ts)
unfolding folded_node
shifted_node-0 d (head.Ref r m) ts fits = ap (λ s. node (head.Ref s m) (forest ts)) (shifted_region-0 d r)
shifted_node-0 d (head.Dynamic n r) ts fits = ap (λ s. node (head.Dynamic n s) (forest ts)) (shifted_region-0 d r)
shifted_node-0 d (head.Lifetime r) ts fits = ap (λ s. node (head.Lifetime s) (forest ts)) (shifted_region-0 d r)
shifted_node-0 d (head.TyParam n) ts fits = ap (λ us. node (head.TyParam n) (forest us)) (sym fits)
shifted_node-0 d (head.ConstParam n) ts fits = ap (λ us. node (head.ConstParam n) (forest us)) (sym fits)
shifted_node-0 d h ts fits = refl

shifted_with-0 : (d : ℕ) (n : Node) (ts : List Tree) → Fits n ts → ((e : ℕ) → map (shifted 0 e) ts ≡ ts) → shifted 0 d (tree_with n ts) ≡ tree_with n ts
unfolding folded
shifted_with-0 d (nodes.Head h) ts fits same =
    ap (folded_node (shifting 0) d h) (folded_row-forest (shifting 0) (depth_below h d) ts ∙ ap forest (same (depth_below h d)))
    ∙ shifted_node-0 d h ts fits
shifted_with-0 d (nodes.Alias k) ts fits same = ap (alias k) (folded_row-forest (shifting 0) d ts ∙ ap forest (same d))
shifted_with-0 d (nodes.Variable v) ts fits same = refl

-- so do the parts of a node, which stand before it
shifted_parts-0 : (ts : List Tree) (bound : ℕ) → ((id : TermId) → id.0 < bound → (d : ℕ) → shifted 0 d (tree_at ts id) ≡ tree_at ts id) →
    (ids : List TermId) → AreBelow bound ids → (d : ℕ) → map (shifted 0 d) (map (tree_at ts) ids) ≡ map (tree_at ts) ids
shifted_parts-0 ts bound same [] below d = refl
shifted_parts-0 ts bound same (id ∷ ids) below d =
    ap (λ t. t ∷ map (shifted 0 d) (map (tree_at ts) ids)) (same id (All-head (λ i. i.0 < bound) id ids below) d)
    ∙ ap (λ us. tree_at ts id ∷ us) (shifted_parts-0 ts bound same ids (All-tail (λ i. i.0 < bound) id ids below) d)

node_at : (ns : List TermNode) (i : ℕ) → i < length ns → (n : TermNode) × (slice_get ns i ≡ Some n)
node_at [] i l = absurd (omega arith)
node_at (n ∷ ns) zero l = (n, refl)
node_at (n ∷ ns) (suc i) l = node_at ns i (omega arith)

shifted_below-0 : (ns : List TermNode) → IsTable ns → (bound : ℕ) (id : TermId) → id.0 < bound → id.0 < length ns → (d : ℕ) →
    shifted 0 d (tree_at (trees_of_nodes ns) id) ≡ tree_at (trees_of_nodes ns) id
shifted_below-0 ns table zero id l within d = absurd (omega arith)
shifted_below-0 ns table (suc b) id l within d =
    let ts : List Tree = trees_of_nodes ns in
    let found : (n : TermNode) × (slice_get ns id.0 ≡ Some n) = node_at ns id.0 within in
    let here : tree_at ts id ≡ tree_with found.0.node (map (tree_at ts) found.0.parts.items) =
    tree_at-get ts id _ (node_in ns table id.0 found.0 found.1) in
    let before : (i : TermId) → i.0 < id.0 → (e : ℕ) → shifted 0 e (tree_at ts i) ≡ tree_at ts i =
    λ i m e. shifted_below-0 ns table b i (omega arith) (omega arith) e in
    ap (shifted 0 d) here
    ∙ shifted_with-0 d found.0.node (map (tree_at ts) found.0.parts.items) (table.fits id.0 found.0 found.1)
    (shifted_parts-0 ts id.0 before found.0.parts.items (table.earlier id.0 found.0 found.1))
    ∙ sym here

pub shifted_number-0 : (ns : List TermNode) → IsTable ns → (id : TermId) → id.0 < length ns →
    shifted 0 0 (tree_at (trees_of_nodes ns) id) ≡ tree_at (trees_of_nodes ns) id
shifted_number-0 ns table id within = shifted_below-0 ns table (suc id.0) id (omega arith) within 0
