use Rattle.std.proofs.Common.{◌≡◌, ◌+◌, ◌≤◌, ◌<◌, ap, ◌∙◌, sym, subst, length, map, List, arith}
use Rattle.std.specs.Prelude.{IfOk, slice_get}
use Rattle.std.specs.List.{All}
use Rattle.goal_terms.specs.Folding.{folded, instantiating, shifted}
use Rattle.goal_terms.specs.Sorts.{IsArgument}
use Rattle.goal_interner.specs.TableMeaning.{tree_at, AreBelow, IsOnly}
use Rattle.goal_terms.specs.Tops.{argument_for, folded_top}
use Rattle.goal_terms.specs.Tree.{Tree, parts_of, tree_size}
use Rattle.goal_terms.specs.TreeWith.{tree_with}
use Rattle.goal_terms.specs.View.{tree_of_ref, trees_seen}
use Rattle.goal_terms.proofs.FitLemmas.{ref_fit}
use Rattle.goal_interner.proofs.GrowthLemmas.{instantiated-size, grown-by_part, grown-by_all}
use Rattle.goal_interner.proofs.InternLemmas.{keeps-chain, within-pushed, trees-pushed}
use Rattle.goal_terms.proofs.SizeLemmas.{sizes, sizes-more}
use Rattle.goal_terms.proofs.WalkLemmas.{tree_size-part}
use Rattle.goal_interner.proofs.UnderLemmas.{instantiating-sorts, made-fits, instantiated-made, instantiated-param, trees-same, below-longer, part-seen, node-fits, all-rewritten}
use Rattle.goal_interner.proofs.term_table.TermTable.+intern_below.Goals as goal

-- an argument in place of a parameter
param_here : (t : _) (c : goal.After-shift_whole t) →
    shifted c.args.binders 0 (tree_at c.args.self.now c.in-Some.arg)
    ≡ folded (instantiating (map (tree_at c.args.self.now) c.args.args.now)) c.args.binders (tree_of_ref c.args.term)
param_here t c =
    sym (instantiated-param (map (tree_at c.args.self.now) c.args.args.now) c.args.binders (tree_of_ref c.args.term) _
    (ap (argument_for (map (tree_at c.args.self.now) c.args.args.now)) (sym c.node-node.ensures) ∙ sym c.in-Some.ensures.tree))

pub returns-in-Some-clause-tree : goal.returns-in-Some-clause-tree
returns-in-Some-clause-tree t c =
    subst (λ u. IfOk c.shift_whole.result (λ id. tree_at c.shift_whole.new.self id ≡ u)) (param_here t c) c.shift_whole.ensures.tree

pub returns-in-Some-clause-only : goal.returns-in-Some-clause-only
returns-in-Some-clause-only t c =
    subst (λ u. IfOk c.shift_whole.result (λ id. IsOnly c.shift_whole.new.self id u)) (param_here t c) c.shift_whole.ensures.only

pub intern_below-requires : goal.intern_below-requires
intern_below-requires t c =
    let smaller : tree_size (tree_of_ref c.at.result) < tree_size (tree_of_ref c.args.term) =
    tree_size-part (tree_of_ref c.args.term) c.loop-i.i (tree_of_ref c.at.result)
    (ap (λ ts. slice_get ts c.loop-i.i) (sym c.parts-parts.ensures) ∙ c.at.ensures) in (
      omega arith,
      (
        below-longer c.args.self.now c.loop-i.self c.args.args.now c.loop-i.invariant.kept c.requires.within,
        subst (All IsArgument) (sym (trees-same c.args.self.now c.loop-i.self c.args.args.now c.loop-i.invariant.kept c.requires.within)) c.requires.arguments,
      ),
    )

pub returns-in-Some-clause-grown : goal.returns-in-Some-clause-grown
returns-in-Some-clause-grown t c =
    subst (λ u. length c.shift_whole.new.self ≤ length c.args.self.now + tree_size u) (param_here t c) c.shift_whole.ensures.grown

pub loop-i-preserved : goal.loop-i-preserved
loop-i-preserved t c = record {
  grown =
      let args : List Tree = map (tree_at c.args.self.now) c.args.args.now in
      let more : length c.intern_below.new.self ≤ length c.loop-i.self + tree_size (folded (instantiating args) c.binders_below-below.result (tree_of_ref c.at.result)) =
      subst (λ us. length c.intern_below.new.self ≤ length c.loop-i.self + tree_size (folded (instantiating us) c.binders_below-below.result (tree_of_ref c.at.result)))
      (trees-same c.args.self.now c.loop-i.self c.args.args.now c.loop-i.invariant.kept c.requires.within) c.in_ok-number.ensures.grown in
      omega (
        arith,
        more,
        c.loop-i.invariant.grown,
        sizes-more (map (folded (instantiating args) c.binders_below-below.result) (trees_seen c.parts-parts.result)) c.loop-i.i _
            (part-seen (folded (instantiating args) c.binders_below-below.result) (trees_seen c.parts-parts.result) _ c.loop-i.i c.at.ensures),
      );
  kept = keeps-chain _ _ _ c.loop-i.invariant.kept c.in_ok-number.ensures.kept;
  within =
      subst (AreBelow (length c.intern_below.new.self)) (sym c.in_ok-push.ensures.items)
      (within-pushed c.loop-i.self c.intern_below.new.self c.loop-i.numbers.items c.in_ok-number.number c.in_ok-number.ensures.kept
      c.loop-i.invariant.within c.in_ok-number.ensures.within);
  trees =
      ap (map (tree_at c.intern_below.new.self)) c.in_ok-push.ensures.items
      ∙ trees-pushed c.loop-i.self c.intern_below.new.self c.loop-i.numbers.items c.in_ok-number.number _ c.loop-i.i _
      c.in_ok-number.ensures.kept c.loop-i.invariant.within c.loop-i.invariant.trees
      (c.in_ok-number.ensures.tree
      ∙ ap (λ args. folded (instantiating args) c.binders_below-below.result (tree_of_ref c.at.result))
      (trees-same c.args.self.now c.loop-i.self c.args.args.now c.loop-i.invariant.kept c.requires.within))
      (part-seen (folded (instantiating (map (tree_at c.args.self.now) c.args.args.now)) c.binders_below-below.result) (trees_seen c.parts-parts.result) _
      c.loop-i.i c.at.ensures);
}

pub intern_node-requires-clause-fits : goal.intern_node-requires-clause-fits
intern_node-requires-clause-fits t c =
    let args : List Tree = map (tree_at c.args.self.now) c.args.args.now in
    let all : length (trees_seen c.parts-parts.result) ≤ c.loop-i.i = omega arith in
    made-fits (instantiating args) (instantiating-sorts args c.requires.arguments) c.args.binders c.binders_below-below.result c.node-node.result
    c.node_under-top.result (parts_of (tree_of_ref c.args.term)) _ (node-fits (tree_of_ref c.args.term) c.node-node.result c.node-node.ensures (ref_fit c.args.term))
    (c.node_under-top.ensures
    ∙ ap (λ us. folded_top (instantiating us) c.args.binders c.node-node.result)
    (trees-same c.args.self.now c.loop-i.self c.args.args.now c.loop-i.invariant.kept c.requires.within))
    (all-rewritten (folded (instantiating args) c.binders_below-below.result) _ _ _ c.loop-i.i c.loop-i.invariant.trees all c.parts-parts.ensures)

made_here : (t : _) (c : goal.After-intern_node t) →
    tree_with c.node_under-top.result (map (tree_at c.loop-i.self) c.loop-i.numbers.items)
    ≡ folded (instantiating (map (tree_at c.args.self.now) c.args.args.now)) c.args.binders (tree_of_ref c.args.term)
made_here t c =
    let args : List Tree = map (tree_at c.args.self.now) c.args.args.now in
    let all : length (trees_seen c.parts-parts.result) ≤ c.loop-i.i = omega arith in
    instantiated-made args c.requires.arguments c.args.binders c.binders_below-below.result (tree_of_ref c.args.term) c.node-node.result
    c.node_under-top.result _ (sym c.in_default.ensures.tree) c.node-node.ensures
    (node-fits (tree_of_ref c.args.term) c.node-node.result c.node-node.ensures (ref_fit c.args.term)) c.binders_below-below.ensures
    (c.node_under-top.ensures
    ∙ ap (λ us. folded_top (instantiating us) c.args.binders c.node-node.result)
    (trees-same c.args.self.now c.loop-i.self c.args.args.now c.loop-i.invariant.kept c.requires.within))
    (all-rewritten (folded (instantiating args) c.binders_below-below.result) _ _ _ c.loop-i.i c.loop-i.invariant.trees all c.parts-parts.ensures)

pub returns-clause-tree : goal.returns-clause-tree
returns-clause-tree t c =
    subst (λ u. IfOk c.intern_node.result (λ id. tree_at c.intern_node.new.self id ≡ u)) (made_here t c) c.intern_node.ensures.tree

pub returns-clause-only : goal.returns-clause-only
returns-clause-only t c =
    subst (λ u. IfOk c.intern_node.result (λ id. IsOnly c.intern_node.new.self id u)) (made_here t c) c.intern_node.ensures.only

pub returns-clause-grown : goal.returns-clause-grown
returns-clause-grown t c =
    grown-by_all _ c.loop-i.i (length c.args.self.now) (length c.loop-i.self) (length c.intern_node.new.self) _
    (instantiated-size (map (tree_at c.args.self.now) c.args.args.now) c.requires.arguments c.args.binders c.binders_below-below.result (tree_of_ref c.args.term)
    c.node-node.result (sym c.in_default.ensures.tree) c.node-node.ensures
    (node-fits (tree_of_ref c.args.term) c.node-node.result c.node-node.ensures (ref_fit c.args.term)) c.binders_below-below.ensures
    ∙ ap (λ us. sizes (map (folded (instantiating (map (tree_at c.args.self.now) c.args.args.now)) c.binders_below-below.result) us) + 1) (sym c.parts-parts.ensures))
    c.loop-i.invariant.grown c.intern_node.ensures.grown

pub returns-in_err-number-clause-grown : goal.returns-in_err-number-clause-grown
returns-in_err-number-clause-grown t c =
    let args : List Tree = map (tree_at c.args.self.now) c.args.args.now in
    let more : length c.intern_below.new.self ≤ length c.loop-i.self + tree_size (folded (instantiating args) c.binders_below-below.result (tree_of_ref c.at.result)) =
    subst (λ us. length c.intern_below.new.self ≤ length c.loop-i.self + tree_size (folded (instantiating us) c.binders_below-below.result (tree_of_ref c.at.result)))
    (trees-same c.args.self.now c.loop-i.self c.args.args.now c.loop-i.invariant.kept c.requires.within) c.in_err-number.ensures.grown in
    grown-by_part _ c.loop-i.i _ (length c.args.self.now) (length c.loop-i.self) (length c.intern_below.new.self) _
    (part-seen (folded (instantiating (map (tree_at c.args.self.now) c.args.args.now)) c.binders_below-below.result) (trees_seen c.parts-parts.result) _
    c.loop-i.i c.at.ensures)
    (instantiated-size (map (tree_at c.args.self.now) c.args.args.now) c.requires.arguments c.args.binders c.binders_below-below.result (tree_of_ref c.args.term)
    c.node-node.result (sym c.in_default.ensures.tree) c.node-node.ensures
    (node-fits (tree_of_ref c.args.term) c.node-node.result c.node-node.ensures (ref_fit c.args.term)) c.binders_below-below.ensures
    ∙ ap (λ us. sizes (map (folded (instantiating (map (tree_at c.args.self.now) c.args.args.now)) c.binders_below-below.result) us) + 1) (sym c.parts-parts.ensures))
    c.loop-i.invariant.grown more

pub returns-in_err-push-clause-grown : goal.returns-in_err-push-clause-grown
returns-in_err-push-clause-grown t c =
    let args : List Tree = map (tree_at c.args.self.now) c.args.args.now in
    let more : length c.intern_below.new.self ≤ length c.loop-i.self + tree_size (folded (instantiating args) c.binders_below-below.result (tree_of_ref c.at.result)) =
    subst (λ us. length c.intern_below.new.self ≤ length c.loop-i.self + tree_size (folded (instantiating us) c.binders_below-below.result (tree_of_ref c.at.result)))
    (trees-same c.args.self.now c.loop-i.self c.args.args.now c.loop-i.invariant.kept c.requires.within) c.in_ok-number.ensures.grown in
    grown-by_part _ c.loop-i.i _ (length c.args.self.now) (length c.loop-i.self) (length c.intern_below.new.self) _
    (part-seen (folded (instantiating (map (tree_at c.args.self.now) c.args.args.now)) c.binders_below-below.result) (trees_seen c.parts-parts.result) _
    c.loop-i.i c.at.ensures)
    (instantiated-size (map (tree_at c.args.self.now) c.args.args.now) c.requires.arguments c.args.binders c.binders_below-below.result (tree_of_ref c.args.term)
    c.node-node.result (sym c.in_default.ensures.tree) c.node-node.ensures
    (node-fits (tree_of_ref c.args.term) c.node-node.result c.node-node.ensures (ref_fit c.args.term)) c.binders_below-below.ensures
    ∙ ap (λ us. sizes (map (folded (instantiating (map (tree_at c.args.self.now) c.args.args.now)) c.binders_below-below.result) us) + 1) (sym c.parts-parts.ensures))
    c.loop-i.invariant.grown more
