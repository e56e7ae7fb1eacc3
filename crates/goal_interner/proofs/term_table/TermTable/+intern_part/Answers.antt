use Rattle.std.proofs.Common.{◌≡◌, ap, ◌∙◌, sym, subst, length, map, arith}
use Rattle.std.specs.Prelude.{IfOk}
use Rattle.goal_terms.specs.Sorts.{Fits}
use Rattle.goal_terms.specs.Tree.{node_of, parts_of}
use Rattle.goal_terms.specs.TreeWith.{tree_with}
use Rattle.goal_terms.specs.View.{tree_of_ref, trees_seen}
use Rattle.goal_interner.specs.TableMeaning.{tree_at, AreBelow, IsOnly}
use Rattle.goal_interner.proofs.InternLemmas.{keeps-chain, within-pushed, trees-pushed, tree_with-parts, all_parts}
use Rattle.goal_terms.proofs.FitLemmas.{ref_fit, IsFit}
use Rattle.goal_terms.proofs.SizeLemmas.{sizes-more, grown-part, grown-whole}
use Rattle.goal_interner.proofs.term_table.TermTable.+intern_part.Goals as goal

pub loop-i-preserved : goal.loop-i-preserved
loop-i-preserved t c = record {
  kept = keeps-chain _ _ _ c.loop-i.invariant.kept c.in_ok-number.ensures.kept;
  within =
      subst (AreBelow (length c.intern_part.new.self)) (sym c.in_ok-push.ensures.items)
      (within-pushed c.loop-i.self c.intern_part.new.self c.loop-i.numbers.items c.in_ok-number.number c.in_ok-number.ensures.kept
      c.loop-i.invariant.within c.in_ok-number.ensures.within);
  grown =
      omega (arith, c.in_ok-number.ensures.grown, c.loop-i.invariant.grown, sizes-more (trees_seen c.parts-parts.result) c.loop-i.i _ c.at.ensures);
  trees =
      ap (map (tree_at c.intern_part.new.self)) c.in_ok-push.ensures.items
      ∙ trees-pushed c.loop-i.self c.intern_part.new.self c.loop-i.numbers.items c.in_ok-number.number (trees_seen c.parts-parts.result) c.loop-i.i _
      c.in_ok-number.ensures.kept c.loop-i.invariant.within c.loop-i.invariant.trees c.in_ok-number.ensures.tree c.at.ensures;
}

parts_here : (t : _) (c : goal.After-node t) → map (tree_at c.loop-i.self) c.loop-i.numbers.items ≡ parts_of (tree_of_ref c.args.term)
parts_here t c = all_parts _ (trees_seen c.parts-parts.result) _ c.loop-i.i c.loop-i.invariant.trees (omega arith) c.parts-parts.ensures

pub intern_node-requires-clause-fits : goal.intern_node-requires-clause-fits
unfolding IsFit
intern_node-requires-clause-fits t c =
    subst (Fits c.node.result) (sym (parts_here t c)) (subst (λ n. Fits n (parts_of (tree_of_ref c.args.term))) (sym c.node.ensures) (ref_fit c.args.term))

made_here : (t : _) (c : goal.After-intern_node t) → tree_with c.node.result (map (tree_at c.loop-i.self) c.loop-i.numbers.items) ≡ tree_of_ref c.args.term
made_here t c =
    let here : map (tree_at c.loop-i.self) c.loop-i.numbers.items ≡ parts_of (tree_of_ref c.args.term) =
    all_parts _ (trees_seen c.parts-parts.result) _ c.loop-i.i c.loop-i.invariant.trees (omega arith) c.parts-parts.ensures in
    ap (λ n. tree_with n (map (tree_at c.loop-i.self) c.loop-i.numbers.items)) c.node.ensures
    ∙ ap (tree_with (node_of (tree_of_ref c.args.term))) here ∙ tree_with-parts (tree_of_ref c.args.term)

pub returns-clause-tree : goal.returns-clause-tree
returns-clause-tree t c =
    subst (λ u. IfOk c.intern_node.result (λ id. tree_at c.intern_node.new.self id ≡ u)) (made_here t c) c.intern_node.ensures.tree

pub returns-clause-only : goal.returns-clause-only
returns-clause-only t c =
    subst (λ u. IfOk c.intern_node.result (λ id. IsOnly c.intern_node.new.self id u)) (made_here t c) c.intern_node.ensures.only

pub returns-clause-grown : goal.returns-clause-grown
returns-clause-grown t c =
    grown-whole (trees_seen c.parts-parts.result) c.loop-i.i (tree_of_ref c.args.term) (length c.args.self.now) (length c.loop-i.self)
    (length c.intern_node.new.self) c.parts-parts.ensures c.loop-i.invariant.grown c.intern_node.ensures.grown

pub returns-in_err-number-clause-grown : goal.returns-in_err-number-clause-grown
returns-in_err-number-clause-grown t c =
    grown-part (trees_seen c.parts-parts.result) c.loop-i.i _ (tree_of_ref c.args.term) (length c.args.self.now) (length c.loop-i.self)
    (length c.intern_part.new.self) c.at.ensures c.parts-parts.ensures c.loop-i.invariant.grown c.in_err-number.ensures.grown

pub returns-in_err-push-clause-grown : goal.returns-in_err-push-clause-grown
returns-in_err-push-clause-grown t c =
    grown-part (trees_seen c.parts-parts.result) c.loop-i.i _ (tree_of_ref c.args.term) (length c.args.self.now) (length c.loop-i.self)
    (length c.intern_part.new.self) c.at.ensures c.parts-parts.ensures c.loop-i.invariant.grown c.in_ok-number.ensures.grown
