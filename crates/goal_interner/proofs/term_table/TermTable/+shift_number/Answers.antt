use Rattle.std.proofs.Common.{◌≡◌, ◌+◌, ◌<◌, ◌≤◌, ap, ◌∙◌, sym, refl, subst, length, map, Some, arith}
use Rattle.std.specs.Prelude.{IfOk, slice_get}
use Rattle.goal_terms.specs.Folding.{folded, shifting, shifted}
use Rattle.goal_interner.specs.TableMeaning.{tree_at, AreBelow, IsOnly}
use Rattle.goal_terms.specs.Tree.{parts_of, tree_size}
use Rattle.goal_terms.specs.TreeWith.{tree_with}
use Rattle.goal_interner.proofs.GrowthLemmas.{shifted-size, grown-by_part, grown-by_all}
use Rattle.goal_interner.proofs.InternLemmas.{keeps-chain, within-pushed, trees-pushed}
use Rattle.goal_terms.proofs.SizeLemmas.{sizes, sizes-more}
use Rattle.goal_interner.proofs.UnderLemmas.{shifting-sorts, made-fits, shifted-made, count-parts, part-read, all-rewritten}
use Rattle.goal_interner.proofs.term_table.TermTable.+shift_number.Goals as goal

pub loop-place-preserved : goal.loop-place-preserved
loop-place-preserved t c =
    let here : c.loop-place.place < length (parts_of (tree_at c.args.self.now c.args.id)) =
    omega (arith, count-parts c.args.self.now c.parts-count.result.now _ c.parts-count.ensures.trees) in
    let seen : slice_get (map (folded (shifting c.args.by) c.binders_below-below.result) (parts_of (tree_at c.args.self.now c.args.id))) c.loop-place.place
    ≡ Some (shifted c.args.by c.binders_below-below.result (tree_at c.loop-place.self c.part-part.result)) =
    part-read (folded (shifting c.args.by) c.binders_below-below.result) (tree_at c.args.self.now c.args.id) (tree_at c.loop-place.self c.args.id) _
    c.loop-place.place (c.loop-place.invariant.kept.same c.args.id c.requires) here c.part-part.ensures.tree in
    record {
      grown =
          omega (
            arith,
            c.in_ok-number.ensures.grown,
            c.loop-place.invariant.grown,
            sizes-more (map (folded (shifting c.args.by) c.binders_below-below.result) (parts_of (tree_at c.args.self.now c.args.id))) c.loop-place.place _ seen,
          );
      kept = keeps-chain _ _ _ c.loop-place.invariant.kept c.in_ok-number.ensures.kept;
      within =
          subst (AreBelow (length c.shift_number.new.self)) (sym c.in_ok-push.ensures.items)
          (within-pushed c.loop-place.self c.shift_number.new.self c.loop-place.numbers.items c.in_ok-number.number c.in_ok-number.ensures.kept
          c.loop-place.invariant.within c.in_ok-number.ensures.within);
      trees =
          ap (map (tree_at c.shift_number.new.self)) c.in_ok-push.ensures.items
          ∙ trees-pushed c.loop-place.self c.shift_number.new.self c.loop-place.numbers.items c.in_ok-number.number _ c.loop-place.place _
          c.in_ok-number.ensures.kept c.loop-place.invariant.within c.loop-place.invariant.trees c.in_ok-number.ensures.tree
          seen;
    }

pub intern_node-requires-clause-fits : goal.intern_node-requires-clause-fits
intern_node-requires-clause-fits t c =
    let all : length (parts_of (tree_at c.args.self.now c.args.id)) ≤ c.loop-place.place =
    omega (arith, count-parts c.args.self.now c.parts-count.result.now _ c.parts-count.ensures.trees) in
    made-fits (shifting c.args.by) (shifting-sorts c.args.by) c.args.binders c.binders_below-below.result c.node-node.result c.shifted.result
    (parts_of (tree_at c.args.self.now c.args.id)) _ c.node-node.ensures.fits c.shifted.ensures
    (all-rewritten (folded (shifting c.args.by) c.binders_below-below.result) _ _ _ c.loop-place.place c.loop-place.invariant.trees all refl)

made_here : (t : _) (c : goal.After-intern_node t) →
    tree_with c.shifted.result (map (tree_at c.loop-place.self) c.loop-place.numbers.items)
    ≡ shifted c.args.by c.args.binders (tree_at c.args.self.now c.args.id)
made_here t c =
    let all : length (parts_of (tree_at c.args.self.now c.args.id)) ≤ c.loop-place.place =
    omega (arith, count-parts c.args.self.now c.parts-count.result.now _ c.parts-count.ensures.trees) in
    shifted-made c.args.by c.args.binders c.binders_below-below.result (tree_at c.args.self.now c.args.id) c.node-node.result c.shifted.result _
    c.node-node.ensures.top c.node-node.ensures.fits c.binders_below-below.ensures c.shifted.ensures
    (all-rewritten (folded (shifting c.args.by) c.binders_below-below.result) _ _ _ c.loop-place.place c.loop-place.invariant.trees all refl)

pub returns-clause-tree : goal.returns-clause-tree
returns-clause-tree t c =
    subst (λ u. IfOk c.intern_node.result (λ id. tree_at c.intern_node.new.self id ≡ u)) (made_here t c) c.intern_node.ensures.tree

pub returns-clause-only : goal.returns-clause-only
returns-clause-only t c =
    subst (λ u. IfOk c.intern_node.result (λ id. IsOnly c.intern_node.new.self id u)) (made_here t c) c.intern_node.ensures.only

pub returns-clause-grown : goal.returns-clause-grown
returns-clause-grown t c =
    grown-by_all _ c.loop-place.place (length c.args.self.now) (length c.loop-place.self) (length c.intern_node.new.self) _
    (shifted-size c.args.by c.args.binders c.binders_below-below.result (tree_at c.args.self.now c.args.id) c.node-node.result
    c.node-node.ensures.top c.node-node.ensures.fits c.binders_below-below.ensures)
    c.loop-place.invariant.grown c.intern_node.ensures.grown

pub returns-in_err-number-clause-grown : goal.returns-in_err-number-clause-grown
returns-in_err-number-clause-grown t c =
    grown-by_part _ c.loop-place.place _ (length c.args.self.now) (length c.loop-place.self) (length c.shift_number.new.self) _
    (part-read (folded (shifting c.args.by) c.binders_below-below.result) (tree_at c.args.self.now c.args.id) (tree_at c.loop-place.self c.args.id) _
    c.loop-place.place (c.loop-place.invariant.kept.same c.args.id c.requires)
    (omega (arith, count-parts c.args.self.now c.parts-count.result.now _ c.parts-count.ensures.trees)) c.part-part.ensures.tree)
    (shifted-size c.args.by c.args.binders c.binders_below-below.result (tree_at c.args.self.now c.args.id) c.node-node.result
    c.node-node.ensures.top c.node-node.ensures.fits c.binders_below-below.ensures)
    c.loop-place.invariant.grown c.in_err-number.ensures.grown

pub returns-in_err-push-clause-grown : goal.returns-in_err-push-clause-grown
returns-in_err-push-clause-grown t c =
    grown-by_part _ c.loop-place.place _ (length c.args.self.now) (length c.loop-place.self) (length c.shift_number.new.self) _
    (part-read (folded (shifting c.args.by) c.binders_below-below.result) (tree_at c.args.self.now c.args.id) (tree_at c.loop-place.self c.args.id) _
    c.loop-place.place (c.loop-place.invariant.kept.same c.args.id c.requires)
    (omega (arith, count-parts c.args.self.now c.parts-count.result.now _ c.parts-count.ensures.trees)) c.part-part.ensures.tree)
    (shifted-size c.args.by c.args.binders c.binders_below-below.result (tree_at c.args.self.now c.args.id) c.node-node.result
    c.node-node.ensures.top c.node-node.ensures.fits c.binders_below-below.ensures)
    c.loop-place.invariant.grown c.in_ok-number.ensures.grown
