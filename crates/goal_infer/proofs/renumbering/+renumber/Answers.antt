use Rattle.std.proofs.Common.{◌<◌, length, ◌∙◌, arith}
use Rattle.std.proofs.lemmas.Result.{IfOk-weaker}
use Rattle.goal_interner.specs.TableMeaning.{tree_at}
use Rattle.goal_terms.specs.Tree.{parts_of}
use Rattle.goal_interner.proofs.InternLemmas.{keeps-chain}
use Rattle.goal_interner.proofs.UnderLemmas.{count-parts}
use Rattle.goal_infer.proofs.FollowLemmas.{within-more}
use Rattle.goal_infer.proofs.RenumberingLemmas.{fits-renumbered, made-renumbered, renumbered-more, all-renumbered}
use Rattle.goal_infer.proofs.renumbering.+renumber.Goals as goal

pub renumber-requires : goal.renumber-requires
renumber-requires t c =
    (omega (arith, c.part-part.ensures.earlier, c.decreases), omega (arith, c.part-part.ensures.earlier, c.requires.within, c.loop-place.invariant.kept.longer))

pub loop-place-preserved : goal.loop-place-preserved
loop-place-preserved t c =
    let here : c.loop-place.place < length (parts_of (tree_at c.args.table.now c.args.id)) =
    omega (arith, count-parts c.args.table.now c.parts-count.result.now _ c.parts-count.ensures.trees) in
    record {
      kept = keeps-chain _ _ _ c.loop-place.invariant.kept c.in_ok-number.ensures.kept;
      within =
          within-more c.loop-place.table c.renumber.new.table c.in_ok-number.ensures.kept c.loop-place.made.items _ c.in_ok-number.number
          c.in_ok-push.ensures.items c.loop-place.invariant.within c.in_ok-number.ensures.within;
      trees =
          renumbered-more c.args.numbers.now c.args.table.now c.loop-place.table c.renumber.new.table c.args.id c.part-part.result c.in_ok-number.number
          c.loop-place.made.items _ c.loop-place.place c.loop-place.invariant.kept c.in_ok-number.ensures.kept c.requires.within here c.in_ok-push.ensures.items
          c.loop-place.invariant.within c.loop-place.invariant.trees c.part-part.ensures.tree c.in_ok-number.ensures.tree;
    }

pub intern_node-requires-clause-fits : goal.intern_node-requires-clause-fits
intern_node-requires-clause-fits t c =
    fits-renumbered c.args.numbers.now c.node.result c.renumber_node-node.result (parts_of (tree_at c.args.table.now c.args.id)) _ c.renumber_node-node.ensures
    (all-renumbered c.args.numbers.now c.args.table.now (tree_at c.args.table.now c.args.id) c.parts-count.result.now _ c.loop-place.place
    c.parts-count.ensures.trees c.loop-place-test.false c.loop-place.invariant.trees)
    c.node.ensures.fits

pub returns-clause-tree : goal.returns-clause-tree
returns-clause-tree t c =
    IfOk-weaker c.intern_node.result _ _
    (λ r e. e ∙ made-renumbered c.args.numbers.now (tree_at c.args.table.now c.args.id) c.node.result c.renumber_node-node.result _
    c.node.ensures.top c.renumber_node-node.ensures
    (all-renumbered c.args.numbers.now c.args.table.now (tree_at c.args.table.now c.args.id) c.parts-count.result.now _ c.loop-place.place
    c.parts-count.ensures.trees c.loop-place-test.false c.loop-place.invariant.trees))
    c.intern_node.ensures.tree
