use Rattle.std.proofs.Common.{◌<◌, length, subst, sym, arith}
use Rattle.std.proofs.lemmas.Result.{IfOk-weaker}
use Rattle.goal_interner.specs.TableMeaning.{tree_at}
use Rattle.goal_terms.specs.Tree.{parts_of}
use Rattle.goal_interner.proofs.InternLemmas.{keeps-chain}
use Rattle.goal_interner.proofs.UnderLemmas.{count-parts}
use Rattle.goal_infer.specs.FreshLifetimes.{IsFreshened}
use Rattle.goal_infer.proofs.FollowLemmas.{within-more}
use Rattle.goal_infer.proofs.FreshLifetimeLemmas.{fits-fresh, fresh-with, fresh-more, fresh-all}
use Rattle.goal_infer.proofs.fresh_lifetimes.+with_fresh_lifetimes.Goals as goal

pub with_fresh_lifetimes-requires : goal.with_fresh_lifetimes-requires
with_fresh_lifetimes-requires t c =
    (omega (arith, c.part-part.ensures.earlier, c.decreases), omega (arith, c.part-part.ensures.earlier, c.requires.within, c.loop-place.invariant.kept.longer))

pub loop-place-preserved : goal.loop-place-preserved
loop-place-preserved t c =
    let here : c.loop-place.place < length (parts_of (tree_at c.args.table.now c.args.id)) =
    omega (arith, count-parts c.args.table.now c.parts-count.result.now _ c.parts-count.ensures.trees) in
    record {
      kept = keeps-chain _ _ _ c.loop-place.invariant.kept c.in_ok-number.ensures.kept;
      within =
          within-more c.loop-place.table c.with_fresh_lifetimes.new.table c.in_ok-number.ensures.kept c.loop-place.made.items _ c.in_ok-number.number
          c.in_ok-push.ensures.items c.loop-place.invariant.within c.in_ok-number.ensures.within;
      fresh =
          fresh-more c.args.table.now c.loop-place.table c.with_fresh_lifetimes.new.table c.loop-place.invariant.kept c.in_ok-number.ensures.kept c.args.id
          c.part-part.result c.in_ok-number.number c.loop-place.place c.loop-place.made.items _ c.requires.within here c.in_ok-push.ensures.items
          c.loop-place.invariant.within c.loop-place.invariant.fresh c.part-part.ensures.tree c.in_ok-number.ensures.fresh;
    }

pub intern_node-requires-clause-fits : goal.intern_node-requires-clause-fits
intern_node-requires-clause-fits t c =
    fits-fresh c.node.result c.in_ok-node.node (parts_of (tree_at c.args.table.now c.args.id)) _ c.in_ok-node.ensures.same
    (fresh-all _ _ c.loop-place.place (omega (arith, count-parts c.args.table.now c.parts-count.result.now _ c.parts-count.ensures.trees)) c.loop-place.invariant.fresh)
    c.node.ensures.fits

pub returns-clause-fresh : goal.returns-clause-fresh
returns-clause-fresh t c =
    IfOk-weaker c.intern_node.result _ _
    (λ r e. subst (IsFreshened (tree_at c.args.table.now c.args.id)) (sym e)
    (fresh-with (tree_at c.args.table.now c.args.id) c.node.result c.in_ok-node.node _ c.node.ensures.top c.in_ok-node.ensures.same c.in_ok-node.ensures.none
    (fresh-all _ _ c.loop-place.place (omega (arith, count-parts c.args.table.now c.parts-count.result.now _ c.parts-count.ensures.trees)) c.loop-place.invariant.fresh)))
    c.intern_node.ensures.tree
