use Rattle.std.proofs.Common.{◌<◌, length, map, arith}
use Rattle.std.specs.List.{AllZip}
use Rattle.std.proofs.lemmas.List.{length-map}
use Rattle.goal_terms.specs.Sorts.{tree_in}
use Rattle.goal_interner.specs.TableMeaning.{tree_at}
use Rattle.goal_interner.specs.declared.term_nodes.TermId.{TermId}
use Rattle.goal_interner.proofs.InternLemmas.{keeps-chain}
use Rattle.goal_infer.proofs.FollowLemmas.{IsFollowed, followed-part, followed-more, followed-all, within-more, tree-among, all-trees, all-sorts, all-same}
use Rattle.goal_infer.proofs.SolvedLemmas.{solved-kept}
use Rattle.goal_infer.proofs.followed.follow_all.Goals as goal
use Rattle.std.proofs.Common.{◌≡◌, ◌∙◌, get_or}

pub follow-requires-clause-solved : goal.follow-requires-clause-solved
follow-requires-clause-solved c = solved-kept c.args.table.now c.loop-id.table c.args.state.now c.loop-id.invariant.kept c.requires.solved

pub loop-id-preserved : goal.loop-id-preserved
loop-id-preserved c =
    let id : TermId = get_or c.args.ids.now c.loop-id.id-index (record { 0 = 0 }) in
    let inside : id.0 < length c.args.table.now = c.requires.within c.loop-id.id-index (record { 0 = 0 }) c.loop-id-test.true in
    let tree : tree_at c.loop-id.table id ≡ tree_in (map (tree_at c.args.table.now) c.args.ids.now) c.loop-id.id-index =
    c.loop-id.invariant.kept.same id inside ∙ tree-among c.args.table.now c.args.ids.now c.loop-id.id-index (record { 0 = 0 }) c.loop-id-test.true in
    record {
      kept = keeps-chain _ _ _ c.loop-id.invariant.kept c.in_ok-number.ensures.kept;
      within =
          within-more c.loop-id.table c.follow.new.table c.in_ok-number.ensures.kept c.loop-id.numbers.items _ c.in_ok-number.number
          c.in_ok-push.ensures.items c.loop-id.invariant.within c.in_ok-number.ensures.within;
      followed =
          followed-more c.args.table.now c.loop-id.table c.follow.new.table c.args.state.now c.in_ok-number.ensures.kept
          (map (tree_at c.args.table.now) c.args.ids.now) c.loop-id.id-index c.loop-id.numbers.items _ c.in_ok-number.number
          (omega (arith, length-map c.args.ids.now (tree_at c.args.table.now), c.loop-id-test.true))
          c.in_ok-push.ensures.items c.loop-id.invariant.within c.loop-id.invariant.followed
          (followed-part c.args.table.now c.loop-id.table c.follow.new.table c.args.state.now c.loop-id.invariant.kept c.requires.solved
          id c.in_ok-number.number _ tree c.in_ok-number.ensures.tree c.in_ok-number.ensures.same);
    }

zipped : (c : goal.After-loop-id) →
    AllZip (IsFollowed c.args.table.now c.args.state.now) (map (tree_at c.args.table.now) c.args.ids.now) (map (tree_at c.loop-id.table) c.loop-id.numbers.items)
zipped c =
    followed-all c.args.table.now c.args.state.now _ _ c.loop-id.id-index
    (omega (arith, length-map c.args.ids.now (tree_at c.args.table.now))) c.loop-id.invariant.followed

pub returns-clause-trees : goal.returns-clause-trees
returns-clause-trees c = all-trees c.args.table.now c.loop-id.table c.args.state.now c.args.ids.now c.loop-id.numbers.items (zipped c)

pub returns-clause-sorts : goal.returns-clause-sorts
returns-clause-sorts c =
    all-sorts c.args.table.now c.loop-id.table c.args.state.now c.requires.solved c.args.ids.now c.loop-id.numbers.items (zipped c)

pub returns-clause-same : goal.returns-clause-same
returns-clause-same c = all-same c.args.table.now c.loop-id.table c.args.state.now c.args.ids.now c.loop-id.numbers.items (zipped c)
