use Rattle.std.proofs.Common.{◌≡◌, ◌<◌, ◌≤◌, length, map, sym, ap, ◌∙◌, subst, arith}
use Rattle.std.specs.Prelude.{IfOk}
use Rattle.std.proofs.lemmas.Bool.{false≢true}
use Rattle.std.proofs.lemmas.List.{take_all}
use Rattle.std.proofs.lemmas.Result.{IfOk-weaker}
use Rattle.goal_terms.specs.Sorts.{part_at}
use Rattle.goal_interner.specs.TableMeaning.{tree_at}
use Rattle.goal_terms.specs.Tree.{parts_of}
use Rattle.goal_terms.specs.TreeWith.{tree_with}
use Rattle.goal_interner.proofs.InternLemmas.{keeps-chain}
use Rattle.goal_interner.proofs.UnderLemmas.{count-parts}
use Rattle.goal_infer.proofs.FollowLemmas.{IsFollowed, fits-followed, followed-with, followed-unchanged, followed-from, followed-tree, followed-sort, followed-same, followed-part, lower-followed, followed-more, followed-all, within-more, unchanged-more}
use Rattle.goal_infer.proofs.SolvedLemmas.{solved-kept}
use Rattle.goal_infer.proofs.followed.+follow.Goals as goal
use Rattle.goal_infer.proofs.followed.+follow.Goals.{then-unchanged, else-unchanged}

pub follow-requires : goal.follow-requires
follow-requires t c =
    let here : c.loop-place.place < length (parts_of (tree_at c.args.table.now c.resolve-top.result)) =
    omega (arith, count-parts c.args.table.now c.parts-count.result.now _ c.parts-count.ensures.trees) in (
      omega (
        arith,
        lower-followed c.args.table.now c.loop-place.table c.args.state.now c.loop-place.invariant.kept c.requires.solved c.args.id c.resolve-top.result
            c.part-part.result c.loop-place.place c.resolve-top.ensures.within c.resolve-top.ensures.same here c.part-part.ensures.tree,
        c.decreases,
      ),
      (
        omega (arith, c.part-part.ensures.earlier, c.resolve-top.ensures.within, c.loop-place.invariant.kept.longer),
        solved-kept c.args.table.now c.loop-place.table c.args.state.now c.loop-place.invariant.kept c.requires.solved,
      ),
    )

pub loop-place-preserved : goal.loop-place-preserved
loop-place-preserved t c =
    let here : c.loop-place.place < length (parts_of (tree_at c.args.table.now c.resolve-top.result)) =
    omega (arith, count-parts c.args.table.now c.parts-count.result.now _ c.parts-count.ensures.trees) in
    let part : tree_at c.loop-place.table c.part-part.result ≡ part_at (tree_at c.args.table.now c.resolve-top.result) c.loop-place.place =
    c.part-part.ensures.tree
    ∙ ap (λ u. part_at u c.loop-place.place) (c.loop-place.invariant.kept.same c.resolve-top.result c.resolve-top.ensures.within) in
    record {
      kept = keeps-chain _ _ _ c.loop-place.invariant.kept c.in_ok-number.ensures.kept;
      within =
          within-more c.loop-place.table c.follow.new.table c.in_ok-number.ensures.kept c.loop-place.numbers.items _ c.in_ok-number.number
          c.in_ok-push.ensures.items c.loop-place.invariant.within c.in_ok-number.ensures.within;
      followed =
          followed-more c.args.table.now c.loop-place.table c.follow.new.table c.args.state.now c.in_ok-number.ensures.kept
          (parts_of (tree_at c.args.table.now c.resolve-top.result)) c.loop-place.place c.loop-place.numbers.items _ c.in_ok-number.number here
          c.in_ok-push.ensures.items c.loop-place.invariant.within c.loop-place.invariant.followed
          (followed-part c.args.table.now c.loop-place.table c.follow.new.table c.args.state.now c.loop-place.invariant.kept c.requires.solved
          c.part-part.result c.in_ok-number.number _ part c.in_ok-number.ensures.tree c.in_ok-number.ensures.same);
      unchanged = λ e. elim c.if-unchanged.branch [
        | then-unchanged w ↦
            unchanged-more c.loop-place.table c.follow.new.table c.in_ok-number.ensures.kept
            (parts_of (tree_at c.args.table.now c.resolve-top.result)) c.loop-place.place c.loop-place.numbers.items _ c.in_ok-number.number here
            c.in_ok-push.ensures.items c.loop-place.invariant.within (c.loop-place.invariant.unchanged w.if-unchanged.true)
            (w.same_term-unchanged.ensures.identical.0 (sym w.unchanged-is ∙ e)
            ∙ c.in_ok-number.ensures.kept.same c.part-part.result
            (omega (arith, c.part-part.ensures.earlier, c.resolve-top.ensures.within, c.loop-place.invariant.kept.longer)) ∙ part)
        | else-unchanged w ↦ absurd (false≢true (sym w.if-unchanged.false ∙ sym w.unchanged-is ∙ e))
      ];
    }

kept_whole : (t : _) (c : goal.After-drop-numbers-then-unchanged-2 t) →
    IsFollowed c.args.table.now c.args.state.now (tree_at c.args.table.now c.args.id) (tree_at c.loop-place.table c.resolve-top.result)
kept_whole t c =
    let all : length (parts_of (tree_at c.args.table.now c.resolve-top.result)) ≤ c.loop-place.place =
    omega (arith, count-parts c.args.table.now c.parts-count.result.now _ c.parts-count.ensures.trees) in
    followed-from c.args.table.now c.args.state.now c.requires.solved c.args.id c.resolve-top.result _ c.resolve-top.ensures.same c.resolve-top.ensures.itself
    (followed-unchanged c.args.table.now c.args.state.now c.requires.solved (tree_at c.args.table.now c.resolve-top.result) _ _
    (c.loop-place.invariant.kept.same c.resolve-top.result c.resolve-top.ensures.within)
    (c.loop-place.invariant.unchanged c.if-unchanged-2.true ∙ take_all c.loop-place.place _ all) c.resolve-top.ensures.unbound
    (followed-all c.args.table.now c.args.state.now _ _ c.loop-place.place all c.loop-place.invariant.followed))

pub returns-then-unchanged-2-clause-tree : goal.returns-then-unchanged-2-clause-tree
returns-then-unchanged-2-clause-tree t c =
    followed-tree c.args.table.now c.loop-place.table c.args.state.now c.args.id c.resolve-top.result (kept_whole t c)

pub returns-then-unchanged-2-clause-sort : goal.returns-then-unchanged-2-clause-sort
returns-then-unchanged-2-clause-sort t c =
    followed-sort c.args.table.now c.loop-place.table c.args.state.now c.args.id c.resolve-top.result c.requires.solved (kept_whole t c)

pub returns-then-unchanged-2-clause-same : goal.returns-then-unchanged-2-clause-same
returns-then-unchanged-2-clause-same t c =
    followed-same c.args.table.now c.loop-place.table c.args.state.now c.args.id c.resolve-top.result (kept_whole t c)

pub intern_node-requires-clause-fits : goal.intern_node-requires-clause-fits
intern_node-requires-clause-fits t c =
    fits-followed c.args.table.now c.args.state.now c.requires.solved c.node-node.result (parts_of (tree_at c.args.table.now c.resolve-top.result)) _
    (followed-all c.args.table.now c.args.state.now _ _ c.loop-place.place
    (omega (arith, count-parts c.args.table.now c.parts-count.result.now _ c.parts-count.ensures.trees)) c.loop-place.invariant.followed)
    c.node-node.ensures.fits

made : (t : _) (c : goal.After-intern_node t) →
    IsFollowed c.args.table.now c.args.state.now (tree_at c.args.table.now c.args.id)
    (tree_with c.node-node.result (map (tree_at c.loop-place.table) c.loop-place.numbers.items))
made t c =
    followed-from c.args.table.now c.args.state.now c.requires.solved c.args.id c.resolve-top.result _ c.resolve-top.ensures.same c.resolve-top.ensures.itself
    (followed-with c.args.table.now c.args.state.now c.requires.solved (tree_at c.args.table.now c.resolve-top.result) c.node-node.result _
    c.node-node.ensures.top c.resolve-top.ensures.unbound
    (followed-all c.args.table.now c.args.state.now _ _ c.loop-place.place
    (omega (arith, count-parts c.args.table.now c.parts-count.result.now _ c.parts-count.ensures.trees)) c.loop-place.invariant.followed))

made_number : (t : _) (c : goal.After-intern_node t) →
    IfOk c.intern_node.result (λ r. IsFollowed c.args.table.now c.args.state.now (tree_at c.args.table.now c.args.id) (tree_at c.intern_node.new.self r))
made_number t c =
    IfOk-weaker c.intern_node.result _ _
    (λ r e. subst (IsFollowed c.args.table.now c.args.state.now (tree_at c.args.table.now c.args.id)) (sym e) (made t c)) c.intern_node.ensures.tree

pub returns-clause-tree : goal.returns-clause-tree
returns-clause-tree t c =
    IfOk-weaker c.intern_node.result _ _ (followed-tree c.args.table.now c.intern_node.new.self c.args.state.now c.args.id) (made_number t c)

pub returns-clause-sort : goal.returns-clause-sort
returns-clause-sort t c =
    IfOk-weaker c.intern_node.result _ _ (λ r. followed-sort c.args.table.now c.intern_node.new.self c.args.state.now c.args.id r c.requires.solved) (made_number t c)

pub returns-clause-same : goal.returns-clause-same
returns-clause-same t c =
    IfOk-weaker c.intern_node.result _ _ (followed-same c.args.table.now c.intern_node.new.self c.args.state.now c.args.id) (made_number t c)
