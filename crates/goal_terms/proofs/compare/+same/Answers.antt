use Rattle.std.proofs.Common.{sym, ◌∙◌, ◌≡◌, false, ◌&&◌, ap}
use Rattle.goal_terms.specs.Erased.{compared_node}
use Rattle.goal_terms.specs.SameTree.{same_node}
use Rattle.goal_terms.specs.Tree.{node_of, parts_of}
use Rattle.goal_terms.specs.View.{tree_of_ref, trees_seen}
use Rattle.goal_terms.proofs.WalkLemmas.{sames, sames-more, sames-none, same_tree-walk, and-false}
use Rattle.goal_terms.proofs.compare.+same.Goals as goal

pub returns-then-not-same : goal.returns-then-not-same
returns-then-not-same t c =
    let none : sames c.args.regions (trees_seen c.parts-parts.result) (trees_seen c.parts-others.result) 0 ≡ false =
    sames-none c.args.regions _ _ c.loop-i.i _ _ _ c.at.ensures c.at-in-loop-i.ensures (sym c.same.ensures ∙ c.if-not-same.true) c.loop-i.invariant in
    let here : sames c.args.regions (parts_of (tree_of_ref c.args.a)) (parts_of (tree_of_ref c.args.b)) 0 ≡ false =
    rw (← c.parts-parts.ensures, ← c.parts-others.ensures) none in
    sym (same_tree-walk c.args.regions _ _
    ∙ ap (λ b. same_node (compared_node c.args.regions (node_of (tree_of_ref c.args.a))) (compared_node c.args.regions (node_of (tree_of_ref c.args.b))) && b) here
    ∙ and-false _)

pub loop-i-preserved : goal.loop-i-preserved
loop-i-preserved t c =
    sames-more c.args.regions _ _ c.loop-i.i _ _ _ c.at.ensures c.at-in-loop-i.ensures (sym c.same.ensures ∙ c.if-not-same.false) c.loop-i.invariant
