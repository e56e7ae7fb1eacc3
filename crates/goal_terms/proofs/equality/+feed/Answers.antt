use Rattle.std.proofs.Common.{◌∙◌, ap, ◌<◌, arith}
use Rattle.std.specs.Prelude.{fold}
use Rattle.goal_terms.specs.Tree.{tree_size, node_of}
use Rattle.goal_terms.specs.View.{tree_of_ref, trees_seen}
use Rattle.goal_terms.specs.Writes.{node_writes}
use Rattle.goal_terms.proofs.WriteLemmas.{writes_from, fed-start}
use Rattle.goal_terms.proofs.WalkLemmas.{tree_size-part}
use Rattle.goal_terms.proofs.equality.+feed.Goals as goal

pub loop-i-init : goal.loop-i-init
unfolding node_writes
loop-i-init g t c =
    ap (λ s. fold g.H.Hasher.write s (writes_from (trees_seen c.parts-parts.result) 0))
    (c.hash.ensures ∙ ap (λ n. fold g.H.Hasher.write c.args.state.now (node_writes n)) c.node.ensures)
    ∙ ap (λ ps. fold g.H.Hasher.write (fold g.H.Hasher.write c.args.state.now (node_writes (node_of (tree_of_ref c.args.term)))) (writes_from ps 0)) c.parts-parts.ensures
    ∙ fed-start g.H.Hasher.write c.args.state.now (tree_of_ref c.args.term)

pub feed-requires : goal.feed-requires
feed-requires g t c κs h = (let p : tree_size (tree_of_ref c.at.result) < tree_size (tree_of_ref c.args.term) = tree_size-part (tree_of_ref c.args.term) c.loop-i.i (tree_of_ref c.at.result) (rw (← c.parts-parts.ensures) c.at.ensures) in omega (arith, p, c.decreases), h)
