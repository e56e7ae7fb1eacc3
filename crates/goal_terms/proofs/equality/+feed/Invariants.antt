use Rattle.std.proofs.Common.{◌≡◌}
use Rattle.std.specs.Prelude.{fold}
use Rattle.goal_terms.specs.Tree.{tree_size}
use Rattle.goal_terms.specs.View.{tree_of_ref, trees_seen}
use Rattle.goal_terms.specs.Writes.{tree_writes}
use Rattle.goal_terms.proofs.WriteLemmas.{writes_from}
use Rattle.goal_terms.proofs.equality.+feed.Given as goal

abbrev pub decreases-feed : goal.decreases-feed
decreases-feed g l = tree_size (tree_of_ref l.term)

abbrev pub invariant-loop-i : goal.invariant-loop-i
invariant-loop-i g l =
    fold g.H.Hasher.write l.state (writes_from (trees_seen l.parts) l.i)
    ≡ fold g.H.Hasher.write l.fn.state (tree_writes (tree_of_ref l.fn.term))
