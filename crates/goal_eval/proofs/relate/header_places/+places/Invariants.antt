use Rattle.std.proofs.Common.{◌+◌, ◌*◌, ℕ, map}
use Rattle.std.specs.Prelude.{◌↔◌}
use Rattle.goal_terms.specs.Erased.{erased}
use Rattle.goal_interner.specs.TableMeaning.{tree_at}
use Rattle.goal_terms.specs.Tree.{Tree, tree_size}
use Rattle.goal_terms.specs.View.{tree_of_ref, trees_seen}
use Rattle.goal_terms.proofs.SizeLemmas.{sizes}
use Rattle.goal_lists.specs.Headers.{PartAmong}
use Rattle.goal_lists.specs.Levels.{level}
use Rattle.goal_lists.specs.Settings.{Setting}
use Rattle.goal_eval.proofs.HeaderPlaceLemmas.{AmongFrom}
use Rattle.goal_eval.proofs.relate.header_places.+places.Given as goal

abbrev pub decreases-find_place : goal.decreases-find_place
decreases-find_place l = 2 * tree_size (tree_of_ref l.header)

abbrev pub decreases-find_among : goal.decreases-find_among
decreases-find_among l = 2 * sizes (trees_seen l.parts) + 1

abbrev pub invariant-find_among-loop-i : goal.invariant-find_among-loop-i
invariant-find_among-loop-i l =
    (S : Setting) (k : ℕ) (p : Tree) → PartAmong (level S k) l.number (map erased (trees_seen l.parts)) (map erased (map (tree_at l.terms) l.given)) p
    ↔ AmongFrom (level S k) l.number (trees_seen l.parts) (map (tree_at l.terms) l.given) l.i p
