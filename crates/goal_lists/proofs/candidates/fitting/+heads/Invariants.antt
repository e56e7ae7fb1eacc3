use Rattle.std.proofs.Common.{◌≡◌, ◌+◌, ◌*◌}
use Rattle.goal_terms.specs.Tree.{tree_size}
use Rattle.goal_terms.specs.View.{tree_of_ref, trees_seen}
use Rattle.goal_terms.proofs.SizeLemmas.{sizes}
use Rattle.goal_lists.specs.Fitting.{trees_at}
use Rattle.goal_lists.proofs.AgreeLemmas.{agree_from}
use Rattle.goal_lists.proofs.OtherHeadLemmas.{any_two}
use Rattle.goal_lists.proofs.candidates.fitting.+heads.Given as goal

abbrev pub decreases-head_agrees : goal.decreases-head_agrees
decreases-head_agrees l = 2 * tree_size (tree_of_ref l.header)

abbrev pub decreases-parts_agree : goal.decreases-parts_agree
decreases-parts_agree l = 2 * sizes (trees_seen l.header) + 1

abbrev pub invariant-parts_agree-loop-i : goal.invariant-parts_agree-loop-i
invariant-parts_agree-loop-i l =
    agree_from any_two l.parameters (trees_at l.terms l.given) (trees_seen l.header) l.i
    ≡ agree_from any_two l.parameters (trees_at l.terms l.given) (trees_seen l.header) 0
