use Rattle.std.proofs.Common.{map, take}
use Rattle.goal_terms.specs.Erased.{erased}
use Rattle.goal_terms.specs.TreeOf.{trees_of}
use Rattle.goal_lists.specs.Candidates.{bounds_under}
use Rattle.goal_kinds.specs.KindWords.{words_for}
use Rattle.goal_kinds.specs.Collecting.{Speaks, Lacks, Collects}
use Rattle.goal_kinds.proofs.assembly.collecting.push_declared_rules.Given as goal

abbrev pub invariant-loop-i : goal.invariant-loop-i
invariant-loop-i g l =
    Collects
    (Speaks (words_for g.G.GoalKind.words l.tables l.goal l.mode))
    (Lacks (words_for g.G.GoalKind.words l.tables l.goal l.mode))
    (bounds_under (map erased (trees_of l.args)) (take l.i l.clauses)) l.initial.found.items l.found.items
