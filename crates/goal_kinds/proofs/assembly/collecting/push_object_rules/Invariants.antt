use Rattle.goal_terms.specs.Erased.{erased}
use Rattle.goal_terms.specs.TreeOf.{tree_of_ty}
use Rattle.goal_kinds.specs.KindWords.{words_for}
use Rattle.goal_kinds.specs.Collecting.{Speaks, Lacks, Collects}
use Rattle.goal_kinds.proofs.CollectedObjectLemmas.{said_before}
use Rattle.goal_kinds.proofs.assembly.collecting.push_object_rules.Given as goal

abbrev pub invariant-loop-k : goal.invariant-loop-k
invariant-loop-k g l =
    Collects
    (Speaks (words_for g.G.GoalKind.words l.tables l.goal l.mode))
    (Lacks (words_for g.G.GoalKind.words l.tables l.goal l.mode))
    (said_before (erased (tree_of_ty l.self_ty)) l.clauses l.k) l.initial.found.items l.found.items
