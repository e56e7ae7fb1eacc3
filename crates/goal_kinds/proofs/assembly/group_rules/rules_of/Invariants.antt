use Rattle.std.proofs.Common.{take}
use Rattle.goal_kinds.specs.Collecting.{kind_of, goal_in, CollectsFor, CollectsAll}
use Rattle.goal_kinds.proofs.assembly.group_rules.rules_of.Given as goal

abbrev pub invariant-loop-class : goal.invariant-loop-class
invariant-loop-class g l =
    CollectsAll
    (CollectsFor (kind_of g.G.GoalKind.words g.G.PredicateTerms.has_fault) (goal_in l.tables l.goal l.mode))
    (take l.class-index l.classes) l.found.items
