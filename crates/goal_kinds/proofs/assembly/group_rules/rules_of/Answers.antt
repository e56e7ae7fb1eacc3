use Rattle.std.proofs.Common.{[], sym, subst}
use Rattle.goal_kinds.specs.Collecting.{kind_of, goal_in, CollectsFor, CollectsAll}
use Rattle.goal_kinds.proofs.CollectingLemmas.{collects-none, collects-next}
use Rattle.goal_kinds.proofs.assembly.group_rules.rules_of.Goals as goal

pub loop-class-init : goal.loop-class-init
loop-class-init g c =
    subst (λ rs. CollectsAll (CollectsFor (kind_of g.G.GoalKind.words g.G.PredicateTerms.has_fault) (goal_in c.args.tables.now c.args.goal.now c.args.mode.now)) [] rs) (sym c.new-found.ensures.items)
    (collects-none (CollectsFor (kind_of g.G.GoalKind.words g.G.PredicateTerms.has_fault) (goal_in c.args.tables.now c.args.goal.now c.args.mode.now)))

pub loop-class-preserved : goal.loop-class-preserved
loop-class-preserved g c =
    collects-next (CollectsFor (kind_of g.G.GoalKind.words g.G.PredicateTerms.has_fault) (goal_in c.args.tables.now c.args.goal.now c.args.mode.now)) c.args.classes.now c.loop-class.class-index _ c.loop-class.found.items c.in_ok-rules.rules.items c.push_rules.new.found.items
    c.loop-class-test.true c.loop-class.invariant
    c.in_ok-rules.ensures.collected c.in_ok-push_rules.ensures
