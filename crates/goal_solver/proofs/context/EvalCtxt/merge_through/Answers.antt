use Rattle.std.proofs.Common.{subst}
use Rattle.goal_kinds.specs.Collecting.{kind_of}
use Rattle.goal_solver.specs.OpenProjections.{ConsidersGroups}
use Rattle.goal_solver.proofs.OpenedSelfLemmas.{left-or_opened-through}
use Rattle.goal_solver.proofs.OpenProjectionLemmas.{through-groups}
use Rattle.goal_solver.proofs.context.EvalCtxt.merge_through.Goals as goal

pub returns-in-Some-clause-merges : goal.returns-in-Some-clause-merges
returns-in-Some-clause-merges g c =
    through-groups (kind_of g.G.GoalKind.words g.G.PredicateTerms.has_fault) c.args.asked.now c.args.class c.args.goal.now c.args.self.now c.considered_groups.new.self c.merge_groups.new.self c.merge_groups.result c.in_ok-considered_groups.field-0 c.in-Some.rules
    c.in_ok-considered_groups.ensures.considers c.in-Some.is c.considered_groups.ensures.unchanged c.merge_groups.ensures.decides

pub returns-in-None-clause-merges : goal.returns-in-None-clause-merges
returns-in-None-clause-merges g c =
    left-or_opened-through (kind_of g.G.GoalKind.words g.G.PredicateTerms.has_fault) c.args.asked.now c.args.class c.args.goal.now c.args.self.now c.considered_groups.new.self c.merge_open_goal.new.self c.merge_open_goal.result
    (subst (λ o. ConsidersGroups (kind_of g.G.GoalKind.words g.G.PredicateTerms.has_fault) c.args.class c.args.goal.now c.args.self.now o c.considered_groups.new.self) c.in-None.is c.in_ok-considered_groups.ensures.considers) c.considered_groups.ensures.unchanged
    c.merge_open_goal.ensures.unchanged c.merge_open_goal.ensures.undecided c.merge_open_goal.ensures.opened
