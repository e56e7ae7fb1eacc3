use Rattle.std.proofs.Common.{subst}
use Rattle.goal_kinds.specs.Collecting.{kind_of}
use Rattle.goal_solver.specs.OpenGoals.{ConsidersRules}
use Rattle.goal_solver.proofs.OpenedSelfLemmas.{left-or_opened}
use Rattle.goal_solver.proofs.OpenClassLemmas.{by-classes}
use Rattle.goal_solver.proofs.context.EvalCtxt.merge_goal.Goals as goal

pub returns-in-Some-clause-merges : goal.returns-in-Some-clause-merges
returns-in-Some-clause-merges g c =
    by-classes (kind_of g.G.GoalKind.words g.G.PredicateTerms.has_fault) c.args.goal.now c.args.self.now c.considered_rules.new.self c.merge_classes.new.self c.merge_classes.result
    c.in_ok-considered_rules.field-0 c.in-Some.rules c.in_ok-considered_rules.ensures.considers c.in-Some.is c.considered_rules.ensures.unchanged c.merge_classes.ensures.decides

pub returns-in-None-clause-merges : goal.returns-in-None-clause-merges
returns-in-None-clause-merges g c =
    left-or_opened (kind_of g.G.GoalKind.words g.G.PredicateTerms.has_fault) c.args.goal.now c.args.self.now c.considered_rules.new.self c.merge_open_goal.new.self c.merge_open_goal.result
    (subst (λ o. ConsidersRules (kind_of g.G.GoalKind.words g.G.PredicateTerms.has_fault) c.args.goal.now c.args.self.now o c.considered_rules.new.self) c.in-None.is c.in_ok-considered_rules.ensures.considers) c.considered_rules.ensures.unchanged
    c.merge_open_goal.ensures.unchanged c.merge_open_goal.ensures.undecided c.merge_open_goal.ensures.opened
