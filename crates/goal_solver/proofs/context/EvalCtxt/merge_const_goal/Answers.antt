use Rattle.std.proofs.Common.{subst}
use Rattle.goal_kinds.specs.Collecting.{kind_of}
use Rattle.goal_solver.specs.OpenProjections.{ConsidersGroups}
use Rattle.goal_solver.proofs.OpenHostLemmas.{const-grouped}
use Rattle.goal_solver.proofs.OpenedSelfLemmas.{left-or_opened-const}
use Rattle.goal_solver.proofs.context.EvalCtxt.merge_const_goal.Goals as goal

pub returns-in-None-clause-merges : goal.returns-in-None-clause-merges
returns-in-None-clause-merges g c =
    left-or_opened-const (kind_of g.G.GoalKind.words g.G.PredicateTerms.has_fault) c.args.class c.args.goal.now c.args.self.now c.considered_groups.new.self c.merge_open_goal.new.self c.merge_open_goal.result
    (subst (λ o. ConsidersGroups (kind_of g.G.GoalKind.words g.G.PredicateTerms.has_fault) c.args.class c.args.goal.now c.args.self.now o c.considered_groups.new.self) c.in-None.is c.in_ok-considered_groups.ensures.considers) c.considered_groups.ensures.unchanged
    c.merge_open_goal.ensures.unchanged c.merge_open_goal.ensures.undecided c.merge_open_goal.ensures.opened

pub returns-in-Some-clause-merges : goal.returns-in-Some-clause-merges
returns-in-Some-clause-merges g c =
    const-grouped (kind_of g.G.GoalKind.words g.G.PredicateTerms.has_fault) c.args.class c.args.goal.now c.args.self.now c.considered_groups.new.self c.merge_const_groups.new.self c.in_ok-considered_groups.field-0 c.in-Some.rules c.merge_const_groups.result
    c.in_ok-considered_groups.ensures.considers c.in-Some.is c.merge_const_groups.ensures.decides
