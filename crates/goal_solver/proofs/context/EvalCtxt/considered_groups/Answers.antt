use Rattle.goal_kinds.specs.Collecting.{kind_of}
use Rattle.goal_solver.proofs.OpenClassLemmas.{considered-accepted}
use Rattle.goal_solver.proofs.OpenProjectionLemmas.{collects-groups}
use Rattle.goal_solver.proofs.context.EvalCtxt.considered_groups.Goals as goal

pub rules_by_group-requires : goal.rules_by_group-requires
rules_by_group-requires g c = record {
  accepted = considered-accepted (kind_of g.G.GoalKind.words g.G.PredicateTerms.has_fault) c.args.goal.now c.in-Some.normalized c.args.self.now _ c.with_normalized_self_ty.new.self c.in_ok-normalized.field-0
      c.in_ok-normalized.ensures.forms c.in-Some.is c.self.view_is c.with_normalized_self_ty.ensures.unchanged;
}

pub returns-clause-considers : goal.returns-clause-considers
returns-clause-considers g c =
    collects-groups (kind_of g.G.GoalKind.words g.G.PredicateTerms.has_fault) c.args.class c.args.goal.now c.in-Some.normalized c.args.self.now _ c.with_normalized_self_ty.new.self c.in_ok-rules.rules c.in_ok-normalized.field-0
    c.in_ok-normalized.ensures.forms c.in-Some.is c.self.view_is c.with_normalized_self_ty.ensures.unchanged c.in_ok-rules.ensures.environment c.in_ok-rules.ensures.first c.in_ok-rules.ensures.later
