use Rattle.goal_kinds.specs.Collecting.{kind_of}
use Rattle.goal_kinds.proofs.ClassRuleLemmas.{each-class}
use Rattle.goal_kinds.proofs.assembly.class_rules.rules_by_class.Goals as goal

pub returns-clause-collected : goal.returns-clause-collected
returns-clause-collected g c =
    each-class (kind_of g.G.GoalKind.words g.G.PredicateTerms.has_fault) c.args.tables.now c.args.goal c.args.mode.now
    (record { param_env = c.args.goal.param_env; environment = c.in_ok-environment.environment; bounds = c.in_ok-bounds.bounds; rest = c.in_ok-rest.rest })
    c.in_ok-environment.ensures.collected c.in_ok-bounds.ensures.collected c.in_ok-rest.ensures.collected
