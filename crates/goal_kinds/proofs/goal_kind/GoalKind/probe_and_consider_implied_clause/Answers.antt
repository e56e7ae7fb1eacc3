use Rattle.goal_lists.specs.Answers.{setting_of}
use Rattle.goal_kinds.proofs.RuleListLemmas.{gives-behind, refuted_as-behind}
use Rattle.goal_kinds.proofs.ExpectedLemmas.{requirements-for}
use Rattle.goal_kinds.proofs.goal_kind.GoalKind.probe_and_consider_implied_clause.Goals as goal

pub returns-clause-gives : goal.returns-clause-gives
returns-clause-gives g c =
    gives-behind g.Self.GoalKind.words.has_term (setting_of c.args.tables.now c.args.mode.now c.args.goal.now.param_env.items) _
    c.in_ok-rule.rule c.in_ok-with_requirements.field-0 c.args.requirements.items
    c.in_ok-with_requirements.ensures.entries c.in_ok-rule.ensures.gives

pub returns-clause-refuted : goal.returns-clause-refuted
returns-clause-refuted g c =
    refuted_as-behind (setting_of c.args.tables.now c.args.mode.now c.args.goal.now.param_env.items) _
    c.in_ok-rule.rule c.in_ok-with_requirements.field-0 c.args.requirements.items
    c.in_ok-with_requirements.ensures.entries c.in_ok-rule.ensures.given c.in_ok-rule.ensures.refuted

pub returns-clause-expected : goal.returns-clause-expected
returns-clause-expected g c =
    requirements-for (g.Self.GoalKind.words.expected c.args.goal.now.predicate) _ c.in_ok-rule.rule.entries.items c.args.requirements.items
    c.in_ok-with_requirements.ensures.entries c.in_ok-rule.ensures.expected
