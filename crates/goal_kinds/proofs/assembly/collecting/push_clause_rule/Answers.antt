use Rattle.std.proofs.Common.{inl}
use Rattle.goal_kinds.proofs.assembly.collecting.push_clause_rule.Goals as goal

pub returns-in_ok-push_rule-in-Ok-clause-adds : goal.returns-in_ok-push_rule-in-Ok-clause-adds
returns-in_ok-push_rule-in-Ok-clause-adds g c = inl (c.in-Ok.rule, c.in_ok-push_rule-in-Ok.ensures, (c.in-Ok.ensures.list, (c.in-Ok.ensures.gives, c.in-Ok.ensures.refuted)))
