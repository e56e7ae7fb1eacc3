use Rattle.std.proofs.Common.{inl}
use Rattle.goal_kinds.proofs.assembly.collecting.push_object_rule.Goals as goal

pub returns-in-Ok-clause-adds : goal.returns-in-Ok-clause-adds
returns-in-Ok-clause-adds g c = inl (c.in-Ok.rule, c.in_ok-push_rule-in-Ok.ensures, (c.in-Ok.ensures.list, (c.in-Ok.ensures.gives, c.in-Ok.ensures.refuted)))
