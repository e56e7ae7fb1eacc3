use Rattle.std.proofs.Common.{inl}
use Rattle.goal_kinds.proofs.assembly.collecting.push_impl_rule.Goals as goal

pub returns-in_ok-push_rule-in-Ok-clause-adds : goal.returns-in_ok-push_rule-in-Ok-clause-adds
returns-in_ok-push_rule-in-Ok-clause-adds g c found own =
    inl (
      c.in-Ok.rule,
      c.in_ok-push_rule-in-Ok.ensures,
      (
        c.in-Ok.ensures.list c.args.row.now found,
        (c.in-Ok.ensures.gives c.args.row.now found own, c.in-Ok.ensures.refuted c.args.row.now found own),
      ),
    )
