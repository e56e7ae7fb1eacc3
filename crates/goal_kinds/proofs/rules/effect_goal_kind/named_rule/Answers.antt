use Rattle.goal_kinds.proofs.rules.effect_goal_kind.named_rule.Goals as goal

pub returns-then-is_for-clause-refused : goal.returns-then-is_for-clause-refused
returns-then-is_for-clause-refused c = λ env e. c.const_built_in_rule.ensures.refused env
