use Rattle.goal_kinds.proofs.rules.projection_goal_kind.named_rule.Goals as goal

pub returns-then-is_for-clause-refused : goal.returns-then-is_for-clause-refused
returns-then-is_for-clause-refused c = λ env e. c.built_in_term_rule.ensures.refused env
