use Rattle.goal_lists.specs.Levels.{level}
use Rattle.goal_kinds.proofs.RulesAsLists.{rule_list-holds, rule_list-gives, rule_list-refuted}
use Rattle.goal_kinds.proofs.laws.rules.rules_say_what_their_lists_do.Goals as goal

pub returns-clause-holds : goal.returns-clause-holds
returns-clause-holds c = λ S n. rule_list-holds S (level S n)

pub returns-clause-gives : goal.returns-clause-gives
returns-clause-gives c = λ S n. rule_list-gives S (level S n)

pub returns-clause-refuted : goal.returns-clause-refuted
returns-clause-refuted c = λ S n. rule_list-refuted S (level S n)
