use Rattle.goal_lists.specs.Levels.{level}
use Rattle.goal_lists.proofs.AliasLists.{alias_list-gives, alias_list-refuted}
use Rattle.goal_kinds.proofs.laws.lists.alias_lists_say_what_aliases_do.Goals as goal

pub returns-clause-gives : goal.returns-clause-gives
returns-clause-gives c = λ S n k ts t none. alias_list-gives S (level S n) k ts none t

pub returns-clause-refuted : goal.returns-clause-refuted
returns-clause-refuted c = λ S n k ts none. alias_list-refuted S (level S n) k ts none
