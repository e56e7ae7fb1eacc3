use Rattle.goal_lists.specs.Levels.{level}
use Rattle.goal_lists.proofs.ProjectionLists.{projection_list-gives, projection_list-refuted}
use Rattle.goal_kinds.proofs.laws.lists.projection_lists_say_what_candidates_do.Goals as goal

pub returns-clause-gives : goal.returns-clause-gives
returns-clause-gives c = λ S n p itself x t. projection_list-gives S (level S n) p itself x t

pub returns-clause-refuted : goal.returns-clause-refuted
returns-clause-refuted c = λ S n p itself x. projection_list-refuted S (level S n) p itself x
