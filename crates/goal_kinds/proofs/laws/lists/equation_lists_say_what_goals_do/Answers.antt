use Rattle.goal_lists.proofs.ProjectionLists.{equation_list-holds, equation_list-refuted}
use Rattle.goal_kinds.proofs.laws.lists.equation_lists_say_what_goals_do.Goals as goal

pub returns-clause-holds : goal.returns-clause-holds
returns-clause-holds c = equation_list-holds

pub returns-clause-refuted : goal.returns-clause-refuted
returns-clause-refuted c = equation_list-refuted
