use Rattle.goal_lists.proofs.ListHeights.{list_holds-higher, list_gives-higher, list_refuted-higher}
use Rattle.goal_kinds.proofs.laws.lists.more_height_keeps_lists.Goals as goal

pub returns-clause-holds : goal.returns-clause-holds
returns-clause-holds c = list_holds-higher

pub returns-clause-gives : goal.returns-clause-gives
returns-clause-gives c = list_gives-higher

pub returns-clause-refuted : goal.returns-clause-refuted
returns-clause-refuted c = list_refuted-higher
