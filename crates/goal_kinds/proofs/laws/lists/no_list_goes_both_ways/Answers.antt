use Rattle.goal_lists.proofs.ListHeights.{list_holds-not_refuted, list_gives-not_refuted, one_list_given}
use Rattle.goal_kinds.proofs.laws.lists.no_list_goes_both_ways.Goals as goal

pub returns-clause-holds : goal.returns-clause-holds
returns-clause-holds c = list_holds-not_refuted

pub returns-clause-gives : goal.returns-clause-gives
returns-clause-gives c = list_gives-not_refuted

pub returns-clause-one_term : goal.returns-clause-one_term
returns-clause-one_term c = one_list_given
