use Rattle.goal_kinds.proofs.RuleLemmas.{holds-higher, gives-higher, refuted-higher}
use Rattle.goal_kinds.proofs.laws.rules.more_height_keeps_rules.Goals as goal

pub returns-clause-holds : goal.returns-clause-holds
returns-clause-holds c = holds-higher

pub returns-clause-gives : goal.returns-clause-gives
returns-clause-gives c = gives-higher

pub returns-clause-refuted : goal.returns-clause-refuted
returns-clause-refuted c = refuted-higher
