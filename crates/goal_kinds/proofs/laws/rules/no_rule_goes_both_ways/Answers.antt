use Rattle.goal_kinds.proofs.RuleLemmas.{holds-not_refuted, gives-not_refuted, one_given}
use Rattle.goal_kinds.proofs.laws.rules.no_rule_goes_both_ways.Goals as goal

pub returns-clause-holds : goal.returns-clause-holds
returns-clause-holds c = holds-not_refuted

pub returns-clause-gives : goal.returns-clause-gives
returns-clause-gives c = gives-not_refuted

pub returns-clause-one_term : goal.returns-clause-one_term
returns-clause-one_term c = one_given
