use Rattle.goal_kinds.proofs.ExamplesOfLists.{example-rule, example-no_impl, example-no_value}
use Rattle.goal_kinds.proofs.laws.list_examples.lists_of_rules.Goals as goal

pub returns-clause-missing_value : goal.returns-clause-missing_value
returns-clause-missing_value c = example-rule

pub returns-clause-no_impl : goal.returns-clause-no_impl
returns-clause-no_impl c = example-no_impl

pub returns-clause-no_value : goal.returns-clause-no_value
returns-clause-no_value c = example-no_value
