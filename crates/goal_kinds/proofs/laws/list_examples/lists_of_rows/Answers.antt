use Rattle.goal_kinds.proofs.ExamplesOfLists.{example-missing_value, example-other_impl, example-const_impl, example-opaque}
use Rattle.goal_kinds.proofs.laws.list_examples.lists_of_rows.Goals as goal

pub returns-clause-missing_value : goal.returns-clause-missing_value
returns-clause-missing_value c = example-missing_value

pub returns-clause-other_impl : goal.returns-clause-other_impl
returns-clause-other_impl c = example-other_impl

pub returns-clause-const_impl : goal.returns-clause-const_impl
returns-clause-const_impl c = example-const_impl

pub returns-clause-recorded_opaque : goal.returns-clause-recorded_opaque
returns-clause-recorded_opaque c = example-opaque
