use Rattle.goal_kinds.proofs.ExamplesOfMetadata.{example-metadata_of_bool, example-metadata_of_bool_lower, example-metadata_of_tuple, example-metadata_of_tuple_lower, example-metadata_of_sized_param, example-metadata_of_sized_param_lower, example-metadata_of_param, example-metadata_of_param_lower}
use Rattle.goal_kinds.proofs.laws.worked_examples.metadata_is_a_type.Goals as goal

pub returns-clause-metadata_of_bool : goal.returns-clause-metadata_of_bool
returns-clause-metadata_of_bool c = example-metadata_of_bool

pub returns-clause-metadata_of_bool_lower : goal.returns-clause-metadata_of_bool_lower
returns-clause-metadata_of_bool_lower c = example-metadata_of_bool_lower

pub returns-clause-metadata_of_tuple : goal.returns-clause-metadata_of_tuple
returns-clause-metadata_of_tuple c = example-metadata_of_tuple

pub returns-clause-metadata_of_tuple_lower : goal.returns-clause-metadata_of_tuple_lower
returns-clause-metadata_of_tuple_lower c = example-metadata_of_tuple_lower

pub returns-clause-metadata_of_sized_param : goal.returns-clause-metadata_of_sized_param
returns-clause-metadata_of_sized_param c = example-metadata_of_sized_param

pub returns-clause-metadata_of_sized_param_lower : goal.returns-clause-metadata_of_sized_param_lower
returns-clause-metadata_of_sized_param_lower c = example-metadata_of_sized_param_lower

pub returns-clause-metadata_of_param : goal.returns-clause-metadata_of_param
returns-clause-metadata_of_param c = example-metadata_of_param

pub returns-clause-metadata_of_param_lower : goal.returns-clause-metadata_of_param_lower
returns-clause-metadata_of_param_lower c = example-metadata_of_param_lower
