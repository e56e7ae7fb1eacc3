use Rattle.goal_kinds.proofs.ExamplesOfCalls.{example-output, example-output_lower, example-wrong_argument, example-wrong_argument_lower}
use Rattle.goal_kinds.proofs.laws.worked_examples.calls_of_pointers.Goals as goal

pub returns-clause-output : goal.returns-clause-output
returns-clause-output c = example-output

pub returns-clause-output_lower : goal.returns-clause-output_lower
returns-clause-output_lower c = example-output_lower

pub returns-clause-wrong_argument : goal.returns-clause-wrong_argument
returns-clause-wrong_argument c = example-wrong_argument

pub returns-clause-wrong_argument_lower : goal.returns-clause-wrong_argument_lower
returns-clause-wrong_argument_lower c = example-wrong_argument_lower
