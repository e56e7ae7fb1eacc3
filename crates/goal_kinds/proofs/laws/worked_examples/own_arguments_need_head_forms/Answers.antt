use Rattle.goal_kinds.proofs.ExamplesOfOwnArguments.{example-refuted_own_argument, example-refuted_own_argument_lower}
use Rattle.goal_kinds.proofs.laws.worked_examples.own_arguments_need_head_forms.Goals as goal

pub returns-clause-refuted_own_argument : goal.returns-clause-refuted_own_argument
returns-clause-refuted_own_argument c = example-refuted_own_argument

pub returns-clause-refuted_own_argument_lower : goal.returns-clause-refuted_own_argument_lower
returns-clause-refuted_own_argument_lower c = example-refuted_own_argument_lower
