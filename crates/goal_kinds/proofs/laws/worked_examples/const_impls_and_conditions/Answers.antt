use Rattle.goal_kinds.proofs.ExamplesOfConstImpls.{example-const_impl, example-const_impl_lower, example-refuted_condition, example-refuted_condition_lower}
use Rattle.goal_kinds.proofs.laws.worked_examples.const_impls_and_conditions.Goals as goal

pub returns-clause-const_impl : goal.returns-clause-const_impl
returns-clause-const_impl c = example-const_impl

pub returns-clause-const_impl_lower : goal.returns-clause-const_impl_lower
returns-clause-const_impl_lower c = example-const_impl_lower

pub returns-clause-refuted_condition : goal.returns-clause-refuted_condition
returns-clause-refuted_condition c = example-refuted_condition

pub returns-clause-refuted_condition_lower : goal.returns-clause-refuted_condition_lower
returns-clause-refuted_condition_lower c = example-refuted_condition_lower
