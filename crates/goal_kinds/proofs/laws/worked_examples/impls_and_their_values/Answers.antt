use Rattle.goal_kinds.proofs.ExamplesOfImpls.{example-impl, example-impl_lower, example-plain_impl_as_const, example-plain_impl_as_const_lower, example-type_of_impl, example-type_of_impl_lower, example-no_impl, example-no_impl_lower, example-negative_impl, example-negative_impl_lower, example-negative_impl_as_const, example-negative_impl_as_const_lower, example-missing_value, example-missing_value_lower, example-missing_in_unsized, example-missing_in_unsized_lower, example-error, example-error_lower, example-error_as_const, example-error_as_const_lower, example-type_of_error, example-type_of_error_lower}
use Rattle.goal_kinds.proofs.laws.worked_examples.impls_and_their_values.Goals as goal

pub returns-clause-plain_impl : goal.returns-clause-plain_impl
returns-clause-plain_impl c = example-impl

pub returns-clause-plain_impl_lower : goal.returns-clause-plain_impl_lower
returns-clause-plain_impl_lower c = example-impl_lower

pub returns-clause-plain_impl_as_const : goal.returns-clause-plain_impl_as_const
returns-clause-plain_impl_as_const c = example-plain_impl_as_const

pub returns-clause-plain_impl_as_const_lower : goal.returns-clause-plain_impl_as_const_lower
returns-clause-plain_impl_as_const_lower c = example-plain_impl_as_const_lower

pub returns-clause-type_of_impl : goal.returns-clause-type_of_impl
returns-clause-type_of_impl c = example-type_of_impl

pub returns-clause-type_of_impl_lower : goal.returns-clause-type_of_impl_lower
returns-clause-type_of_impl_lower c = example-type_of_impl_lower

pub returns-clause-no_impl : goal.returns-clause-no_impl
returns-clause-no_impl c = example-no_impl

pub returns-clause-no_impl_lower : goal.returns-clause-no_impl_lower
returns-clause-no_impl_lower c = example-no_impl_lower

pub returns-clause-negative_impl : goal.returns-clause-negative_impl
returns-clause-negative_impl c = example-negative_impl

pub returns-clause-negative_impl_lower : goal.returns-clause-negative_impl_lower
returns-clause-negative_impl_lower c = example-negative_impl_lower

pub returns-clause-negative_impl_as_const : goal.returns-clause-negative_impl_as_const
returns-clause-negative_impl_as_const c = example-negative_impl_as_const

pub returns-clause-negative_impl_as_const_lower : goal.returns-clause-negative_impl_as_const_lower
returns-clause-negative_impl_as_const_lower c = example-negative_impl_as_const_lower

pub returns-clause-missing_value : goal.returns-clause-missing_value
returns-clause-missing_value c = example-missing_value

pub returns-clause-missing_value_lower : goal.returns-clause-missing_value_lower
returns-clause-missing_value_lower c = example-missing_value_lower

pub returns-clause-missing_in_unsized : goal.returns-clause-missing_in_unsized
returns-clause-missing_in_unsized c = example-missing_in_unsized

pub returns-clause-missing_in_unsized_lower : goal.returns-clause-missing_in_unsized_lower
returns-clause-missing_in_unsized_lower c = example-missing_in_unsized_lower

pub returns-clause-error_holds : goal.returns-clause-error_holds
returns-clause-error_holds c = example-error

pub returns-clause-error_holds_lower : goal.returns-clause-error_holds_lower
returns-clause-error_holds_lower c = example-error_lower

pub returns-clause-error_as_const : goal.returns-clause-error_as_const
returns-clause-error_as_const c = example-error_as_const

pub returns-clause-error_as_const_lower : goal.returns-clause-error_as_const_lower
returns-clause-error_as_const_lower c = example-error_as_const_lower

pub returns-clause-type_of_error : goal.returns-clause-type_of_error
returns-clause-type_of_error c = example-type_of_error

pub returns-clause-type_of_error_lower : goal.returns-clause-type_of_error_lower
returns-clause-type_of_error_lower c = example-type_of_error_lower
