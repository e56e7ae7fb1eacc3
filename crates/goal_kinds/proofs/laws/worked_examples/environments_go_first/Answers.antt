use Rattle.goal_kinds.proofs.ExamplesOfEnvironments.{example-environment_first, example-environment_first_lower, example-environment_hides_impl, example-hidden_type, example-hidden_type_lower, example-maybe_const, example-maybe_const_lower, example-not_always_const, example-not_always_const_lower, example-disagreeing, example-disagreeing_not_refuted}
use Rattle.goal_kinds.proofs.laws.worked_examples.environments_go_first.Goals as goal

pub returns-clause-environment_first : goal.returns-clause-environment_first
returns-clause-environment_first c = example-environment_first

pub returns-clause-environment_first_lower : goal.returns-clause-environment_first_lower
returns-clause-environment_first_lower c = example-environment_first_lower

pub returns-clause-environment_hides_impl : goal.returns-clause-environment_hides_impl
returns-clause-environment_hides_impl c = example-environment_hides_impl

pub returns-clause-hidden_type : goal.returns-clause-hidden_type
returns-clause-hidden_type c = example-hidden_type

pub returns-clause-hidden_type_lower : goal.returns-clause-hidden_type_lower
returns-clause-hidden_type_lower c = example-hidden_type_lower

pub returns-clause-maybe_const : goal.returns-clause-maybe_const
returns-clause-maybe_const c = example-maybe_const

pub returns-clause-maybe_const_lower : goal.returns-clause-maybe_const_lower
returns-clause-maybe_const_lower c = example-maybe_const_lower

pub returns-clause-not_always_const : goal.returns-clause-not_always_const
returns-clause-not_always_const c = example-not_always_const

pub returns-clause-not_always_const_lower : goal.returns-clause-not_always_const_lower
returns-clause-not_always_const_lower c = example-not_always_const_lower

pub returns-clause-disagreeing : goal.returns-clause-disagreeing
returns-clause-disagreeing c = example-disagreeing

pub returns-clause-disagreeing_not_refuted : goal.returns-clause-disagreeing_not_refuted
returns-clause-disagreeing_not_refuted c = example-disagreeing_not_refuted
