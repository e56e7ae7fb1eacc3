use Rattle.goal_kinds.proofs.ExamplesOfBounds.{example-bound, example-bound_lower, example-type_of_bounded, example-type_of_bounded_lower}
use Rattle.goal_kinds.proofs.laws.worked_examples.bounds_of_rigid_projections.Goals as goal

pub returns-clause-bound : goal.returns-clause-bound
returns-clause-bound c = example-bound

pub returns-clause-bound_lower : goal.returns-clause-bound_lower
returns-clause-bound_lower c = example-bound_lower

pub returns-clause-type_of_bounded : goal.returns-clause-type_of_bounded
returns-clause-type_of_bounded c = example-type_of_bounded

pub returns-clause-type_of_bounded_lower : goal.returns-clause-type_of_bounded_lower
returns-clause-type_of_bounded_lower c = example-type_of_bounded_lower
