use Rattle.goal_kinds.proofs.ExamplesOfEquations.{example-equation, example-equation_lower, example-wrong_equation, example-wrong_equation_lower}
use Rattle.goal_kinds.proofs.laws.worked_examples.equations.Goals as goal

pub returns-clause-equation : goal.returns-clause-equation
returns-clause-equation c = example-equation

pub returns-clause-equation_lower : goal.returns-clause-equation_lower
returns-clause-equation_lower c = example-equation_lower

pub returns-clause-wrong_equation : goal.returns-clause-wrong_equation
returns-clause-wrong_equation c = example-wrong_equation

pub returns-clause-wrong_equation_lower : goal.returns-clause-wrong_equation_lower
returns-clause-wrong_equation_lower c = example-wrong_equation_lower
