use Rattle.goal_kinds.proofs.ExamplesOfTwoImpls.{example-two_impls, example-two_impls_lower, example-no_fit, example-no_fit_lower}
use Rattle.goal_kinds.proofs.laws.worked_examples.two_impls_agree.Goals as goal

pub returns-clause-two_impls : goal.returns-clause-two_impls
returns-clause-two_impls c = example-two_impls

pub returns-clause-two_impls_lower : goal.returns-clause-two_impls_lower
returns-clause-two_impls_lower c = example-two_impls_lower

pub returns-clause-no_fit : goal.returns-clause-no_fit
returns-clause-no_fit c = example-no_fit

pub returns-clause-no_fit_lower : goal.returns-clause-no_fit_lower
returns-clause-no_fit_lower c = example-no_fit_lower
