use Rattle.goal_kinds.proofs.ExamplesOfSpecializedImpls.{example-passed_over, example-passed_over_lower, example-decides, example-decides_lower, example-special_by_alias, example-special_by_alias_lower, example-unspecialized}
use Rattle.goal_kinds.proofs.laws.worked_examples.more_special_impls.Goals as goal

pub returns-clause-passed_over : goal.returns-clause-passed_over
returns-clause-passed_over c = example-passed_over

pub returns-clause-passed_over_lower : goal.returns-clause-passed_over_lower
returns-clause-passed_over_lower c = example-passed_over_lower

pub returns-clause-decides : goal.returns-clause-decides
returns-clause-decides c = example-decides

pub returns-clause-decides_lower : goal.returns-clause-decides_lower
returns-clause-decides_lower c = example-decides_lower

pub returns-clause-by_alias : goal.returns-clause-by_alias
returns-clause-by_alias c = example-special_by_alias

pub returns-clause-by_alias_lower : goal.returns-clause-by_alias_lower
returns-clause-by_alias_lower c = example-special_by_alias_lower

pub returns-clause-unspecialized : goal.returns-clause-unspecialized
returns-clause-unspecialized c = example-unspecialized
