use Rattle.goal_kinds.proofs.ExamplesOfInherentItems.{example-inherent, example-inherent_lower, example-inherent_clashes, example-inherent_clashes_lower}
use Rattle.goal_kinds.proofs.laws.worked_examples.inherent_items.Goals as goal

pub returns-clause-inherent : goal.returns-clause-inherent
returns-clause-inherent c = example-inherent

pub returns-clause-inherent_lower : goal.returns-clause-inherent_lower
returns-clause-inherent_lower c = example-inherent_lower

pub returns-clause-inherent_clashes : goal.returns-clause-inherent_clashes
returns-clause-inherent_clashes c = example-inherent_clashes

pub returns-clause-inherent_clashes_lower : goal.returns-clause-inherent_clashes_lower
returns-clause-inherent_clashes_lower c = example-inherent_clashes_lower
