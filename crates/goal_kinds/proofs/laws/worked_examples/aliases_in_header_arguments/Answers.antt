use Rattle.goal_kinds.proofs.ExamplesOfHeaders.{example-alias_in_header, example-alias_in_header_lower, example-alias_clashes, example-alias_clashes_lower}
use Rattle.goal_kinds.proofs.laws.worked_examples.aliases_in_header_arguments.Goals as goal

pub returns-clause-alias_in_header : goal.returns-clause-alias_in_header
returns-clause-alias_in_header c = example-alias_in_header

pub returns-clause-alias_in_header_lower : goal.returns-clause-alias_in_header_lower
returns-clause-alias_in_header_lower c = example-alias_in_header_lower

pub returns-clause-alias_clashes : goal.returns-clause-alias_clashes
returns-clause-alias_clashes c = example-alias_clashes

pub returns-clause-alias_clashes_lower : goal.returns-clause-alias_clashes_lower
returns-clause-alias_clashes_lower c = example-alias_clashes_lower
