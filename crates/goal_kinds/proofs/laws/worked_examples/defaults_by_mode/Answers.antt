use Rattle.goal_kinds.proofs.ExamplesOfDefaults.{example-default_kept, example-default_kept_lower, example-default_taken, example-default_taken_lower}
use Rattle.goal_kinds.proofs.laws.worked_examples.defaults_by_mode.Goals as goal

pub returns-clause-default_kept : goal.returns-clause-default_kept
returns-clause-default_kept c = example-default_kept

pub returns-clause-default_kept_lower : goal.returns-clause-default_kept_lower
returns-clause-default_kept_lower c = example-default_kept_lower

pub returns-clause-default_taken : goal.returns-clause-default_taken
returns-clause-default_taken c = example-default_taken

pub returns-clause-default_taken_lower : goal.returns-clause-default_taken_lower
returns-clause-default_taken_lower c = example-default_taken_lower
