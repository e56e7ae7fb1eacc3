use Rattle.goal_kinds.proofs.ExamplesOfFreeAliases.{example-free_alias, example-free_alias_lower, example-refuted_clause, example-refuted_clause_lower, example-opaque_kept, example-opaque_kept_lower, example-opaque_revealed, example-opaque_revealed_lower}
use Rattle.goal_kinds.proofs.laws.worked_examples.free_and_opaque_aliases.Goals as goal

pub returns-clause-free_alias : goal.returns-clause-free_alias
returns-clause-free_alias c = example-free_alias

pub returns-clause-free_alias_lower : goal.returns-clause-free_alias_lower
returns-clause-free_alias_lower c = example-free_alias_lower

pub returns-clause-refuted_clause : goal.returns-clause-refuted_clause
returns-clause-refuted_clause c = example-refuted_clause

pub returns-clause-refuted_clause_lower : goal.returns-clause-refuted_clause_lower
returns-clause-refuted_clause_lower c = example-refuted_clause_lower

pub returns-clause-opaque_kept : goal.returns-clause-opaque_kept
returns-clause-opaque_kept c = example-opaque_kept

pub returns-clause-opaque_kept_lower : goal.returns-clause-opaque_kept_lower
returns-clause-opaque_kept_lower c = example-opaque_kept_lower

pub returns-clause-opaque_revealed : goal.returns-clause-opaque_revealed
returns-clause-opaque_revealed c = example-opaque_revealed

pub returns-clause-opaque_revealed_lower : goal.returns-clause-opaque_revealed_lower
returns-clause-opaque_revealed_lower c = example-opaque_revealed_lower
