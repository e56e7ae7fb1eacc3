use Rattle.std.proofs.Common.{sym, ap, subst}
use Rattle.goal_lists.specs.Entries.{arguments, of_header}
use Rattle.goal_lists.specs.Interned.{AreIn, erased_all}
use Rattle.goal_lists.specs.InternedEntries.{header_trees}
use Rattle.goal_lists.proofs.lists.parts.of_header.Goals as goal

pub returns-clause-within : goal.returns-clause-within
returns-clause-within c T here = subst (AreIn T) (sym c.in_ok-made.ensures) here

pub returns-clause-entry : goal.returns-clause-entry
returns-clause-entry c T = ap (λ ids. arguments (of_header c.args.header.params.now (header_trees c.args.header.terms) (erased_all T ids))) c.in_ok-made.ensures
