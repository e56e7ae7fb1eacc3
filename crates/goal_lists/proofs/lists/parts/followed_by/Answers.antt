use Rattle.std.proofs.Common.{sym, ap, subst}
use Rattle.goal_lists.specs.Entries.{arguments, followed_by}
use Rattle.goal_lists.specs.Interned.{AreIn, erased_all}
use Rattle.goal_lists.proofs.lists.parts.followed_by.Goals as goal

pub returns-clause-within : goal.returns-clause-within
returns-clause-within c T here = subst (AreIn T) (sym c.in_ok-made.ensures) here

pub returns-clause-entry : goal.returns-clause-entry
returns-clause-entry c T = ap (λ ids. arguments (followed_by c.args.number (erased_all T ids))) c.in_ok-made.ensures
