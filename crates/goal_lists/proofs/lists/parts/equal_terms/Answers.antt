use Rattle.std.proofs.Common.{sym, ap₂, subst}
use Rattle.goal_lists.specs.Entries.{equal_terms}
use Rattle.goal_lists.specs.Interned.{AreIn, erased_all}
use Rattle.goal_lists.proofs.lists.parts.equal_terms.Goals as goal

pub returns-clause-within : goal.returns-clause-within
returns-clause-within c T left right = (subst (AreIn T) (sym c.in_ok-first.ensures) left, subst (AreIn T) (sym c.in_ok-second.ensures) right)

pub returns-clause-entry : goal.returns-clause-entry
returns-clause-entry c T = ap₂ (λ a b. equal_terms (erased_all T a) (erased_all T b)) c.in_ok-first.ensures c.in_ok-second.ensures
