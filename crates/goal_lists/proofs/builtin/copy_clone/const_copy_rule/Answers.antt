use Rattle.std.proofs.Common.{sym, subst}
use Rattle.goal_lists.specs.Interned.{AreIn}
use Rattle.goal_lists.proofs.builtin.copy_clone.const_copy_rule.Goals as goal

pub returns-clause-within : goal.returns-clause-within
returns-clause-within c =
    c.in_ok-rule.ensures.within c.copied_parts.new.terms (subst (AreIn c.copied_parts.new.terms) (sym c.as_slice.ensures.value) (rw c.in-Some.is at c.in_ok-tys.ensures.within))
