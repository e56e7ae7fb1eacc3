use Rattle.std.proofs.Common.{[], sym, subst}
use Rattle.goal_lists.specs.Interned.{AreIn}
use Rattle.goal_lists.proofs.ListPartLemmas.{one-in, joined-in}
use Rattle.goal_lists.proofs.NamedRowLemmas.{one-named, joined-named, premises-name}
use Rattle.goal_lists.proofs.lists.effects.implied_list.Goals as goal

pub returns-clause-within : goal.returns-clause-within
returns-clause-within c T args bound conditions =
    joined-in T c.append.new.self.items c.in_ok-entries.entries.items c.in_ok-asked.asked.items c.in_ok-append.ensures.items
    (one-in T c.in_ok-entries.entries.items c.in_ok-equal.equal c.in_ok-entries.ensures.items
    (c.in_ok-equal.ensures.within T (subst (AreIn T) (sym c.as_slice.ensures.value) bound) args))
    (c.in_ok-asked.ensures.within T conditions)

pub returns-clause-named : goal.returns-clause-named
returns-clause-named c t =
    joined-named t c.append.new.self.items c.in_ok-entries.entries.items c.in_ok-asked.asked.items c.in_ok-append.ensures.items
    (one-named t c.in_ok-entries.entries.items c.in_ok-equal.equal c.in_ok-entries.ensures.items (c.in_ok-equal.ensures.named t))
    (premises-name t [] _ _ _ (c.in_ok-asked.ensures.entries []))
