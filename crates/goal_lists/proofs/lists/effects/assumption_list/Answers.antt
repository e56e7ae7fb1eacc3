use Rattle.goal_lists.proofs.NamedRowLemmas.{one-named}
use Rattle.goal_lists.proofs.lists.effects.assumption_list.Goals as goal

pub returns-in_ok-vec-in-HostEffect-clause-named : goal.returns-in_ok-vec-in-HostEffect-clause-named
returns-in_ok-vec-in-HostEffect-clause-named c = λ t.
    one-named t c.in_ok-vec-in-HostEffect.field-0.items c.in_ok-equal-in-HostEffect.equal c.in_ok-vec-in-HostEffect.ensures.items (c.in_ok-equal-in-HostEffect.ensures.named t)
