use Rattle.goal_lists.proofs.NamedRowLemmas.{one-named}
use Rattle.goal_lists.proofs.lists.traits.assumption_list.Goals as goal

pub returns-in_ok-vec-in-Trait-clause-named : goal.returns-in_ok-vec-in-Trait-clause-named
returns-in_ok-vec-in-Trait-clause-named c = λ t.
    one-named t c.in_ok-vec-in-Trait.field-0.items c.in_ok-equal-in-Trait.equal c.in_ok-vec-in-Trait.ensures.items (c.in_ok-equal-in-Trait.ensures.named t)
