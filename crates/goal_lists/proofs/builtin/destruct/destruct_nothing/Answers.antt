use Rattle.std.proofs.lemmas.List.Elements.{All-nil}
use Rattle.goal_lists.specs.Interned.{IsIn}
use Rattle.goal_lists.proofs.builtin.destruct.destruct_nothing.Goals as goal

pub returns-clause-within : goal.returns-clause-within
returns-clause-within c T = c.in_ok-rule.ensures.within T (All-nil (IsIn T))
