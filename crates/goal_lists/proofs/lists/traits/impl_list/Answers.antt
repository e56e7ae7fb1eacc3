use Rattle.std.proofs.Common.{◌∙◌, ap}
use Rattle.std.proofs.lemmas.Result.{IfOk-weaker}
use Rattle.goal_lists.specs.TraitLists.{list_by_polarity}
use Rattle.goal_lists.proofs.lists.traits.impl_list.Goals as goal

pub returns-clause-within : goal.returns-clause-within
returns-clause-within c T here = c.list_by_polarity.ensures.within T (c.in_ok-entries.ensures.within T here)

pub returns-clause-list : goal.returns-clause-list
returns-clause-list c T =
    IfOk-weaker c.list_by_polarity.result _ _ (λ o by. by ∙ ap (list_by_polarity c.args.mode.now c.args.row.now.polarity) (c.in_ok-entries.ensures.entries T))
    (c.list_by_polarity.ensures.list T)

pub returns-clause-named : goal.returns-clause-named
returns-clause-named c t found = c.list_by_polarity.ensures.named t (c.in_ok-entries.ensures.named t found)
