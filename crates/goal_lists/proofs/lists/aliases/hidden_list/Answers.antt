use Rattle.std.proofs.Common.{ap}
use Rattle.std.specs.Option.{option_map}
use Rattle.goal_terms.specs.TreeOf.{tree_of_ty}
use Rattle.goal_lists.proofs.NamedRowLemmas.{two-named}
use Rattle.goal_lists.proofs.lists.aliases.hidden_list.Goals as goal

pub returns-clause-named : goal.returns-clause-named
returns-clause-named c t found = two-named t _ _ _ c.in_ok-vec.ensures.items (c.in_ok-named.ensures.named t) (ap (option_map (λ r. tree_of_ty r.hidden)) found)
