use Rattle.goal_lists.proofs.FewEntries.{three-in}
use Rattle.std.proofs.Common.{Some, sym, ap, ◌∙◌}
use Rattle.std.specs.Option.{option_map, option_and_then}
use Rattle.goal_terms.specs.TreeOf.{tree_of_term}
use Rattle.goal_lists.proofs.NamedRowLemmas.{three-named}
use Rattle.goal_lists.proofs.lists.aliases.free_list.Goals as goal

pub returns-clause-within : goal.returns-clause-within
returns-clause-within c T here = three-in T _ _ _ _ c.in_ok-vec.ensures.items (c.in_ok-named.ensures.within T here) tt (c.row_value-value.ensures.within T)

pub returns-clause-named : goal.returns-clause-named
returns-clause-named c t found =
    three-named t _ _ _ _ c.in_ok-vec.ensures.items (c.in_ok-named.ensures.named t)
    (ap (option_map (λ r. r.predicates.items)) found ∙ ap Some (sym c.as_slice.ensures.value))
    (c.row_value-value.ensures.named t (ap (option_and_then (λ r. option_map tree_of_term r.value)) found))
