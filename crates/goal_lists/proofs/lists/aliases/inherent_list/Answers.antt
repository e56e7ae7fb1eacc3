use Rattle.std.proofs.Common.{[], Some, sym, ap, ◌∙◌}
use Rattle.std.proofs.lemmas.List.Elements.{All-cons, All-nil}
use Rattle.goal_lists.specs.Interned.{IsIn}
use Rattle.goal_lists.proofs.FewEntries.{four-in}
use Rattle.std.specs.Option.{option_map, option_and_then}
use Rattle.goal_terms.specs.TreeOf.{tree_of_term}
use Rattle.goal_lists.proofs.NamedRowLemmas.{inherent-header, four-named}
use Rattle.goal_lists.proofs.lists.aliases.inherent_list.Goals as goal

pub returns-clause-within : goal.returns-clause-within
returns-clause-within c T self own =
    four-in T _ _ _ _ _ c.in_ok-vec.ensures.items (c.in_ok-matched.ensures.within T (All-cons (IsIn T) c.args.self_ty [] self (All-nil (IsIn T))))
    (c.in_ok-followed.ensures.within T own) tt (c.row_value-value.ensures.within T)

pub returns-clause-named : goal.returns-clause-named
returns-clause-named c t found impl_found =
    four-named t _ _ _ _ _ c.in_ok-vec.ensures.items (c.in_ok-matched.ensures.named t (inherent-header t c.args.of.now _ impl_found c.as_slice.ensures.value))
    (c.in_ok-followed.ensures.named t) (ap (option_map (λ r. r.predicates.items)) found ∙ ap Some (sym c.as_slice-2.ensures.value))
    (c.row_value-value.ensures.named t (ap (option_and_then (λ r. option_map tree_of_term r.value)) found))
