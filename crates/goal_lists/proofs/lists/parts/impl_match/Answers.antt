use Rattle.std.proofs.Common.{Some, ap, sym, ◌∙◌}
use Rattle.std.specs.Option.{option_map}
use Rattle.goal_lists.proofs.NamedRowLemmas.{impl-header, two-named}
use Rattle.goal_lists.proofs.lists.parts.impl_match.Goals as goal

pub returns-clause-named : goal.returns-clause-named
returns-clause-named c t found =
    two-named t _ _ _ c.in_ok-vec.ensures.items
    (c.in_ok-matched.ensures.named t (impl-header t c.args.row.now _ _ found c.as_slice.ensures.value c.as_slice-2.ensures.value))
    (ap (option_map (λ r. r.predicates.items)) found ∙ ap Some (sym c.as_slice-3.ensures.value))
