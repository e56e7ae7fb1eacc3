use Rattle.std.proofs.Common.{ap, ◌∙◌}
use Rattle.goal_terms.specs.TreeOf.{tree_of_ty}
use Rattle.goal_solver.proofs.StoredLemmas.{place-contains, get-index}
use Rattle.goal_solver.proofs.context.storage.hidden_type_of.Goals as goal

pub returns : goal.returns
returns c =
    let found = c.in-Some.ensures.found in (
      found.0,
      (place-contains c.args.entries.now c.in-Some.place found.0 found.1, found.2),
      c.in_ok-clone.ensures.cases ∙ ap (λ z. tree_of_ty z.1) (get-index c.args.entries.now c.in-Some.place found.0 found.1 c.index-entries-place.result),
    )
