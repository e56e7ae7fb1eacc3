use Rattle.std.proofs.Common.{◌∙◌, ap}
use Rattle.goal_terms.specs.View.{trees_seen}
use Rattle.goal_tables.specs.FixedParams.{some_param, is_unmarked, has_unfixed}
use Rattle.goal_tables.proofs.MarkLemmas.{unmarked_unfixed}
use Rattle.goal_tables.proofs.fixed_params.has_unfixed.Goals as goal

pub returns : goal.returns
unfolding has_unfixed
returns c =
    c.has_unmarked.ensures
    ∙ ap (λ ms. some_param (is_unmarked ms) c.args.params.now 0) c.as_slice.ensures.value
    ∙ unmarked_unfixed c.args.params.now (trees_seen c.args.parts) c.in_ok-marks.marks.items c.in_ok-marks.ensures.marked
