use Rattle.std.proofs.Common.{◌∙◌, sym, ap}
use Rattle.std.specs.Prelude.{slice_get}
use Rattle.std.specs.Option.{option_and_then}
use Rattle.goal_tables.specs.Places.{same_pair}
use Rattle.goal_tables.specs.declared.rows.SourceRow.{SourceRow}
use Rattle.goal_tables.proofs.LookupLemmas.{find-index, within-index}
use Rattle.goal_tables.proofs.lookup.source_at.Goals as goal

pub row_at-requires : goal.row_at-requires
row_at-requires c =
    λ n e. within-index same_pair (λ (r : SourceRow). (r.impl_id.0, r.item_id.0)) c.args.rows.now c.args.index.now.places c.args.key c.requires.places n (sym c.place_of_pair-place.ensures ∙ e)

pub returns : goal.returns
returns c =
    c.row_at.ensures
    ∙ ap (option_and_then (slice_get c.args.rows.now)) c.place_of_pair-place.ensures
    ∙ find-index same_pair (λ (r : SourceRow). (r.impl_id.0, r.item_id.0)) c.args.rows.now c.args.index.now.places c.args.key c.requires.places
