use Rattle.std.proofs.Common.{◌∙◌, sym, ap}
use Rattle.std.specs.Prelude.{slice_get, ◌==◌}
use Rattle.std.specs.Option.{option_and_then}
use Rattle.goal_tables.proofs.LookupLemmas.{find-index, within-index}
use Rattle.goal_tables.proofs.index.RowIndex.row.Goals as goal

pub row_at-requires : goal.row_at-requires
row_at-requires g c =
    λ n e. within-index ◌==◌ g.R.Row.id_number c.args.rows.now c.args.self.now.places c.args.number c.requires.places n (sym c.place_of-place.ensures ∙ e)

pub returns : goal.returns
returns g c =
    c.row_at.ensures
    ∙ ap (option_and_then (slice_get c.args.rows.now)) c.place_of-place.ensures
    ∙ find-index ◌==◌ g.R.Row.id_number c.args.rows.now c.args.self.now.places c.args.number c.requires.places
