use Rattle.std.proofs.Common.{◌∙◌, sym, ap}
use Rattle.std.specs.Prelude.{slice_get}
use Rattle.std.specs.Option.{option_and_then}
use Rattle.goal_tables.specs.Rows.{same_lang_item}
use Rattle.goal_terms.specs.declared.lang.LangRow.{LangRow}
use Rattle.goal_tables.proofs.LookupLemmas.{find-index, within-index}
use Rattle.goal_tables.proofs.lookup.lang_at.Goals as goal

pub row_at-requires : goal.row_at-requires
row_at-requires c =
    λ n e. within-index same_lang_item (λ (r : LangRow). r.item) c.args.rows.now c.args.index.now.items c.args.item c.requires.items n (sym c.place_of_item-place.ensures ∙ e)

pub returns : goal.returns
returns c =
    c.row_at.ensures
    ∙ ap (option_and_then (slice_get c.args.rows.now)) c.place_of_item-place.ensures
    ∙ find-index same_lang_item (λ (r : LangRow). r.item) c.args.rows.now c.args.index.now.items c.args.item c.requires.items
