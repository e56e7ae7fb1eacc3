use Rattle.std.proofs.Common.{◌∙◌, ap}
use Rattle.std.specs.Prelude.{slice_get, ◌==◌}
use Rattle.std.specs.Option.{option_and_then}
use Rattle.goal_tables.specs.Options.{option_holds}
use Rattle.goal_tables.specs.Indexed.{lists_number}
use Rattle.goal_tables.specs.declared.rows.TraitRow.{TraitRow}
use Rattle.goal_tables.proofs.LookupLemmas.{find-index}
use Rattle.goal_tables.proofs.lookup.lists_in.Goals as goal

pub returns : goal.returns
returns c =
    c.lists_number.ensures
    ∙ ap (λ o. option_holds (λ r. lists_number r c.args.item.0) (option_and_then (slice_get c.args.rows.now) o)) c.place_of-place.ensures
    ∙ ap (option_holds (λ r. lists_number r c.args.item.0)) (find-index ◌==◌ (λ (r : TraitRow). r.id.0) c.args.rows.now c.args.index.now.traits.places c.args.id.0 c.requires.traits.places)
