use Rattle.std.proofs.Common.{◌∙◌, sym, ap, arith}
use Rattle.std.specs.Prelude.{slice_get}
use Rattle.std.specs.Option.{option_and_then}
use Rattle.std.specs.Prelude.{◌==◌, is_some}
use Rattle.std.specs.HashMap.{get}
use Rattle.goal_tables.specs.Options.{option_holds}
use Rattle.goal_tables.specs.Indexed.{lists_number}
use Rattle.goal_tables.proofs.IndexLemmas.{listed_at, listed_past}
use Rattle.goal_tables.proofs.listings.lists_number.Goals as goal

pub returns-in-Some : goal.returns-in-Some
returns-in-Some c =
    c.has_number.ensures
    ∙ ap (λ i. is_some (get ◌==◌ i.places c.args.number)) c.index-lists-place.is
    ∙ listed_at c.args.rows.now c.args.lists.now c.in-Some.place c.args.number c.index-lists-place.result c.requires c.if-place-lists.true
    ∙ ap (λ o. option_holds (λ r. lists_number r c.args.number) (option_and_then (slice_get c.args.rows.now) o)) (sym c.in-Some.is)

pub returns-in_default : goal.returns-in_default
returns-in_default c =
    listed_past c.args.rows.now c.args.lists.now c.in-Some.place c.args.number c.requires (omega arith)
    ∙ ap (λ o. option_holds (λ r. lists_number r c.args.number) (option_and_then (slice_get c.args.rows.now) o)) (sym c.in-Some.is)
