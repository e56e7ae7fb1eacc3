use Rattle.std.proofs.Common.{◌≡◌, ◌∙◌, length, get_or, Some, sym, ap, subst, arith}
use Rattle.std.specs.Prelude.{slice_get, ◌==◌}
use Rattle.std.specs.List.{list_any}
use Rattle.std.proofs.lemmas.Option.{get_or_from_slice_get}
use Rattle.goal_tables.specs.Options.{option_holds}
use Rattle.goal_tables.specs.Indexed.{AreMoreSpecial}
use Rattle.goal_tables.proofs.SpecialLemmas.{special-at, specials-length, leads-same}
use Rattle.goal_tables.proofs.specialized.leads_back.Goals as goal

pub bounds-lists-place : goal.bounds-lists-place
bounds-lists-place c = omega (arith, c.requires.within, specials-length c.args.tables.now _ c.args.lists.now c.requires.lists)

pub returns : goal.returns
returns c = λ r e.
    let rows = c.args.tables.now.impls.items in
    let row : c.index-rows-place.result ≡ r =
    c.index-rows-place.is ∙ ap (λ rs. get_or rs c.args.place c.index-rows-place.result) c.as_slice-rows.ensures.value ∙ get_or_from_slice_get rows c.args.place r _ e in
    let listed : AreMoreSpecial c.args.tables.now r c.index-lists-place.result.items =
    subst (λ l. AreMoreSpecial c.args.tables.now r l.items) (sym c.index-lists-place.is) (special-at c.args.tables.now rows c.args.lists.now c.args.place r c.index-lists-place.result c.requires.lists e) in
    c.is_among.ensures
    ∙ ap (λ rs. list_any (λ p. option_holds (λ q. q.id.0 == c.index-rows-place.result.id.0) (slice_get rs p)) c.as_slice.result.now) c.as_slice-rows.ensures.value
    ∙ ap (λ ps. list_any (λ p. option_holds (λ q. q.id.0 == c.index-rows-place.result.id.0) (slice_get rows p)) ps) c.as_slice.ensures.value
    ∙ ap (λ w. list_any (λ p. option_holds (λ q. q.id.0 == w.id.0) (slice_get rows p)) c.index-lists-place.result.items) row
    ∙ leads-same c.args.tables.now r c.index-lists-place.result.items listed
