use Rattle.std.proofs.Common.{◌≡◌, ◌∙◌, ◌<◌, length, map, None, sym, ap, subst, arith}
use Rattle.std.specs.Prelude.{◌==◌, slice_get, IfOk}
use Rattle.std.specs.Option.{option_and_then}
use Rattle.goal_tables.specs.SpecialSearch.{Finds}
use Rattle.goal_tables.specs.Specialized.{if_row}
use Rattle.goal_tables.specs.Rows.{impl_of}
use Rattle.goal_tables.specs.declared.rows.ImplRow.{ImplRow}
use Rattle.goal_tables.proofs.LookupLemmas.{find-index, within-index}
use Rattle.goal_tables.proofs.SpecialLemmas.{finds-nothing, row-at}
use Rattle.goal_tables.proofs.specialized.Search.add_impl.Goals as goal

pub add_place-requires : goal.add_place-requires
add_place-requires c =
    let inside : c.in-Some.place < length c.args.tables.now.impls.items =
    within-index ◌==◌ (λ (r : ImplRow). r.id.0) c.args.tables.now.impls.items c.args.places.now.places c.args.id.0 c.requires.index.places c.in-Some.place (sym c.place_of.ensures ∙ c.in-Some.is) in
    record { within = omega (arith, inside, c.requires.valid.length) }

pub returns-in-None : goal.returns-in-None
returns-in-None c =
    let none : impl_of c.args.tables.now c.args.id ≡ None =
    sym (find-index ◌==◌ (λ (r : ImplRow). r.id.0) c.args.tables.now.impls.items c.args.places.now.places c.args.id.0 c.requires.index.places)
    ∙ ap (option_and_then (slice_get c.args.tables.now.impls.items)) (sym c.place_of.ensures ∙ c.in-None.is) in
    record {
      finds = subst (λ o. Finds c.args.tables.now (if_row o) c.args.self.now c.args.self.now) (sym none) (finds-nothing c.args.tables.now c.args.self.now c.requires.valid);
    }

pub returns-in-Some : goal.returns-in-Some
returns-in-Some c =
    let rows = c.args.tables.now.impls.items in
    let inside : c.in-Some.place < length rows =
    within-index ◌==◌ (λ (r : ImplRow). r.id.0) rows c.args.places.now.places c.args.id.0 c.requires.index.places c.in-Some.place (sym c.place_of.ensures ∙ c.in-Some.is) in
    let found : slice_get rows c.in-Some.place ≡ impl_of c.args.tables.now c.args.id =
    ap (option_and_then (slice_get rows)) (sym (sym c.place_of.ensures ∙ c.in-Some.is))
    ∙ find-index ◌==◌ (λ (r : ImplRow). r.id.0) rows c.args.places.now.places c.args.id.0 c.requires.index.places in
    record {
      finds = row-at (λ qs. IfOk c.add_place.result (λ _. Finds c.args.tables.now qs c.args.self.now c.add_place.new.self)) rows c.in-Some.place _ inside found
          (λ q e. c.add_place.ensures.finds c.args.tables.now q c.requires.valid e);
    }
