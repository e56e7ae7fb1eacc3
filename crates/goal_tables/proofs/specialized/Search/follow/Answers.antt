use Rattle.std.proofs.Common.{◌≡◌, ◌∙◌, ◌+◌, ◌<◌, length, get_or, Some, sym, ap, length-append, arith}
use Rattle.std.specs.Prelude.{slice_get}
use Rattle.std.proofs.lemmas.List.{get_or_default}
use Rattle.std.proofs.lemmas.Option.{slice_get-get_or, slice_get_within}
use Rattle.goal_tables.proofs.SpecialLemmas.{follows-start, follows-step, follows-end}
use Rattle.goal_tables.proofs.specialized.Search.follow.Goals as goal
use Rattle.goal_tables.proofs.specialized.Search.follow.Goals.{In_ok-add_listed-2}

pub loop-i-init : goal.loop-i-init
loop-i-init c = follows-start c.args.tables.now c.args.row.now c.args.self.now c.add_listed.new.self c.requires.nothing c.requires.clear c.in_ok-add_listed.ensures.finds

pub bounds-as_slice-index : goal.bounds-as_slice-index
bounds-as_slice-index c =
    let inside : c.loop-i.i < length c.loop-i.self.found.items = omega (arith, c.loop-i-test.true, c.len.ensures, c.loop-i.self.found.ok.0) in
    let at = c.loop-i.invariant.sound c.loop-i.i inside in
    let place : get_or c.loop-i.self.found.items c.loop-i.i 0 ≡ c.index.result.now = get_or_default _ _ _ _ inside ∙ sym c.index.ensures in
    let stands : c.index.result.now < length c.args.tables.now.impls.items =
    slice_get_within c.args.tables.now.impls.items _ at.1 (sym (ap (slice_get c.args.tables.now.impls.items) place) ∙ at.3) in
    omega (arith, stands, ap length c.as_slice.ensures.value)

pub offset_bounds-as_slice-index : goal.offset_bounds-as_slice-index
offset_bounds-as_slice-index c =
    let inside : c.loop-i.i < length c.loop-i.self.found.items = omega (arith, c.loop-i-test.true, c.len.ensures, c.loop-i.self.found.ok.0) in
    let at = c.loop-i.invariant.sound c.loop-i.i inside in
    let place : get_or c.loop-i.self.found.items c.loop-i.i 0 ≡ c.index.result.now = get_or_default _ _ _ _ inside ∙ sym c.index.ensures in
    let stands : c.index.result.now < length c.args.tables.now.impls.items =
    slice_get_within c.args.tables.now.impls.items _ at.1 (sym (ap (slice_get c.args.tables.now.impls.items) place) ∙ at.3) in
    omega (arith, stands, ap length c.as_slice.ensures.value)

pub loop-i-smaller : goal.loop-i-smaller
loop-i-smaller c =
    let more = c.in_ok-add_listed-2.ensures.finds in
    let long : length c.add_listed-in-loop-i.new.self.found.items ≡ length c.loop-i.self.found.items + length more.new = ap length more.found ∙ length-append c.loop-i.self.found.items more.new in
    omega (arith, more.balance, long, c.loop-i-test.true, c.len.ensures, c.loop-i.self.found.ok.0)

-- the row at the place that is next
row : (c : In_ok-add_listed-2) → slice_get c.args.tables.now.impls.items (get_or c.loop-i.self.found.items c.loop-i.i 0) ≡ Some c.index-as_slice-index.result
row c =
    let rows = c.args.tables.now.impls.items in
    let inside : c.loop-i.i < length c.loop-i.self.found.items = omega (arith, c.loop-i-test.true, c.len.ensures, c.loop-i.self.found.ok.0) in
    let at = c.loop-i.invariant.sound c.loop-i.i inside in
    let stands = slice_get_within rows _ at.1 at.3 in
    let place : get_or c.loop-i.self.found.items c.loop-i.i 0 ≡ c.index.result.now = get_or_default _ _ _ _ inside ∙ sym c.index.ensures in
    slice_get-get_or rows _ c.index-as_slice-index.result stands
    ∙ ap Some (ap (λ p. get_or rows p c.index-as_slice-index.result) place
    ∙ sym (c.index-as_slice-index.is ∙ ap (λ rs. get_or rs c.index.result.now c.index-as_slice-index.result) c.as_slice.ensures.value))

pub loop-i-preserved : goal.loop-i-preserved
loop-i-preserved c =
    follows-step c.args.tables.now c.args.row.now c.index-as_slice-index.result c.loop-i.i c.loop-i.self c.add_listed-in-loop-i.new.self c.loop-i.invariant
    (omega (arith, c.loop-i-test.true, c.len.ensures, c.loop-i.self.found.ok.0)) (row c) c.in_ok-add_listed-2.ensures.finds

pub returns : goal.returns
returns c = record {
  found = follows-end c.args.tables.now c.args.row.now c.loop-i.i c.loop-i.self c.loop-i.invariant (omega (arith, c.loop-i-test.false, c.len.ensures, c.loop-i.self.found.ok.0));
}
