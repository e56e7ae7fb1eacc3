use Rattle.std.proofs.Common.{◌≡◌, ◌<◌, length, get_or, Some, sym, subst, arith}
use Rattle.std.proofs.lemmas.List.Elements.{All-get_or}
use Rattle.std.specs.Prelude.{slice_get}
use Rattle.goal_kinds.specs.KindWords.{words_for}
use Rattle.goal_kinds.specs.Collecting.{Speaks, Lacks}
use Rattle.goal_kinds.proofs.CollectingLemmas.{collects-at, collects-places, impl-at_place, passes-at}
use Rattle.goal_kinds.proofs.assembly.collecting.push_rules_at.Goals as goal

pub impl_at-row-requires : goal.impl_at-row-requires
impl_at-row-requires g c =
    subst (λ t. get_or c.args.places.now c.loop-i.i 0 < length t.impls.items) (sym c.rows-rows.ensures.rows)
    (All-get_or (λ p. p < length c.args.tables.now.impls.items) c.args.places.now c.loop-i.i _ (omega arith) c.requires.places)

pub loop-i-preserved : goal.loop-i-preserved
loop-i-preserved g c =
    let W = words_for g.G.GoalKind.words c.args.tables.now c.args.goal.now c.args.mode.now in
    let rows = c.args.tables.now.impls.items in
    let row = c.impl_at-row.result.now in
    let here : slice_get rows (get_or c.args.places.now c.loop-i.i 0) ≡ Some row =
    subst (λ t. slice_get t.impls.items (get_or c.args.places.now c.loop-i.i 0) ≡ Some row) c.rows-rows.ensures.rows c.impl_at-row.ensures in
    record {
      collected = λ impls listed own.
          collects-at (Speaks W) (Lacks W) rows impls c.args.places.now c.loop-i.i row c.args.found.now.items c.loop-i.found.items c.push_impl_rule.new.found.items listed
          c.loop-i-test.true here
          (c.in_ok-push_impl_rule.ensures.adds (impl-at_place c.args.tables.now c.rows-rows.ensures.checked impls c.args.places.now c.loop-i.i row listed c.loop-i-test.true here)
          (passes-at (λ r. W.is_impl_for r) rows impls c.args.places.now c.loop-i.i row listed c.loop-i-test.true here own))
          (c.loop-i.invariant.collected impls listed own);
      expected = λ h. c.in_ok-push_impl_rule.ensures.expected (c.loop-i.invariant.expected h);
    }

pub returns-clause-collected : goal.returns-clause-collected
returns-clause-collected g c impls listed own =
    let W = words_for g.G.GoalKind.words c.args.tables.now c.args.goal.now c.args.mode.now in
    collects-places (Speaks W) (Lacks W) c.args.tables.now.impls.items impls c.args.places.now c.loop-i.i c.args.found.now.items c.loop-i.found.items listed
    (omega (arith, c.loop-i-test.false)) (c.loop-i.invariant.collected impls listed own)
