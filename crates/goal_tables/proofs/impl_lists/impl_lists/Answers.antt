use Rattle.std.proofs.Common.{◌∙◌, get_or, map, take, Some, sym, ap}
use Rattle.std.specs.Prelude.{◌==◌, slice_get}
use Rattle.std.specs.HashMap.{get}
use Rattle.std.specs.Map.{lookup}
use Rattle.std.proofs.lemmas.List.{take_all, take_more}
use Rattle.std.proofs.lemmas.Option.{slice_get-get_or}
use Rattle.goal_tables.specs.Indexed.{AreImplLists, impls_numbered, list_at}
use Rattle.goal_tables.proofs.IndexLemmas.{impls_numbered-step}
use Rattle.goal_tables.proofs.impl_lists.impl_lists.Goals as goal

pub loop-i-init : goal.loop-i-init
loop-i-init c = λ n. ap (λ es. map (slice_get c.args.rows.now) (list_at (lookup (◌==◌ n) es))) c.new-lists.ensures.empty

pub loop-i-preserved : goal.loop-i-preserved
loop-i-preserved c =
    λ n.
    let rows = c.args.rows.now in
    let i = c.loop-i.i in
    let row = get_or rows i c.index-rows-i.result in
    ap (map (slice_get rows)) (c.in_ok-lists.ensures n)
    ∙ impls_numbered-step rows (take i rows) (list_at (get ◌==◌ c.loop-i.lists n)) row i n (slice_get-get_or rows i c.index-rows-i.result c.loop-i-test.true)
    (c.loop-i.invariant n)
    ∙ ap (λ rs. map Some (impls_numbered rs n)) (sym (take_more rows i c.index-rows-i.result c.loop-i-test.true))

pub returns : goal.returns
unfolding AreImplLists
returns c = λ n. c.loop-i.invariant n ∙ ap (λ rs. map Some (impls_numbered rs n)) (take_all c.loop-i.i c.args.rows.now c.loop-i-test.false)
