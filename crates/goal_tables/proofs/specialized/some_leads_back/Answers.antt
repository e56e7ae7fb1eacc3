use Rattle.std.proofs.Common.{◌≡◌, ◌∙◌, length, take, sym, ap, get_or, arith}
use Rattle.std.specs.List.{list_any}
use Rattle.std.proofs.lemmas.List.{take_all}
use Rattle.std.proofs.lemmas.List.Folds.{list_any_more}
use Rattle.std.proofs.lemmas.Option.{slice_get-get_or}
use Rattle.std.specs.Prelude.{◌||◌}
use Rattle.goal_tables.specs.Specialized.{leads_back, specialization_cycle}
use Rattle.goal_tables.specs.declared.rows.ImplRow.{ImplRow}
use Rattle.goal_tables.proofs.SpecialLemmas.{any-turn}
use Rattle.goal_tables.proofs.specialized.some_leads_back.Goals as goal

pub loop-i-preserved : goal.loop-i-preserved
loop-i-preserved c =
    any-turn (leads_back c.args.tables.now (length c.args.tables.now.impls.items)) c.args.tables.now.impls.items c.loop-i.i c.loop-i.some c.leads_back-found.result
    (omega (arith, c.loop-i-test.true, ap length c.as_slice-rows.ensures.value)) c.loop-i.invariant c.leads_back-found.ensures

pub returns : goal.returns
unfolding specialization_cycle
returns c =
    c.loop-i.invariant
    ∙ ap (list_any (leads_back c.args.tables.now (length c.args.tables.now.impls.items)))
    (take_all c.loop-i.i c.args.tables.now.impls.items (omega (arith, c.loop-i-test.false, ap length c.as_slice-rows.ensures.value)))
