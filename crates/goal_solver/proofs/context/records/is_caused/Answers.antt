use Rattle.goal_solver.proofs.KeptFaultLemmas.{missing-caused, auto-caused}
use Rattle.goal_solver.proofs.context.records.is_caused.Goals as goal

pub returns-in-Some : goal.returns-in-Some
returns-in-Some c = λ h.
    missing-caused c.args.tables.now c.rows-rows.result.now c.args.fault c.in-MissingItem.id c.in-Some.row.now c.is_missing.result c.in-MissingItem.is c.rows-rows.ensures.rows c.in-Some.ensures
    c.is_missing.ensures h

pub returns-in-Some-trait_row : goal.returns-in-Some-trait_row
returns-in-Some-trait_row c = λ h.
    auto-caused c.args.tables.now c.rows-rows.result.now c.args.fault c.in-AutoTrait.id c.in-Some-trait_row.row.now c.in-AutoTrait.is c.rows-rows.ensures.rows c.in-Some-trait_row.ensures h
