use Rattle.std.proofs.Common.{[], ◌∙◌, sym}
use Rattle.goal_solver.proofs.MoreSpecialLemmas.{rule-listed, rule-refused}
use Rattle.goal_solver.proofs.assembly.more_special.rule_for_trait.Goals as goal

pub returns-in-Ok-impl_rule-clause-rule : goal.returns-in-Ok-impl_rule-clause-rule
returns-in-Ok-impl_rule-clause-rule c =
    rule-listed c.rows.result.now c.args.tables.now c.args.mode.now c.args.args.now c.in-Ok.copies.items c.args.row.now c.in-Ok-impl_rule.rule c.rows.ensures.rows c.in-Ok.ensures
    (c.in-Ok-impl_rule.ensures.listed [] c.args.row.now)

pub returns-in-Err-NoSolution-clause-rule : goal.returns-in-Err-NoSolution-clause-rule
returns-in-Err-NoSolution-clause-rule c =
    rule-refused c.rows.result.now c.args.tables.now c.args.mode.now c.args.args.now (record { def_id = c.args.row.now.trait_id; args = c.in-Ok.copies }) c.args.row.now c.rows.ensures.rows c.in-Ok.ensures
    (λ h. sym c.in-Err-NoSolution.field-0-is ∙ c.in-Err-NoSolution.ensures.accepted h)
