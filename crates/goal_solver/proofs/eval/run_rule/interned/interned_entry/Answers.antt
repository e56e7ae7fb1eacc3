use Rattle.std.proofs.Common.{ap, sym, ◌∙◌}
use Rattle.goal_kinds.specs.RuleLists.{entry_of}
use Rattle.goal_solver.proofs.eval.run_rule.interned.interned_entry.Goals as goal

pub returns-in-RowClauses-clause-within : goal.returns-in-RowClauses-clause-within
returns-in-RowClauses-clause-within c = c.row_clauses.ensures.within c.args.terms.now

pub returns-in-RowConditions-clause-within : goal.returns-in-RowConditions-clause-within
returns-in-RowConditions-clause-within c = c.row_conditions.ensures.within c.args.terms.now

pub returns-in-RowConditions-clause-entry : goal.returns-in-RowConditions-clause-entry
returns-in-RowConditions-clause-entry c = c.row_conditions.ensures.entry c.args.terms.now ∙ sym (ap (entry_of c.args.setting.now.rows.now) c.in-RowConditions.is)

pub returns-in-RowClauses-clause-entry : goal.returns-in-RowClauses-clause-entry
returns-in-RowClauses-clause-entry c = c.row_clauses.ensures.entry c.args.terms.now ∙ sym (ap (entry_of c.args.setting.now.rows.now) c.in-RowClauses.is)
