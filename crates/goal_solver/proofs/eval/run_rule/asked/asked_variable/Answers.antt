use Rattle.std.proofs.Common.{arith}
use Rattle.goal_solver.proofs.RuleEntryLemmas.{asked-start, asked-next, asked-end}
use Rattle.goal_solver.proofs.eval.run_rule.asked.asked_variable.Goals as goal

pub loop-entry-init : goal.loop-entry-init
loop-entry-init c = asked-start c.args.entries.now

pub loop-entry-preserved : goal.loop-entry-preserved
loop-entry-preserved c =
    asked-next c.args.entries.now c.loop-entry.entry-index c.entry-item.result c.loop-entry.asked c.with-asked.result (omega arith) c.entry-item.is c.with-asked.ensures c.loop-entry.invariant

pub returns : goal.returns
returns c = asked-end c.args.entries.now c.loop-entry.entry-index c.loop-entry.asked (omega arith) c.loop-entry.invariant
