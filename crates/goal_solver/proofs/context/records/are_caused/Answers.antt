use Rattle.std.proofs.Common.{arith, subst}
use Rattle.std.specs.List.{All}
use Rattle.std.proofs.lemmas.List.{take_all}
use Rattle.std.proofs.lemmas.List.Elements.{All-more}
use Rattle.goal_lists.specs.Causes.{IsFaultCaused}
use Rattle.goal_solver.proofs.context.records.are_caused.Goals as goal

pub loop-fault-preserved : goal.loop-fault-preserved
loop-fault-preserved c =
    All-more (IsFaultCaused c.args.tables.now) c.args.faults.now c.loop-fault.fault-index _ (omega arith) c.loop-fault.invariant (c.is_caused.ensures c.if-not-is_caused.false)

pub returns : goal.returns
returns c = λ h. subst (All (IsFaultCaused c.args.tables.now)) (take_all c.loop-fault.fault-index c.args.faults.now (omega arith)) c.loop-fault.invariant
