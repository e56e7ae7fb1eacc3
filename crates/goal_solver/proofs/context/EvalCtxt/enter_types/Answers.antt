use Rattle.std.proofs.Common.{arith}
use Rattle.goal_solver.proofs.GoingBackLemmas.{goes_back-same, goes_back-through}
use Rattle.goal_solver.proofs.ResponseLemmas.{entries-none, entries-more, entry-free}
use Rattle.goal_solver.proofs.context.EvalCtxt.enter_types.Goals as goal

pub loop-entry-init : goal.loop-entry-init
loop-entry-init c = record { entered = entries-none c.args.self.now; back = goes_back-same c.args.self.now }

pub enter_type-requires : goal.enter_type-requires
enter_type-requires c =
    entry-free c.args.self.now c.loop-entry.self c.args.entries.now c.loop-entry.entry-index c.entry-item.result (omega arith) c.entry-item.is c.loop-entry.invariant.entered c.requires

pub returns-in_err-enter_type-clause-goes_back : goal.returns-in_err-enter_type-clause-goes_back
returns-in_err-enter_type-clause-goes_back c = goes_back-through c.args.self.now c.loop-entry.self c.enter_type.new.self c.loop-entry.invariant.back c.enter_type.ensures.goes_back

pub loop-entry-preserved : goal.loop-entry-preserved
loop-entry-preserved c = record {
  entered = entries-more c.args.self.now c.loop-entry.self c.enter_type.new.self c.args.entries.now c.loop-entry.entry-index c.entry-item.result _ (omega arith) c.entry-item.is
      c.loop-entry.invariant.entered c.in_ok-enter_type.ensures.entered.1 c.in_ok-enter_type.ensures.entered.2;
  back = goes_back-through c.args.self.now c.loop-entry.self c.enter_type.new.self c.loop-entry.invariant.back c.enter_type.ensures.goes_back;
}
