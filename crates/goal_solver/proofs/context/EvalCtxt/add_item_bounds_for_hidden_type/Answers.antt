use Rattle.std.proofs.Common.{sym, subst}
use Rattle.goal_solver.specs.GoingBack.{GoesBack}
use Rattle.goal_solver.proofs.AddedGoalLemmas.{restored-itself}
use Rattle.goal_solver.proofs.FaultLemmas.{undone-faults}
use Rattle.goal_solver.proofs.GoingBackLemmas.{goes_back-restored}
use Rattle.goal_solver.proofs.VariableLemmas.{on_err}
use Rattle.goal_solver.proofs.context.EvalCtxt.add_item_bounds_for_hidden_type.Goals as goal

pub rollback-requires : goal.rollback-requires
rollback-requires c = record { valid = (c.args.self.now, c.snapshot-before.ensures, c.ask_bounds-added.ensures.goes_back, c.holds_together.ensures) }

pub returns-then-is_err-clause-unchanged : goal.returns-then-is_err-clause-unchanged
returns-then-is_err-clause-unchanged c =
    on_err c.ask_bounds-added.result
    (restored-itself c.args.self.now c.ask_bounds-added.new.self c.rollback.new.self (c.rollback.ensures.undone c.args.self.now c.snapshot-before.ensures c.ask_bounds-added.ensures.goes_back))

pub returns-then-is_err-clause-faults : goal.returns-then-is_err-clause-faults
returns-then-is_err-clause-faults c =
    undone-faults c.args.self.now c.ask_bounds-added.new.self c.rollback.new.self c.ask_bounds-added.ensures.goes_back c.ask_bounds-added.ensures.faults
    (c.rollback.ensures.undone c.args.self.now c.snapshot-before.ensures c.ask_bounds-added.ensures.goes_back)

pub returns-then-is_err-clause-goes_back : goal.returns-then-is_err-clause-goes_back
returns-then-is_err-clause-goes_back c =
    subst (GoesBack c.args.self.now) (sym (c.rollback.ensures.undone c.args.self.now c.snapshot-before.ensures c.ask_bounds-added.ensures.goes_back))
    (goes_back-restored c.args.self.now c.ask_bounds-added.new.self c.ask_bounds-added.ensures.goes_back)
