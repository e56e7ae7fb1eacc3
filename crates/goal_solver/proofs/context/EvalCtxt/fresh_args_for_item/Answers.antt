use Rattle.std.proofs.Common.{◌∙◌}
use Rattle.goal_solver.proofs.GoingBackLemmas.{goes_back-when_same}
use Rattle.goal_solver.proofs.VariableLemmas.{goes_back-when_made, restored-variables, on_err}
use Rattle.goal_solver.proofs.context.EvalCtxt.fresh_args_for_item.Goals as goal

pub returns-then-is_err-clause-unchanged : goal.returns-then-is_err-clause-unchanged
returns-then-is_err-clause-unchanged c =
    on_err c.fresh_args-made.result
    (c.rollback.ensures.undone c.args.self.now c.snapshot-before.ensures (goes_back-when_made c.args.self.now c.fresh_args-made.new.self _ c.fresh_args-made.ensures.partly.1)
    ∙ restored-variables c.args.self.now c.fresh_args-made.new.self _ c.fresh_args-made.ensures.partly.1)

pub returns-then-is_err-clause-goes_back : goal.returns-then-is_err-clause-goes_back
returns-then-is_err-clause-goes_back c =
    goes_back-when_same c.args.self.now _
    (c.rollback.ensures.undone c.args.self.now c.snapshot-before.ensures (goes_back-when_made c.args.self.now c.fresh_args-made.new.self _ c.fresh_args-made.ensures.partly.1)
    ∙ restored-variables c.args.self.now c.fresh_args-made.new.self _ c.fresh_args-made.ensures.partly.1)

pub returns-else-is_err-clause-goes_back : goal.returns-else-is_err-clause-goes_back
returns-else-is_err-clause-goes_back c = goes_back-when_made c.args.self.now c.fresh_args-made.new.self _ c.fresh_args-made.ensures.partly.1

pub rollback-requires : goal.rollback-requires
rollback-requires c = record {
  valid = (
    c.args.self.now,
    c.snapshot-before.ensures,
    goes_back-when_made c.args.self.now c.fresh_args-made.new.self _ c.fresh_args-made.ensures.partly.1,
    c.holds_together.ensures,
  );
}
