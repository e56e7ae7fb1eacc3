use Rattle.std.proofs.Common.{rules}
use Rattle.goal_infer.proofs.UndoLemmas.{goes_back-when_same, goes_back-when_added}
use Rattle.goal_infer.proofs.state.InferState.add_equation.Goals as goal

-- src/state.rt:116:13
pub returns-then-is_err-clause-goes_back : goal.returns-then-is_err-clause-goes_back
returns-then-is_err-clause-goes_back c = goes_back-when_same c.args.self.now _ (search rules)

-- src/state.rt:110:5
pub returns-clause-goes_back : goal.returns-clause-goes_back
returns-clause-goes_back c = goes_back-when_added c.args.self.now _ (c.args.left, c.args.right) (search rules)
