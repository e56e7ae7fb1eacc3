use Rattle.std.proofs.Common.{rules, None}
use Rattle.goal_infer.proofs.UndoLemmas.{goes_back-same, goes_back-when_same, goes_back-when_made}
use Rattle.goal_infer.proofs.state.InferState.new_variable.Goals as goal

-- src/state.rt:87:13
pub returns-then-number-clause-goes_back : goal.returns-then-number-clause-goes_back
returns-then-number-clause-goes_back c = goes_back-same c.args.self.now

-- src/state.rt:90:13
pub returns-then-is_err-clause-goes_back : goal.returns-then-is_err-clause-goes_back
returns-then-is_err-clause-goes_back c = goes_back-when_same c.args.self.now _ (search rules)

-- src/state.rt:79:5
pub returns-clause-goes_back : goal.returns-clause-goes_back
returns-clause-goes_back c = goes_back-when_made c.args.self.now _ (record { kind = c.args.kind; binding = None }) (search rules)
