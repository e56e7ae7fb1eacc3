use Rattle.std.proofs.Common.{rules, ◌∙◌, ap, length}
use Rattle.goal_infer.proofs.UndoLemmas.{rolled_back-state, restored-state, unbound-length, cut-length}
use Rattle.goal_infer.proofs.state.InferState.rollback.Goals as goal

-- src/state.rt:134:5
pub invariant_of-self : goal.invariant_of-self
invariant_of-self c =
    cut-length c.args.snapshot.variables 4294967296 c.truncate.new.self.items c.unbind_from.new.variables.items c.self.inside.variables.items
    c.truncate.ensures.items (ap length c.unbind_from.ensures ∙ unbound-length _ c.self.inside.variables.items) c.self.invariant

-- src/state.rt:134:5
pub returns-clause-undone : goal.returns-clause-undone
returns-clause-undone c =
    rolled_back-state c.args.self.now c.args.snapshot c.truncate.new.self.items c.unbind_from.new.variables.items c.truncate-2.new.self.items c.truncate-3.new.self.items
    c.self.inside.equations.items (search rules) c.truncate.ensures.items (search rules) (search rules) c.truncate-3.ensures.items

-- src/state.rt:134:5
pub returns-clause-restored : goal.returns-clause-restored
returns-clause-restored c before e g = restored-state before c.args.self.now _ c.args.snapshot (returns-clause-undone c) e g
