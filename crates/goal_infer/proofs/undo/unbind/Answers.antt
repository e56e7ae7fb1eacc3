use Rattle.std.proofs.Common.{rules, sym}
use Rattle.goal_infer.proofs.UndoLemmas.{set-unbinds, unbound-beyond}
use Rattle.goal_infer.proofs.undo.unbind.Goals as goal

-- src/undo.rt:16:1
pub returns-then-place-len : goal.returns-then-place-len
returns-then-place-len c = set-unbinds c.args.variables.now.items c.args.number c.index_mut.result.now (search rules) c.index_mut.ensures.value

-- src/undo.rt:16:1
pub returns-else-place-len : goal.returns-else-place-len
returns-else-place-len c = sym (unbound-beyond c.args.variables.now.items c.args.number (search rules))
