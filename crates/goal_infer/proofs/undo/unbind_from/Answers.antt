use Rattle.std.proofs.Common.{rules, sym}
use Rattle.goal_infer.proofs.UndoLemmas.{unbound-end}
use Rattle.goal_infer.proofs.undo.unbind_from.Goals as goal

-- src/undo.rt:35:1
pub returns-else-from-trail : goal.returns-else-from-trail
returns-else-from-trail c = sym (unbound-end c.args.trail.now c.args.from c.args.variables.now.items (search rules))
