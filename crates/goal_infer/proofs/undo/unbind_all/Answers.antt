use Rattle.std.proofs.Common.{rules, ◌+◌, sym, ap, ◌∙◌, drop}
use Rattle.goal_infer.specs.Undo.{unbound}
use Rattle.goal_infer.proofs.UndoLemmas.{unbound-step, unbound-end}
use Rattle.goal_infer.proofs.undo.unbind_all.Goals as goal

-- src/undo.rt:29:5
pub loop-number-preserved : goal.loop-number-preserved
loop-number-preserved c =
    ap (unbound (drop (c.loop-number.number-index + 1) c.args.numbers.now)) c.unbind.ensures
    ∙ sym (unbound-step c.args.numbers.now c.loop-number.number-index _ c.loop-number.variables.items (search rules))
    ∙ c.loop-number.invariant

-- src/undo.rt:26:1
pub returns : goal.returns
returns c =
    sym (unbound-end c.args.numbers.now c.loop-number.number-index c.loop-number.variables.items (search rules)) ∙ c.loop-number.invariant
