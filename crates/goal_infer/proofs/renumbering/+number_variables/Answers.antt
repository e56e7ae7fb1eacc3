use Rattle.std.proofs.Common.{arith}
use Rattle.goal_interner.specs.TableMeaning.{tree_at}
use Rattle.goal_infer.proofs.RenumberingLemmas.{numbered-started, numbered-more, numbered-done}
use Rattle.goal_infer.proofs.renumbering.+number_variables.Goals as goal

pub loop-part-init : goal.loop-part-init
loop-part-init t c =
    numbered-started c.args.table.now (tree_at c.args.table.now c.args.id) c.node.result c.parts-part-items.result.now c.args.numbers.now.items
    c.number_node.new.numbers.items c.node.ensures.top c.parts-part-items.ensures.trees c.in_ok-number_node.ensures

pub loop-part-preserved : goal.loop-part-preserved
loop-part-preserved t c =
    numbered-more c.args.table.now c.parts-part-items.result.now c.loop-part.part-index _ c.loop-part.numbers.items c.number_variables.new.numbers.items _
    c.loop-part-test.true c.in_ok-number_variables.ensures c.loop-part.invariant

pub returns : goal.returns
returns t c =
    numbered-done c.args.table.now c.parts-part-items.result.now c.loop-part.part-index c.loop-part.numbers.items _ (omega arith) c.loop-part.invariant
