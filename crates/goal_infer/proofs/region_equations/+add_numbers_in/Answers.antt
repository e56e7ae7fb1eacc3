use Rattle.std.proofs.Common.{ap, ◌∙◌, arith}
use Rattle.std.specs.Prelude.{fold}
use Rattle.goal_interner.specs.TableMeaning.{tree_at}
use Rattle.goal_infer.specs.RegionEquations.{number_at, with_number}
use Rattle.goal_infer.proofs.RegionEquationLemmas.{numbers-started, numbers-more, numbers-done}
use Rattle.goal_infer.proofs.region_equations.+add_numbers_in.Goals as goal

pub loop-part-init : goal.loop-part-init
loop-part-init t c =
    numbers-started c.args.table.now c.args.depth c.levels_below-below.result (tree_at c.args.table.now c.args.id) c.node-node.result
    c.parts-part-items.result.now c.args.numbers.now.items c.add_number_at.new.numbers.items
    c.node-node.ensures.top c.levels_below-below.ensures c.parts-part-items.ensures.trees
    (c.in_ok-add_number_at.ensures ∙ ap (λ r. fold with_number c.args.numbers.now.items (number_at c.args.depth r)) c.region_of.ensures)

pub loop-part-preserved : goal.loop-part-preserved
loop-part-preserved t c =
    numbers-more c.args.table.now c.levels_below-below.result c.parts-part-items.result.now c.loop-part.part-index _
    c.loop-part.numbers.items c.add_numbers_in.new.numbers.items _ c.loop-part-test.true c.in_ok-add_numbers_in.ensures c.loop-part.invariant

pub returns : goal.returns
returns t c =
    numbers-done c.args.table.now c.levels_below-below.result c.parts-part-items.result.now c.loop-part.part-index c.loop-part.numbers.items _
    (omega arith) c.loop-part.invariant
