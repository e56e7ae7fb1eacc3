use Rattle.std.proofs.Common.{ap, ◌∙◌, arith}
use Rattle.std.specs.Prelude.{fold}
use Rattle.goal_interner.specs.TableMeaning.{tree_at}
use Rattle.goal_infer.specs.RegionEquations.{is_binder, with_number}
use Rattle.goal_infer.proofs.RegionEquationLemmas.{numbers_from, own-started, own-none, numbers-more, numbers-done}
use Rattle.goal_infer.proofs.region_equations.own_numbers.Goals as goal

pub returns-then-not-is_binder : goal.returns-then-not-is_binder
returns-then-not-is_binder c =
    c.new-numbers.ensures.items
    ∙ own-none (tree_at c.args.table.now c.args.id) c.is_binder.result (c.is_binder.ensures ∙ ap is_binder c.node.ensures.top) c.if-not-is_binder.true

pub loop-part-init : goal.loop-part-init
loop-part-init c =
    ap (λ ns. fold with_number ns (numbers_from c.args.table.now 0 c.parts-part-items.result.now 0)) c.new-numbers.ensures.items
    ∙ own-started c.args.table.now (tree_at c.args.table.now c.args.id) c.parts-part-items.result.now c.is_binder.result
    (c.is_binder.ensures ∙ ap is_binder c.node.ensures.top) c.if-not-is_binder.false c.parts-part-items.ensures.trees

pub loop-part-preserved : goal.loop-part-preserved
loop-part-preserved c =
    numbers-more c.args.table.now 0 c.parts-part-items.result.now c.loop-part.part-index _
    c.loop-part.numbers.items c.add_numbers_in.new.numbers.items _ c.loop-part-test.true c.in_ok-add_numbers_in.ensures c.loop-part.invariant

pub returns : goal.returns
returns c =
    numbers-done c.args.table.now 0 c.parts-part-items.result.now c.loop-part.part-index c.loop-part.numbers.items _
    (omega arith) c.loop-part.invariant
