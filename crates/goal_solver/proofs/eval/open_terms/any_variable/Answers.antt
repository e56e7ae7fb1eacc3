use Rattle.std.proofs.Common.{sym, ◌∙◌, arith}
use Rattle.goal_terms.specs.NodeTests.{some_node, is_any_infer}
use Rattle.goal_interner.specs.TableMeaning.{tree_at}
use Rattle.goal_lists.proofs.TermErrorLemmas.{none-more, some-passes}
use Rattle.goal_solver.proofs.eval.open_terms.any_variable.Goals as goal

pub returns-then-has_infer : goal.returns-then-has_infer
returns-then-has_infer c =
    sym (some-passes (tree_at c.args.terms.now) (some_node is_any_infer) c.args.ids.now c.loop-i.i _ (omega arith) (sym c.has_infer.ensures ∙ c.if-has_infer.true))

pub loop-i-preserved : goal.loop-i-preserved
loop-i-preserved c =
    none-more (tree_at c.args.terms.now) (some_node is_any_infer) c.args.ids.now c.loop-i.i _ (omega arith) c.loop-i.invariant (sym c.has_infer.ensures ∙ c.if-has_infer.false)
