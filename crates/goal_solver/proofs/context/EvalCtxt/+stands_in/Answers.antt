use Rattle.std.proofs.Common.{arith}
use Rattle.goal_terms.specs.View.{tree_of_ref, trees_seen}
use Rattle.goal_solver.specs.FreeVariables.{reaches}
use Rattle.goal_solver.proofs.FreeVariableLemmas.{walk-top, walk-part, walk-more, walk-end}
use Rattle.goal_solver.proofs.context.EvalCtxt.+stands_in.Goals as goal

pub returns-then-reaches : goal.returns-then-reaches
returns-then-reaches t c =
    walk-top (reaches c.args.self.now c.args.variable) (tree_of_ref c.args.term) c.node.result c.reaches.result c.node.ensures c.reaches.ensures c.if-reaches.true

pub returns-then-stands_in : goal.returns-then-stands_in
returns-then-stands_in t c =
    walk-part (reaches c.args.self.now c.args.variable) (tree_of_ref c.args.term) (tree_of_ref c.at.result) (trees_seen c.parts-parts.result) c.loop-i.i c.stands_in.result
    c.parts-parts.ensures c.at.ensures c.loop-i.invariant c.stands_in.ensures c.if-stands_in.true

pub loop-i-preserved : goal.loop-i-preserved
loop-i-preserved t c =
    walk-more (reaches c.args.self.now c.args.variable) (tree_of_ref c.at.result) (trees_seen c.parts-parts.result) c.loop-i.i c.stands_in.result
    c.at.ensures c.loop-i.invariant c.stands_in.ensures c.if-stands_in.false

pub returns : goal.returns
returns t c =
    walk-end (reaches c.args.self.now c.args.variable) (tree_of_ref c.args.term) (trees_seen c.parts-parts.result) c.node.result c.loop-i.i c.reaches.result
    c.node.ensures c.reaches.ensures c.if-reaches.false c.parts-parts.ensures (omega (arith, c.loop-i-test.false, c.loop-i.auto.i-end, c.len-i-end.ensures)) c.loop-i.invariant
