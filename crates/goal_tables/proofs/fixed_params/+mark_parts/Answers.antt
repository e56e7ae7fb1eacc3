use Rattle.std.proofs.Common.{◌<◌, ◌∙◌, subst, arith}
use Rattle.goal_terms.specs.View.{tree_of_ref, trees_seen}
use Rattle.goal_tables.specs.FixedParams.{is_param, AddsMarks}
use Rattle.goal_tables.proofs.MarkLemmas.{sizes, sizes-below, marking-step, marking-end}
use Rattle.goal_tables.proofs.fixed_params.+mark_parts.Goals as goal

pub mark_parts-requires : goal.mark_parts-requires
mark_parts-requires t c = (
  let p : sizes (trees_seen c.open_parts.result) < sizes (trees_seen c.args.parts) =
      sizes-below (trees_seen c.args.parts) c.loop-i.i (tree_of_ref c.at-part.result) (trees_seen c.open_parts.result) c.at-part.ensures c.open_parts.ensures in
      omega (arith, p, c.decreases),
  omega arith,
)

pub loop-i-preserved : goal.loop-i-preserved
loop-i-preserved t c = λ n k e.
    marking-step c.args.params.now (trees_seen c.args.parts) c.loop-i.i (tree_of_ref c.at-part.result) (c.node.result) (trees_seen c.open_parts.result) c.loop-i.marks c.mark_param.new.marks c.mark_parts.new.marks
    c.at-part.ensures c.node.ensures c.open_parts.ensures (subst (λ f. AddsMarks c.args.params.now (λ l m. is_param l m f) c.loop-i.marks c.mark_param.new.marks) c.param_at.ensures c.mark_param.ensures) c.mark_parts.ensures n k e
    ∙ c.loop-i.invariant n k e

pub returns : goal.returns
returns t c = marking-end c.args.params.now (trees_seen c.args.parts) c.loop-i.i c.args.marks.now c.loop-i.marks (omega arith) c.loop-i.invariant
