use Rattle.std.proofs.Common.{◌∙◌, ◌-◌, ◌++◌, length, drop, ap, arith}
use Rattle.std.proofs.lemmas.List.{take_all, length-drop}
use Rattle.goal_tables.proofs.PlacesLemmas.{merged, merged-left, merged-right, merged-end, merged-places}
use Rattle.goal_tables.proofs.impls_by_head.merged.Goals as goal

pub loop-i-preserved-then-is_less_at : goal.loop-i-preserved-then-is_less_at
loop-i-preserved-then-is_less_at c = (
  merged-right c.push.new.self.items c.loop-i.made.items (merged c.args.left.now c.args.right.now) c.args.left.now c.args.right.now c.loop-i.i c.loop-i.j c.loop-i.invariant.0 (omega arith)
      (c.is_less_at.ensures.less c.if-is_less_at.true) c.in_ok-push.ensures.items,
  (let less = c.is_less_at.ensures.less c.if-is_less_at.true in omega (arith, less.0)),
)

pub loop-i-preserved : goal.loop-i-preserved
loop-i-preserved c = (
  merged-left c.push-else-is_less_at.new.self.items c.loop-i.made.items (merged c.args.left.now c.args.right.now) c.args.left.now c.args.right.now c.loop-i.i c.loop-i.j c.loop-i.invariant.0 (omega arith)
      (c.is_less_at.ensures.not_less c.if-is_less_at.false) c.in_ok-push-2.ensures.items,
  c.loop-i.invariant.1,
)

pub returns : goal.returns
returns c p q rows d e f =
    merged-end c.extend_from_slice.new.self.items c.loop-i.made.items (merged c.args.left.now c.args.right.now) c.args.left.now c.args.right.now c.loop-i.i c.loop-i.j c.loop-i.invariant.0
    (omega arith)
    (c.in_ok-extend_from_slice.ensures.items ∙ ap (λ xs. c.loop-i.made.items ++ xs) (take_all (length c.args.right.now - c.loop-i.j) (drop c.loop-i.j c.args.right.now) (omega (arith, length-drop c.loop-i.j c.args.right.now))))
    ∙ merged-places p q rows c.args.left.now c.args.right.now d e f
