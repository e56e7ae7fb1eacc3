use Rattle.std.proofs.Common.{◌<◌, length, arith, refl, sym, subst}
use Rattle.std.specs.List.{All}
use Rattle.std.proofs.lemmas.List.Elements.{All-get_or, All-push}
use Rattle.goal_eval.specs.Pending.{IsOpen, IsOfKind}
use Rattle.goal_eval.proofs.PartKinds.{lists-of_one_kind}
use Rattle.goal_eval.proofs.PendingLemmas.{below-ceiling, ceiling-below, open-pair, adds-settled, adds-pair, adds-parts_ok, adds-lengths, leaves-more, leaves-end, leaves-refuted}
use Rattle.goal_eval.proofs.relate.pairs.+collection.Goals as goal

pub collect-collect_lists-requires : goal.collect-collect_lists-requires
collect-collect_lists-requires t c = (
  omega (arith, ceiling-below c.args.left.0 c.parts.result.now c.parts.ensures.earlier),
  (
    lists-of_one_kind c.args.terms.now c.args.left c.args.right c.parts.result.now c.parts-in-NeedParts.result.now
        c.requires.alike.1.0 c.requires.alike.2.0 c.parts.ensures.trees c.parts.ensures.earlier c.parts-in-NeedParts.ensures.trees c.parts-in-NeedParts.ensures.earlier
        c.in-NeedParts.ensures.1,
    c.requires.open,
  ),
)

pub collect-returns-in-Settled-clause-adds : goal.collect-returns-in-Settled-clause-adds
collect-returns-in-Settled-clause-adds t c =
    adds-settled c.args.terms.now c.args.pending.now c.args.left c.args.right c.in-Settled.outcome c.in-Settled.ensures c.and-pending.result c.and-pending.ensures

pub collect-returns-in_ok-push-in-NeedForms-clause-open : goal.collect-returns-in_ok-push-in-NeedForms-clause-open
collect-returns-in_ok-push-in-NeedForms-clause-open t c =
    subst (All (IsOpen c.args.terms.now)) (sym c.in_ok-push-in-NeedForms.ensures.items)
    (All-push (IsOpen c.args.terms.now) c.args.pending.now.pairs.items (record { left = c.args.left; right = c.args.right }) c.requires.open
    (open-pair c.args.terms.now c.args.left c.args.right c.requires.alike c.in-NeedForms.ensures))

pub collect-returns-in_ok-push-in-NeedForms-clause-adds : goal.collect-returns-in_ok-push-in-NeedForms-clause-adds
collect-returns-in_ok-push-in-NeedForms-clause-adds t c =
    adds-pair c.args.terms.now c.args.pending.now (record { outcome = c.args.pending.now.outcome; pairs = c.push.new.self }) c.args.left c.args.right
    refl c.in_ok-push-in-NeedForms.ensures.items

pub collect-returns-in-NeedParts-clause-adds : goal.collect-returns-in-NeedParts-clause-adds
collect-returns-in-NeedParts-clause-adds t c =
    adds-parts_ok c.collect_lists.result c.args.terms.now c.args.pending.now c.collect_lists.new.pending c.args.left c.args.right c.parts.result.now c.parts-in-NeedParts.result.now
    c.in-NeedParts.ensures.0 c.parts.ensures.trees c.parts-in-NeedParts.ensures.trees c.collect_lists.ensures.adds

pub collect_lists-returns-then-right-count-clause-adds : goal.collect_lists-returns-then-right-count-clause-adds
collect_lists-returns-then-right-count-clause-adds t c =
    adds-lengths c.args.terms.now c.args.pending.now c.args.left.now c.args.right.now c.if-right-count.true

pub collect_lists-collect-requires : goal.collect_lists-collect-requires
collect_lists-collect-requires t c =
    let first : c.loop-i.i < length c.args.left.now = omega arith in
    let second : c.loop-i.i < length c.args.right.now = omega arith in (
      omega (arith, below-ceiling c.args.left.now c.loop-i.i (record { 0 = 0 }) first, c.decreases),
      (
        (
          c.requires.alike.0,
          All-get_or (IsOfKind c.args.terms.now c.requires.alike.0) c.args.left.now c.loop-i.i (record { 0 = 0 }) first c.requires.alike.1,
          All-get_or (IsOfKind c.args.terms.now c.requires.alike.0) c.args.right.now c.loop-i.i (record { 0 = 0 }) second c.requires.alike.2,
        ),
        c.loop-i.invariant.1,
      ),
    )

pub collect_lists-loop-i-preserved : goal.collect_lists-loop-i-preserved
collect_lists-loop-i-preserved t c = (
  leaves-more c.args.terms.now c.args.pending.now c.loop-i.pending c.collect.new.pending c.loop-i.i c.args.left.now c.args.right.now (record { 0 = 0 })
      (omega arith) (omega arith) c.loop-i.invariant.0 c.in_ok-collect.ensures.adds,
  c.in_ok-collect.ensures.open,
)

pub collect_lists-returns-then-is_refuted-clause-adds : goal.collect_lists-returns-then-is_refuted-clause-adds
collect_lists-returns-then-is_refuted-clause-adds t c =
    leaves-refuted c.args.terms.now c.args.pending.now c.loop-i.pending c.loop-i.i c.args.left.now c.args.right.now
    (c.is_refuted.ensures.0 c.if-is_refuted.true) c.loop-i.invariant.0

pub collect_lists-returns-clause-adds : goal.collect_lists-returns-clause-adds
collect_lists-returns-clause-adds t c =
    leaves-end c.args.terms.now c.args.pending.now c.loop-i.pending c.loop-i.i c.args.left.now c.args.right.now (omega arith) (omega arith) c.loop-i.invariant.0
