use Rattle.std.proofs.Common.{◌≡◌, ◌<◌, ◌+◌, length, map, take, arith, refl, sym, ap, ◌∙◌, subst, get_or}
use Rattle.std.proofs.lemmas.List.Elements.{All-get_or}
use Rattle.goal_interner.proofs.InternLemmas.{keeps-chain}
use Rattle.goal_interner.specs.TableMeaning.{tree_at, AreBelow}
use Rattle.goal_terms.specs.declared.modes.TypingMode.TheVariants as mode
use Rattle.goal_eval.specs.Outcomes.{setting_in}
use Rattle.goal_lists.specs.Interned.{erased_at, erased_all}
use Rattle.goal_eval.specs.Pending.{IsOfKind}
use Rattle.goal_solver.specs.Settled.{AreSettled}
use Rattle.goal_eval.proofs.PartKinds.{lists-of_one_kind}
use Rattle.goal_eval.proofs.PendingLemmas.{below-ceiling, ceiling-below}
use Rattle.goal_solver.proofs.SettledLemmas.{settled-tops, same-tops, settled-by_parts, same-parts, settled-none, settled-more, settled-all, settled-early, settled-unlike, same-unlike, same-at, both-held, kind-grown, memory-on}
use Rattle.goal_solver.proofs.relate.resolved.+relating.Goals as goal

pub relate_resolved-relate_resolved_lists-requires : goal.relate_resolved-relate_resolved_lists-requires
relate_resolved-relate_resolved_lists-requires t c =
    let ls : c.deref.result.now ≡ c.parts.result.now = c.deref.ensures.value ∙ c.in_ok-parts-in-NeedParts.ensures in
    let rs : c.deref-in-NeedParts.result.now ≡ c.parts-in-NeedParts.result.now = c.deref-in-NeedParts.ensures.value ∙ c.in_ok-others-in-NeedParts.ensures in
    let left : AreBelow c.args.left.0 c.deref.result.now = subst (AreBelow c.args.left.0) (sym ls) c.parts.ensures.earlier in
    let right : AreBelow c.args.right.0 c.deref-in-NeedParts.result.now = subst (AreBelow c.args.right.0) (sym rs) c.parts-in-NeedParts.ensures.earlier in (
      omega (arith, ceiling-below c.args.left.0 c.deref.result.now left),
      (
        c.requires.effects,
        lists-of_one_kind c.args.terms.now c.args.left c.args.right c.deref.result.now c.deref-in-NeedParts.result.now c.requires.alike.1.0 c.requires.alike.2.0
            (ap (map (tree_at c.args.terms.now)) ls ∙ c.parts.ensures.trees) left (ap (map (tree_at c.args.terms.now)) rs ∙ c.parts-in-NeedParts.ensures.trees) right
            c.in-NeedParts.ensures.1,
      ),
    )

pub relate_resolved-returns-in-Settled-clause-says : goal.relate_resolved-returns-in-Settled-clause-says
relate_resolved-returns-in-Settled-clause-says t c =
    settled-tops c.args.under.now.setting.now c.args.under.now.opens c.args.under.now.depth (erased_at c.args.terms.now c.args.left) (erased_at c.args.terms.now c.args.right) c.in-Settled.outcome c.in-Settled.ensures

pub relate_resolved-returns-in-Settled-clause-same : goal.relate_resolved-returns-in-Settled-clause-same
relate_resolved-returns-in-Settled-clause-same t c =
    λ e. same-tops (erased_at c.args.terms.now c.args.left) (erased_at c.args.terms.now c.args.right) c.in-Settled.outcome c.in-Settled.ensures (setting_in c.args.under.now.setting.now mode.PostAnalysis) e

pub relate_resolved-returns-in_ok-others-in-NeedParts-clause-says : goal.relate_resolved-returns-in_ok-others-in-NeedParts-clause-says
relate_resolved-returns-in_ok-others-in-NeedParts-clause-says t c =
    let ls : c.deref.result.now ≡ c.parts.result.now = c.deref.ensures.value ∙ c.in_ok-parts-in-NeedParts.ensures in
    let rs : c.deref-in-NeedParts.result.now ≡ c.parts-in-NeedParts.result.now = c.deref-in-NeedParts.ensures.value ∙ c.in_ok-others-in-NeedParts.ensures in
    settled-by_parts c.args.under.now.setting.now c.args.under.now.opens c.args.under.now.depth c.args.terms.now c.args.left c.args.right c.deref.result.now c.deref-in-NeedParts.result.now c.relate_resolved_lists.result c.in-NeedParts.ensures.0
    (ap (map (tree_at c.args.terms.now)) ls ∙ c.parts.ensures.trees) (ap (map (tree_at c.args.terms.now)) rs ∙ c.parts-in-NeedParts.ensures.trees) c.relate_resolved_lists.ensures.says

pub relate_resolved-returns-in_ok-others-in-NeedParts-clause-same : goal.relate_resolved-returns-in_ok-others-in-NeedParts-clause-same
relate_resolved-returns-in_ok-others-in-NeedParts-clause-same t c =
    let ls : c.deref.result.now ≡ c.parts.result.now = c.deref.ensures.value ∙ c.in_ok-parts-in-NeedParts.ensures in
    let rs : c.deref-in-NeedParts.result.now ≡ c.parts-in-NeedParts.result.now = c.deref-in-NeedParts.ensures.value ∙ c.in_ok-others-in-NeedParts.ensures in
    λ e. c.relate_resolved_lists.ensures.same (same-parts c.args.terms.now c.args.left c.args.right c.deref.result.now c.deref-in-NeedParts.result.now
    (ap (map (tree_at c.args.terms.now)) ls ∙ c.parts.ensures.trees) (ap (map (tree_at c.args.terms.now)) rs ∙ c.parts-in-NeedParts.ensures.trees) e)

pub relate_resolved_lists-returns-then-right-count-clause-says : goal.relate_resolved_lists-returns-then-right-count-clause-says
relate_resolved_lists-returns-then-right-count-clause-says t c =
    settled-unlike c.args.under.now.setting.now c.args.under.now.opens c.args.under.now.depth c.args.terms.now c.args.left.now c.args.right.now c.if-right-count.true

pub relate_resolved_lists-returns-then-right-count-clause-same : goal.relate_resolved_lists-returns-then-right-count-clause-same
relate_resolved_lists-returns-then-right-count-clause-same t c = λ e. absurd (same-unlike c.args.terms.now c.args.left.now c.args.right.now c.if-right-count.true e)

pub relate_resolved_lists-loop-i-init : goal.relate_resolved_lists-loop-i-init
relate_resolved_lists-loop-i-init t c = record {
  effects = c.requires.effects;
  kept = record { longer = omega arith; same = λ id e. refl };
  settled = settled-none c.args.under.now.setting.now c.args.under.now.opens c.args.under.now.depth;
  same = λ e. refl;
}

pub relate_resolved_lists-returns-then-is_refuted-clause-kept : goal.relate_resolved_lists-returns-then-is_refuted-clause-kept
relate_resolved_lists-returns-then-is_refuted-clause-kept t c = c.loop-i.invariant.kept

pub relate_resolved_lists-returns-then-is_refuted-clause-says : goal.relate_resolved_lists-returns-then-is_refuted-clause-says
relate_resolved_lists-returns-then-is_refuted-clause-says t c =
    settled-early c.args.under.now.setting.now c.args.under.now.opens c.args.under.now.depth c.args.terms.now c.args.left.now c.args.right.now c.loop-i.i c.loop-i.outcome
    (c.is_refuted.ensures.0 c.if-is_refuted.true) (omega arith) (omega arith) c.loop-i.invariant.settled

pub relate_resolved_lists-returns-then-is_refuted-clause-same : goal.relate_resolved_lists-returns-then-is_refuted-clause-same
relate_resolved_lists-returns-then-is_refuted-clause-same t c = λ e. sym (c.is_refuted.ensures.0 c.if-is_refuted.true) ∙ c.loop-i.invariant.same e

pub relate_resolved_lists-relate_resolved-requires : goal.relate_resolved_lists-relate_resolved-requires
relate_resolved_lists-relate_resolved-requires t c =
    let p : c.loop-i.i < length c.args.left.now = omega arith in
    let r : c.loop-i.i < length c.args.right.now = omega arith in
    let left : IsOfKind c.args.terms.now c.requires.alike.0 (get_or c.args.left.now c.loop-i.i (record { 0 = 0 })) = All-get_or (IsOfKind c.args.terms.now c.requires.alike.0) c.args.left.now c.loop-i.i (record { 0 = 0 }) p c.requires.alike.1 in
    let right : IsOfKind c.args.terms.now c.requires.alike.0 (get_or c.args.right.now c.loop-i.i (record { 0 = 0 })) = All-get_or (IsOfKind c.args.terms.now c.requires.alike.0) c.args.right.now c.loop-i.i (record { 0 = 0 }) r c.requires.alike.2 in (
      omega (arith, below-ceiling c.args.left.now c.loop-i.i (record { 0 = 0 }) p, c.decreases),
      (c.loop-i.invariant.effects, (c.requires.alike.0, kind-grown c.args.terms.now c.loop-i.terms c.loop-i.invariant.kept c.requires.alike.0 _ left, kind-grown c.args.terms.now c.loop-i.terms c.loop-i.invariant.kept c.requires.alike.0 _ right)),
    )

pub relate_resolved_lists-returns-in_err-next-clause-kept : goal.relate_resolved_lists-returns-in_err-next-clause-kept
relate_resolved_lists-returns-in_err-next-clause-kept t c = keeps-chain _ _ _ c.loop-i.invariant.kept c.in_err-next.ensures.kept

pub relate_resolved_lists-returns-in_err-next-clause-same : goal.relate_resolved_lists-returns-in_err-next-clause-same
relate_resolved_lists-returns-in_err-next-clause-same t c =
    let p : c.loop-i.i < length c.args.left.now = omega arith in
    let r : c.loop-i.i < length c.args.right.now = omega arith in
    let left : IsOfKind c.args.terms.now c.requires.alike.0 (get_or c.args.left.now c.loop-i.i (record { 0 = 0 })) = All-get_or (IsOfKind c.args.terms.now c.requires.alike.0) c.args.left.now c.loop-i.i (record { 0 = 0 }) p c.requires.alike.1 in
    let right : IsOfKind c.args.terms.now c.requires.alike.0 (get_or c.args.right.now c.loop-i.i (record { 0 = 0 })) = All-get_or (IsOfKind c.args.terms.now c.requires.alike.0) c.args.right.now c.loop-i.i (record { 0 = 0 }) r c.requires.alike.2 in
    λ e. memory-on c.from_residual.result c.in_err-next.field-0.0 c.from_residual.ensures.1
    (c.in_err-next.ensures.same (same-at c.args.terms.now c.loop-i.terms c.args.left.now c.args.right.now c.loop-i.i (record { 0 = 0 }) c.loop-i.invariant.kept p r left.0 right.0 e))

pub relate_resolved_lists-loop-i-preserved : goal.relate_resolved_lists-loop-i-preserved
relate_resolved_lists-loop-i-preserved t c =
    let p : c.loop-i.i < length c.args.left.now = omega arith in
    let r : c.loop-i.i < length c.args.right.now = omega arith in
    let left : IsOfKind c.args.terms.now c.requires.alike.0 (get_or c.args.left.now c.loop-i.i (record { 0 = 0 })) = All-get_or (IsOfKind c.args.terms.now c.requires.alike.0) c.args.left.now c.loop-i.i (record { 0 = 0 }) p c.requires.alike.1 in
    let right : IsOfKind c.args.terms.now c.requires.alike.0 (get_or c.args.right.now c.loop-i.i (record { 0 = 0 })) = All-get_or (IsOfKind c.args.terms.now c.requires.alike.0) c.args.right.now c.loop-i.i (record { 0 = 0 }) r c.requires.alike.2 in record {
      effects = c.in_ok-next.ensures.effects;
      kept = keeps-chain _ _ _ c.loop-i.invariant.kept c.in_ok-next.ensures.kept;
      settled = subst (AreSettled c.args.under.now.setting.now c.args.under.now.opens c.args.under.now.depth (take (c.loop-i.i + 1) (erased_all c.args.terms.now c.args.left.now)) (take (c.loop-i.i + 1) (erased_all c.args.terms.now c.args.right.now))) (sym c.and-outcome.ensures)
          (settled-more c.args.under.now.setting.now c.args.under.now.opens c.args.under.now.depth c.args.terms.now c.loop-i.terms c.args.left.now c.args.right.now c.loop-i.i (record { 0 = 0 }) c.loop-i.outcome c.in_ok-next.next
          c.loop-i.invariant.kept p r left.0 right.0 c.loop-i.invariant.settled c.in_ok-next.ensures.says);
      same = λ e. c.and-outcome.ensures ∙ both-held c.loop-i.outcome c.in_ok-next.next (c.loop-i.invariant.same e)
          (c.in_ok-next.ensures.same (same-at c.args.terms.now c.loop-i.terms c.args.left.now c.args.right.now c.loop-i.i (record { 0 = 0 }) c.loop-i.invariant.kept p r left.0 right.0 e));
    }

pub relate_resolved_lists-returns-clause-kept : goal.relate_resolved_lists-returns-clause-kept
relate_resolved_lists-returns-clause-kept t c = c.loop-i.invariant.kept

pub relate_resolved_lists-returns-clause-says : goal.relate_resolved_lists-returns-clause-says
relate_resolved_lists-returns-clause-says t c =
    settled-all c.args.under.now.setting.now c.args.under.now.opens c.args.under.now.depth c.args.terms.now c.args.left.now c.args.right.now c.loop-i.i c.loop-i.outcome (omega arith) (omega arith) c.loop-i.invariant.settled

pub relate_resolved_lists-returns-clause-same : goal.relate_resolved_lists-returns-clause-same
relate_resolved_lists-returns-clause-same t c = c.loop-i.invariant.same
