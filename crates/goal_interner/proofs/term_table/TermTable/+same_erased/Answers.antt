use Rattle.std.proofs.Common.{◌≡◌, ◌<◌, length, map, ap, ◌∙◌, sym, arith, refl}
use Rattle.std.proofs.lemmas.Bool.{false≢true}
use Rattle.goal_terms.specs.Erased.{erased}
use Rattle.goal_interner.specs.TableMeaning.{tree_at}
use Rattle.goal_interner.proofs.SameTermLemmas.{agree-more, agree-none, agree-end, part_at, tops-same, tops-differ, erased-joined, erased-top, erased-parts, same-count, length-parts}
use Rattle.goal_interner.proofs.term_table.TermTable.+same_erased.Goals as goal

pub returns-then-not-is_same : goal.returns-then-not-is_same
returns-then-not-is_same t c = (
  λ h. absurd (false≢true h),
  λ e. absurd (tops-differ _ _ _ _ c.is_same.result c.is_same.ensures c.node.ensures.top c.node-2.ensures.top c.if-not-is_same.true (erased-top _ _ e)),
)

pub returns-then-others-count : goal.returns-then-others-count
returns-then-others-count t c = (
  λ h. absurd (false≢true h),
  λ e. absurd (
      let parts : map erased (map (tree_at c.args.self.now) c.parts-parts.result.now) ≡ map erased (map (tree_at c.args.self.now) c.parts-others.result.now) =
      ap (map erased) c.parts-parts.ensures.trees ∙ erased-parts _ _ e ∙ ap (map erased) (sym c.parts-others.ensures.trees) in
      omega (arith, same-count erased c.args.self.now c.parts-parts.result.now c.parts-others.result.now parts)),
)

pub returns-then-not-same_erased : goal.returns-then-not-same_erased
returns-then-not-same_erased t c =
    let first : c.loop-i.i < length c.parts-parts.result.now = omega arith in
    let second : c.loop-i.i < length c.parts-others.result.now = omega arith in (
      λ h. absurd (false≢true h),
      λ e. absurd (agree-none (map erased (map (tree_at c.args.self.now) c.parts-parts.result.now)) (map erased (map (tree_at c.args.self.now) c.parts-others.result.now))
          c.loop-i.i _ _
          (part_at erased c.args.self.now c.parts-parts.result.now c.loop-i.i _ first)
          (part_at erased c.args.self.now c.parts-others.result.now c.loop-i.i _ second)
          (λ p. false≢true (sym c.if-not-same_erased.true ∙ c.same_erased.ensures.1 p))
          (ap (map erased) c.parts-parts.ensures.trees ∙ erased-parts _ _ e ∙ ap (map erased) (sym c.parts-others.ensures.trees))),
    )

pub loop-i-preserved : goal.loop-i-preserved
loop-i-preserved t c =
    let first : c.loop-i.i < length c.parts-parts.result.now = omega arith in
    let second : c.loop-i.i < length c.parts-others.result.now = omega arith in
    agree-more (map erased (map (tree_at c.args.self.now) c.parts-parts.result.now)) (map erased (map (tree_at c.args.self.now) c.parts-others.result.now))
    c.loop-i.i _ _
    (part_at erased c.args.self.now c.parts-parts.result.now c.loop-i.i _ first)
    (part_at erased c.args.self.now c.parts-others.result.now c.loop-i.i _ second)
    (c.same_erased.ensures.0 c.if-not-same_erased.false) c.loop-i.invariant

pub returns : goal.returns
returns t c = (
  λ h. erased-joined _ _
      (tops-same _ _ _ _ c.is_same.result c.is_same.ensures c.node.ensures.top c.node-2.ensures.top c.if-not-is_same.false)
      (ap (map erased) (sym c.parts-parts.ensures.trees)
      ∙ agree-end (map erased (map (tree_at c.args.self.now) c.parts-parts.result.now)) (map erased (map (tree_at c.args.self.now) c.parts-others.result.now)) c.loop-i.i
      (omega (arith, length-parts erased c.args.self.now c.parts-parts.result.now))
      (omega (arith, length-parts erased c.args.self.now c.parts-others.result.now)) c.loop-i.invariant
      ∙ ap (map erased) c.parts-others.ensures.trees),
  λ e. refl,
)
