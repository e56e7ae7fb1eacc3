use Rattle.std.proofs.Common.{◌≡◌, ◌<◌, length, map, ap, ◌∙◌, sym, arith, refl, get_or}
use Rattle.std.proofs.lemmas.Bool.{false≢true}
use Rattle.std.proofs.lemmas.List.Elements.{All-get_or}
use Rattle.goal_interner.specs.TableMeaning.{tree_at}
use Rattle.goal_interner.specs.declared.term_nodes.TermId.{TermId}
use Rattle.goal_interner.proofs.SameTermLemmas.{agree-more, agree-none, agree-end, part_at, tops-same, tops-differ, same-count, length-parts}
use Rattle.goal_infer.proofs.SameLemmas.{settled, settled-is, settled-joined, tops-if, parts-if, lower-part}
use Rattle.goal_infer.proofs.same_resolved.+same_resolved.Goals as goal
use Rattle.goal_infer.proofs.ReplacementLemmas.{height}

pub returns-then-same_term : goal.returns-then-same_term
returns-then-same_term t c = (
  λ h. sym c.resolve-left.ensures.same ∙ sym (settled-is c.args.table.now c.args.state.now c.resolve-left.result)
      ∙ ap (settled c.args.table.now c.args.state.now) (c.same_term.ensures.identical.0 c.if-same_term.true)
      ∙ settled-is c.args.table.now c.args.state.now c.resolve-right.result ∙ c.resolve-right.ensures.same,
  λ e. refl,
)

pub returns-then-not-is_same : goal.returns-then-not-is_same
returns-then-not-is_same t c = (
  λ h. absurd (false≢true h),
  λ e. absurd (tops-differ _ _ _ _ c.is_same.result c.is_same.ensures c.node.ensures.top c.node-2.ensures.top c.if-not-is_same.true
      (tops-if c.args.table.now c.args.state.now c.requires.solved (tree_at c.args.table.now c.resolve-left.result) (tree_at c.args.table.now c.resolve-right.result)
      c.resolve-left.ensures.unbound c.resolve-right.ensures.unbound
      (settled-is c.args.table.now c.args.state.now c.resolve-left.result ∙ c.resolve-left.ensures.same ∙ e ∙ sym c.resolve-right.ensures.same
      ∙ sym (settled-is c.args.table.now c.args.state.now c.resolve-right.result)))),
)

pub returns-then-others-count : goal.returns-then-others-count
returns-then-others-count t c = (
  λ h. absurd (false≢true h),
  λ e. absurd (
      let parts : map (settled c.args.table.now c.args.state.now) (map (tree_at c.args.table.now) c.parts-parts.result.now)
      ≡ map (settled c.args.table.now c.args.state.now) (map (tree_at c.args.table.now) c.parts-others.result.now) =
      ap (map (settled c.args.table.now c.args.state.now)) c.parts-parts.ensures.trees
      ∙ parts-if c.args.table.now c.args.state.now c.requires.solved (tree_at c.args.table.now c.resolve-left.result) (tree_at c.args.table.now c.resolve-right.result)
      c.resolve-left.ensures.unbound c.resolve-right.ensures.unbound
      (settled-is c.args.table.now c.args.state.now c.resolve-left.result ∙ c.resolve-left.ensures.same ∙ e ∙ sym c.resolve-right.ensures.same
      ∙ sym (settled-is c.args.table.now c.args.state.now c.resolve-right.result))
      ∙ ap (map (settled c.args.table.now c.args.state.now)) (sym c.parts-others.ensures.trees) in
      omega (arith, same-count (settled c.args.table.now c.args.state.now) c.args.table.now c.parts-parts.result.now c.parts-others.result.now parts)),
)

pub same_resolved-requires : goal.same_resolved-requires
same_resolved-requires t c =
    let first : c.loop-i.i < length c.parts-parts.result.now = omega arith in
    let second : c.loop-i.i < length c.parts-others.result.now = omega arith in
    let part : TermId = get_or c.parts-parts.result.now c.loop-i.i (record { 0 = 0 }) in
    let other : TermId = get_or c.parts-others.result.now c.loop-i.i (record { 0 = 0 }) in
    let earlier : part.0 < c.resolve-left.result.0 =
    All-get_or (λ i. i.0 < c.resolve-left.result.0) c.parts-parts.result.now c.loop-i.i (record { 0 = 0 }) first c.parts-parts.ensures.earlier in
    let before : other.0 < c.resolve-right.result.0 =
    All-get_or (λ i. i.0 < c.resolve-right.result.0) c.parts-others.result.now c.loop-i.i (record { 0 = 0 }) second c.parts-others.ensures.earlier in (
      omega (
        arith,
        lower-part c.args.table.now c.args.state.now c.resolve-left.result c.parts-parts.result.now c.loop-i.i (record { 0 = 0 }) c.parts-parts.ensures.trees first,
        ap height c.resolve-left.ensures.same,
        c.decreases,
      ),
      (omega (arith, earlier, c.resolve-left.ensures.within), (omega (arith, before, c.resolve-right.ensures.within), c.requires.solved)),
    )

pub returns-then-not-same_resolved : goal.returns-then-not-same_resolved
returns-then-not-same_resolved t c =
    let first : c.loop-i.i < length c.parts-parts.result.now = omega arith in
    let second : c.loop-i.i < length c.parts-others.result.now = omega arith in (
      λ h. absurd (false≢true h),
      λ e. absurd (agree-none (map (settled c.args.table.now c.args.state.now) (map (tree_at c.args.table.now) c.parts-parts.result.now))
          (map (settled c.args.table.now c.args.state.now) (map (tree_at c.args.table.now) c.parts-others.result.now))
          c.loop-i.i _ _
          (part_at (settled c.args.table.now c.args.state.now) c.args.table.now c.parts-parts.result.now c.loop-i.i (record { 0 = 0 }) first)
          (part_at (settled c.args.table.now c.args.state.now) c.args.table.now c.parts-others.result.now c.loop-i.i (record { 0 = 0 }) second)
          (λ p. false≢true (sym c.if-not-same_resolved.true ∙ c.same_resolved.ensures.1
          (sym (settled-is c.args.table.now c.args.state.now _) ∙ p ∙ settled-is c.args.table.now c.args.state.now _)))
          (ap (map (settled c.args.table.now c.args.state.now)) c.parts-parts.ensures.trees
          ∙ parts-if c.args.table.now c.args.state.now c.requires.solved (tree_at c.args.table.now c.resolve-left.result) (tree_at c.args.table.now c.resolve-right.result)
          c.resolve-left.ensures.unbound c.resolve-right.ensures.unbound
          (settled-is c.args.table.now c.args.state.now c.resolve-left.result ∙ c.resolve-left.ensures.same ∙ e ∙ sym c.resolve-right.ensures.same
          ∙ sym (settled-is c.args.table.now c.args.state.now c.resolve-right.result))
          ∙ ap (map (settled c.args.table.now c.args.state.now)) (sym c.parts-others.ensures.trees))),
    )

pub loop-i-preserved : goal.loop-i-preserved
loop-i-preserved t c =
    let first : c.loop-i.i < length c.parts-parts.result.now = omega arith in
    let second : c.loop-i.i < length c.parts-others.result.now = omega arith in
    agree-more (map (settled c.args.table.now c.args.state.now) (map (tree_at c.args.table.now) c.parts-parts.result.now))
    (map (settled c.args.table.now c.args.state.now) (map (tree_at c.args.table.now) c.parts-others.result.now))
    c.loop-i.i _ _
    (part_at (settled c.args.table.now c.args.state.now) c.args.table.now c.parts-parts.result.now c.loop-i.i (record { 0 = 0 }) first)
    (part_at (settled c.args.table.now c.args.state.now) c.args.table.now c.parts-others.result.now c.loop-i.i (record { 0 = 0 }) second)
    (settled-is c.args.table.now c.args.state.now _ ∙ c.same_resolved.ensures.0 c.if-not-same_resolved.false ∙ sym (settled-is c.args.table.now c.args.state.now _))
    c.loop-i.invariant

pub returns : goal.returns
returns t c = (
  λ h. sym c.resolve-left.ensures.same ∙ sym (settled-is c.args.table.now c.args.state.now c.resolve-left.result)
      ∙ settled-joined c.args.table.now c.args.state.now c.requires.solved (tree_at c.args.table.now c.resolve-left.result) (tree_at c.args.table.now c.resolve-right.result)
      c.resolve-left.ensures.unbound c.resolve-right.ensures.unbound
      (tops-same _ _ _ _ c.is_same.result c.is_same.ensures c.node.ensures.top c.node-2.ensures.top c.if-not-is_same.false)
      (ap (map (settled c.args.table.now c.args.state.now)) (sym c.parts-parts.ensures.trees)
      ∙ agree-end (map (settled c.args.table.now c.args.state.now) (map (tree_at c.args.table.now) c.parts-parts.result.now))
      (map (settled c.args.table.now c.args.state.now) (map (tree_at c.args.table.now) c.parts-others.result.now)) c.loop-i.i
      (omega (arith, length-parts (settled c.args.table.now c.args.state.now) c.args.table.now c.parts-parts.result.now))
      (omega (arith, length-parts (settled c.args.table.now c.args.state.now) c.args.table.now c.parts-others.result.now)) c.loop-i.invariant
      ∙ ap (map (settled c.args.table.now c.args.state.now)) c.parts-others.ensures.trees)
      ∙ settled-is c.args.table.now c.args.state.now c.resolve-right.result ∙ c.resolve-right.ensures.same,
  λ e. refl,
)
