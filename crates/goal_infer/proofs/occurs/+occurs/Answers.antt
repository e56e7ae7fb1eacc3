use Rattle.std.proofs.Common.{◌<◌, ◌+◌, length, ap, ◌∙◌, sym, subst, arith, get_or}
use Rattle.goal_terms.specs.Tree.{node_of}
use Rattle.goal_interner.specs.TableMeaning.{tree_at}
use Rattle.goal_interner.specs.declared.term_nodes.TermId.{TermId}
use Rattle.std.proofs.lemmas.List.Elements.{All-get_or}
use Rattle.goal_infer.specs.Occurrence.{joined, place_under, place_of, place_at}
use Rattle.goal_infer.proofs.PartLemmas.{is_above, above-if, place-variable, place-parts, places_from, places-more, places-end, places-all, joined-nothing, height-part}
use Rattle.goal_infer.proofs.occurs.+occurs.Goals as goal
use Rattle.goal_infer.proofs.ReplacementLemmas.{height}

pub returns-then-is_same : goal.returns-then-is_same
returns-then-is_same t c =
    ap place_at (sym c.if-is_same.true)
    ∙ place-variable c.args.table.now c.args.state.now c.requires.solved c.args.variable c.resolve-id.result c.node-node.result _ c.is_same.result c.node-node.ensures.top
    c.in-Variable.is c.resolve-id.ensures.unbound c.is_same.ensures
    ∙ ap (place_of c.args.variable) c.resolve-id.ensures.same

pub returns-else-is_same : goal.returns-else-is_same
returns-else-is_same t c =
    ap place_at (sym c.if-is_same.false)
    ∙ place-variable c.args.table.now c.args.state.now c.requires.solved c.args.variable c.resolve-id.result c.node-node.result _ c.is_same.result c.node-node.ensures.top
    c.in-Variable.is c.resolve-id.ensures.unbound c.is_same.ensures
    ∙ ap (place_of c.args.variable) c.resolve-id.ensures.same

pub occurs-requires : goal.occurs-requires
occurs-requires t c =
    let above : is_above (node_of (tree_at c.args.table.now c.resolve-id.result)) = subst is_above c.node-node.ensures.top (above-if c.node-node.result c.in_default.not-Variable) in
    let within : c.loop-part.part-index < length c.parts-part-items.result.now = c.loop-part-test.true in
    let part : TermId = get_or c.parts-part-items.result.now c.loop-part.part-index (record { 0 = 0 }) in
    let earlier : part.0 < c.resolve-id.result.0 =
    All-get_or (λ i. i.0 < c.resolve-id.result.0) c.parts-part-items.result.now c.loop-part.part-index (record { 0 = 0 }) within c.parts-part-items.ensures.earlier in (
      omega (
        arith,
        height-part c.args.table.now c.args.state.now c.resolve-id.result c.parts-part-items.result.now c.loop-part.part-index (record { 0 = 0 })
            c.parts-part-items.ensures.trees above within,
        ap height c.resolve-id.ensures.same,
        c.decreases,
      ),
      (omega (arith, earlier, c.resolve-id.ensures.within), c.requires.solved),
    )

pub loop-part-preserved : goal.loop-part-preserved
loop-part-preserved t c =
    ap (λ o. joined o (places_from c.args.table.now c.args.state.now c.args.variable c.parts-part-items.result.now (c.loop-part.part-index + 1)))
    (c.and-place.ensures ∙ ap (joined c.loop-part.place) c.occurs.ensures)
    ∙ places-more c.args.table.now c.args.state.now c.args.variable c.parts-part-items.result.now c.loop-part.part-index _ c.loop-part.place (omega arith)
    ∙ c.loop-part.invariant

pub returns : goal.returns
returns t c =
    let above : is_above c.node-node.result = above-if c.node-node.result c.in_default.not-Variable in
    c.under.ensures
    ∙ ap (place_under c.node-node.result)
    (sym (joined-nothing c.loop-part.place)
    ∙ ap (joined c.loop-part.place) (sym (places-end c.args.table.now c.args.state.now c.args.variable c.parts-part-items.result.now c.loop-part.part-index (omega arith)))
    ∙ c.loop-part.invariant
    ∙ places-all c.args.table.now c.args.state.now c.args.variable c.parts-part-items.result.now)
    ∙ sym (place-parts c.args.table.now c.args.state.now c.args.variable c.resolve-id.result c.parts-part-items.result.now c.node-node.result
    c.parts-part-items.ensures.trees c.node-node.ensures.top above)
    ∙ ap (place_of c.args.variable) c.resolve-id.ensures.same
