use Rattle.std.proofs.Common.{◌<◌, sym, ap, ◌∙◌, arith}
use Rattle.goal_terms.specs.Tree.{tree_size}
use Rattle.goal_terms.specs.View.{tree_of_ref, trees_seen}
use Rattle.goal_terms.specs.declared.node_tests.Within.TheVariants.{OutsideAliases}
use Rattle.goal_terms.proofs.NodeTestLemmas.{some_from, some_from-more, some_from-found, some_from-end}
use Rattle.goal_terms.proofs.WalkLemmas.{tree_size-part}
use Rattle.goal_lists.specs.Headers.{is_number, is_parameter, has_place}
use Rattle.goal_eval.proofs.HeaderPlaceLemmas.{place-alias, place-here, place-parts}
use Rattle.goal_eval.proofs.relate.header_places.+has_place.Goals as goal

pub returns-in-Alias : goal.returns-in-Alias
returns-in-Alias t c = place-alias c.args.number (tree_of_ref c.args.term) c.in-Alias.field-0 (sym c.node-node.ensures ∙ c.in-Alias.is)

pub returns-then-is_number : goal.returns-then-is_number
returns-then-is_number t c =
    place-here c.args.number (tree_of_ref c.args.term) c.node-node.result c.node-node.ensures
    (ap (is_number c.args.number) (sym c.parameter_at.ensures) ∙ sym c.is_number.ensures ∙ c.if-is_number.true)

pub has_place-requires : goal.has_place-requires
has_place-requires t c = (
  let p : tree_size (tree_of_ref c.at.result) < tree_size (tree_of_ref c.args.term) =
      tree_size-part (tree_of_ref c.args.term) c.loop-i.i (tree_of_ref c.at.result) (rw (← c.parts-parts.ensures) c.at.ensures) in
      omega (arith, p, c.decreases),
  tt,
)

pub returns-then-has_place : goal.returns-then-has_place
unfolding has_place
returns-then-has_place t c =
    sym (place-parts c.args.number (tree_of_ref c.args.term) c.node-node.result c.node-node.ensures
    (ap (is_number c.args.number) (sym c.parameter_at.ensures) ∙ sym c.is_number.ensures ∙ c.if-is_number.false) c.in_default.not-Alias
    ∙ ap (λ ts. some_from OutsideAliases (is_parameter c.args.number) ts 0) (sym c.parts-parts.ensures)
    ∙ some_from-found OutsideAliases (is_parameter c.args.number) (trees_seen c.parts-parts.result) c.loop-i.i (tree_of_ref c.at.result) _ c.at.ensures
    (sym c.has_place.ensures ∙ c.if-has_place.true) c.loop-i.invariant)

pub loop-i-preserved : goal.loop-i-preserved
unfolding has_place
loop-i-preserved t c =
    some_from-more OutsideAliases (is_parameter c.args.number) (trees_seen c.parts-parts.result) c.loop-i.i (tree_of_ref c.at.result) _ c.at.ensures
    (sym c.has_place.ensures ∙ c.if-has_place.false) c.loop-i.invariant

pub returns : goal.returns
returns t c =
    sym (place-parts c.args.number (tree_of_ref c.args.term) c.node-node.result c.node-node.ensures
    (ap (is_number c.args.number) (sym c.parameter_at.ensures) ∙ sym c.is_number.ensures ∙ c.if-is_number.false) c.in_default.not-Alias
    ∙ ap (λ ts. some_from OutsideAliases (is_parameter c.args.number) ts 0) (sym c.parts-parts.ensures)
    ∙ sym c.loop-i.invariant
    ∙ some_from-end OutsideAliases (is_parameter c.args.number) (trees_seen c.parts-parts.result) c.loop-i.i (omega (arith, c.len-i-end.ensures)))
