use Rattle.std.proofs.Common.{◌<◌, sym, ◌∙◌, ap, arith}
use Rattle.goal_terms.specs.Tree.{tree_size}
use Rattle.goal_terms.specs.View.{tree_of_ref, trees_seen}
use Rattle.goal_terms.specs.declared.node_tests.Within.TheVariants.{Everything}
use Rattle.goal_terms.proofs.NodeTestLemmas.{some_from, some_from-more, some_from-found, some_from-end}
use Rattle.goal_terms.proofs.WalkLemmas.{tree_size-part}
use Rattle.goal_eval.specs.HeaderWords.{is_unknown}
use Rattle.goal_eval.proofs.HeaderArgLemmas.{unknown-here, unknown-parts}
use Rattle.goal_eval.proofs.relate.header_args.+mentions_unknown.Goals as goal

pub returns-then-is_missing : goal.returns-then-is_missing
returns-then-is_missing t c =
    unknown-here c.args.known.now (tree_of_ref c.args.term) c.node.result c.parameter_at.result c.is_missing.result c.node.ensures c.parameter_at.ensures c.is_missing.ensures c.if-is_missing.true

pub mentions_unknown-requires : goal.mentions_unknown-requires
mentions_unknown-requires t c = (
  let p : tree_size (tree_of_ref c.at.result) < tree_size (tree_of_ref c.args.term) =
      tree_size-part (tree_of_ref c.args.term) c.loop-i.i (tree_of_ref c.at.result) (rw (← c.parts-parts.ensures) c.at.ensures) in
      omega (arith, p, c.decreases),
  tt,
)

pub returns-then-mentions_unknown : goal.returns-then-mentions_unknown
returns-then-mentions_unknown t c =
    sym (unknown-parts c.args.known.now (tree_of_ref c.args.term) c.node.result c.parameter_at.result c.is_missing.result c.node.ensures c.parameter_at.ensures c.is_missing.ensures c.if-is_missing.false
    ∙ ap (λ ts. some_from Everything (is_unknown c.args.known.now) ts 0) (sym c.parts-parts.ensures)
    ∙ some_from-found Everything (is_unknown c.args.known.now) (trees_seen c.parts-parts.result) c.loop-i.i (tree_of_ref c.at.result) _ c.at.ensures
    (sym c.mentions_unknown.ensures ∙ c.if-mentions_unknown.true) c.loop-i.invariant)

pub loop-i-preserved : goal.loop-i-preserved
loop-i-preserved t c =
    some_from-more Everything (is_unknown c.args.known.now) (trees_seen c.parts-parts.result) c.loop-i.i (tree_of_ref c.at.result) _ c.at.ensures
    (sym c.mentions_unknown.ensures ∙ c.if-mentions_unknown.false) c.loop-i.invariant

pub returns : goal.returns
returns t c =
    sym (unknown-parts c.args.known.now (tree_of_ref c.args.term) c.node.result c.parameter_at.result c.is_missing.result c.node.ensures c.parameter_at.ensures c.is_missing.ensures c.if-is_missing.false
    ∙ ap (λ ts. some_from Everything (is_unknown c.args.known.now) ts 0) (sym c.parts-parts.ensures)
    ∙ sym c.loop-i.invariant
    ∙ some_from-end Everything (is_unknown c.args.known.now) (trees_seen c.parts-parts.result) c.loop-i.i (omega (arith, c.len-i-end.ensures)))
