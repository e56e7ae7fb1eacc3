use Rattle.std.proofs.Common.{◌≡◌, ◌||◌, ◌&&◌, ◌∙◌, true, length, sym, ap, arith}
use Rattle.std.proofs.lemmas.List.{length-map}
use Rattle.goal_interner.specs.TableMeaning.{tree_at}
use Rattle.goal_terms.specs.Tree.{parts_of}
use Rattle.goal_terms.specs.View.{tree_of_ref, trees_seen}
use Rattle.goal_terms.proofs.SizeLemmas.{sizes, tree_size-parts}
use Rattle.goal_lists.specs.FastReject.{heads_agree}
use Rattle.goal_lists.specs.Fitting.{trees_at}
use Rattle.goal_lists.proofs.AgreeLemmas.{agree-open, agree-closed, left_passes, right_passes, none_passes, agree_from, agree_from-more, agree_from-none, agree_from-end, agree_from-start, lists_agree-lengths, size-among}
use Rattle.goal_lists.proofs.FittingLemmas.{parts_below, below-at, tree-among}
use Rattle.goal_lists.proofs.OtherHeadLemmas.{any_two}
use Rattle.goal_lists.proofs.candidates.fitting.+heads.Goals as goal
use Rattle.goal_lists.proofs.candidates.fitting.+heads.Goals.{head_agrees-then-given_open-via-then-given_open, head_agrees-then-given_open-via-else-given_open+then-header_open}

pub head_agrees-returns-then-given_open : goal.head_agrees-returns-then-given_open
head_agrees-returns-then-given_open t c =
    let either : c.is_open-given_open.result || c.is_open-header_open.result ≡ true =
    elim c.then-given_open.branch [
      | head_agrees-then-given_open-via-then-given_open w ↦ left_passes c.is_open-given_open.result c.is_open-header_open.result w.if-given_open.true
      | head_agrees-then-given_open-via-else-given_open+then-header_open w ↦
          right_passes c.is_open-given_open.result c.is_open-header_open.result w.if-given_open.false w.if-header_open.true
    ] in
    agree-open any_two c.args.parameters (tree_at c.args.terms.now c.args.given) (tree_of_ref c.args.header) c.node-node.result c.node-other.result
    c.is_open-given_open.result c.is_open-header_open.result c.node-node.ensures.top c.node-other.ensures
    c.is_open-given_open.ensures c.is_open-header_open.ensures either

pub head_agrees-returns-then-not-is_same : goal.head_agrees-returns-then-not-is_same
head_agrees-returns-then-not-is_same t c =
    sym (
    agree-closed any_two c.args.parameters (tree_at c.args.terms.now c.args.given) (tree_of_ref c.args.header) c.node-node.result c.node-other.result
    c.is_open-given_open.result c.is_open-header_open.result c.is_same.result c.node-node.ensures.top c.node-other.ensures
    c.is_open-given_open.ensures c.is_open-header_open.ensures
    (none_passes c.is_open-given_open.result c.is_open-header_open.result c.if-given_open.false c.if-header_open.false) c.is_same.ensures
    ∙ ap (λ b. b && heads_agree c.args.parameters (parts_of (tree_at c.args.terms.now c.args.given)) (parts_of (tree_of_ref c.args.header))) c.if-not-is_same.true)

pub head_agrees-parts_agree-requires : goal.head_agrees-parts_agree-requires
head_agrees-parts_agree-requires t c = (
  omega (arith, tree_size-parts (tree_of_ref c.args.header), ap sizes c.parts-2.ensures, c.decreases),
  parts_below c.args.terms.now c.args.given.0 c.parts.result.now c.requires c.parts.ensures.earlier,
)

pub head_agrees-returns : goal.head_agrees-returns
head_agrees-returns t c =
    c.parts_agree.ensures
    ∙ ap (λ ts. heads_agree c.args.parameters ts (trees_seen c.parts-2.result)) c.parts.ensures.trees
    ∙ ap (λ us. heads_agree c.args.parameters (parts_of (tree_at c.args.terms.now c.args.given)) us) c.parts-2.ensures
    ∙ sym (
    agree-closed any_two c.args.parameters (tree_at c.args.terms.now c.args.given) (tree_of_ref c.args.header) c.node-node.result c.node-other.result
    c.is_open-given_open.result c.is_open-header_open.result c.is_same.result c.node-node.ensures.top c.node-other.ensures
    c.is_open-given_open.ensures c.is_open-header_open.ensures
    (none_passes c.is_open-given_open.result c.is_open-header_open.result c.if-given_open.false c.if-header_open.false) c.is_same.ensures
    ∙ ap (λ b. b && heads_agree c.args.parameters (parts_of (tree_at c.args.terms.now c.args.given)) (parts_of (tree_of_ref c.args.header))) c.if-not-is_same.false)

pub parts_agree-returns-then-len-count : goal.parts_agree-returns-then-len-count
parts_agree-returns-then-len-count t c =
    sym (lists_agree-lengths any_two c.args.parameters (trees_at c.args.terms.now c.args.given.now) (trees_seen c.args.header)
    (λ e. c.if-len-count.true (c.len.ensures ∙ e ∙ length-map c.args.given.now (tree_at c.args.terms.now))))

pub parts_agree-head_agrees-requires : goal.parts_agree-head_agrees-requires
parts_agree-head_agrees-requires t c = (
  omega (arith, size-among (trees_seen c.args.header) c.loop-i.i (tree_of_ref c.at.result) c.at.ensures, c.decreases),
  below-at (length c.args.terms.now) c.args.given.now c.loop-i.i _ c.requires (omega arith),
)

pub parts_agree-returns-then-not-head_agrees : goal.parts_agree-returns-then-not-head_agrees
parts_agree-returns-then-not-head_agrees t c =
    sym (agree_from-none any_two c.args.parameters (trees_at c.args.terms.now c.args.given.now) (trees_seen c.args.header) c.loop-i.i _ (tree_of_ref c.at.result)
    (heads_agree c.args.parameters (trees_at c.args.terms.now c.args.given.now) (trees_seen c.args.header))
    (tree-among c.args.terms.now c.args.given.now c.loop-i.i _ (omega arith)) c.at.ensures
    (sym c.head_agrees.ensures ∙ c.if-not-head_agrees.true) (c.loop-i.invariant ∙ agree_from-start any_two c.args.parameters (trees_at c.args.terms.now c.args.given.now) (trees_seen c.args.header)))

pub parts_agree-loop-i-preserved : goal.parts_agree-loop-i-preserved
parts_agree-loop-i-preserved t c =
    agree_from-more any_two c.args.parameters (trees_at c.args.terms.now c.args.given.now) (trees_seen c.args.header) c.loop-i.i _ (tree_of_ref c.at.result)
    (agree_from any_two c.args.parameters (trees_at c.args.terms.now c.args.given.now) (trees_seen c.args.header) 0)
    (tree-among c.args.terms.now c.args.given.now c.loop-i.i _ (omega arith)) c.at.ensures
    (sym c.head_agrees.ensures ∙ c.if-not-head_agrees.false) c.loop-i.invariant

pub parts_agree-returns : goal.parts_agree-returns
parts_agree-returns t c =
    sym (agree_from-end any_two c.args.parameters (trees_at c.args.terms.now c.args.given.now) (trees_seen c.args.header) c.loop-i.i
    (omega (arith, length-map c.args.given.now (tree_at c.args.terms.now))) (omega arith))
    ∙ c.loop-i.invariant ∙ agree_from-start any_two c.args.parameters (trees_at c.args.terms.now c.args.given.now) (trees_seen c.args.header)
