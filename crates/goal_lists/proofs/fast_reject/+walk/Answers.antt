use Rattle.std.proofs.Common.{◌≡◌, ◌||◌, ◌&&◌, ◌∙◌, true, sym, ap, arith}
use Rattle.goal_terms.specs.Tree.{parts_of}
use Rattle.goal_terms.specs.View.{tree_of_ref, trees_seen}
use Rattle.goal_terms.proofs.SizeLemmas.{sizes, tree_size-parts}
use Rattle.goal_terms.specs.Kinds.{same_kind, kind_of}
use Rattle.goal_lists.specs.FastReject.{have_same_kind, lists_may_unify}
use Rattle.goal_lists.proofs.AgreeLemmas.{agree-open, agree-closed, left_passes, right_passes, none_passes, agree_from, agree_from-more, agree_from-none, agree_from-end, agree_from-start, lists_agree-lengths, size-among}
use Rattle.goal_lists.proofs.fast_reject.+walk.Goals as goal
use Rattle.goal_lists.proofs.fast_reject.+walk.Goals.{may_unify-then-left_open-via-then-left_open, may_unify-then-left_open-via-else-left_open+then-right_open}

pub may_unify-returns-then-left_open : goal.may_unify-returns-then-left_open
may_unify-returns-then-left_open t c =
    let either : c.is_open-left_open.result || c.is_open-right_open.result ≡ true =
    elim c.then-left_open.branch [
      | may_unify-then-left_open-via-then-left_open w ↦ left_passes c.is_open-left_open.result c.is_open-right_open.result w.if-left_open.true
      | may_unify-then-left_open-via-else-left_open+then-right_open w ↦
          right_passes c.is_open-left_open.result c.is_open-right_open.result w.if-left_open.false w.if-right_open.true
    ] in
    (c.same_kind.ensures ∙ ap (λ k. same_kind k c.kind_of-then-left_open.result) c.kind_of.ensures
    ∙ ap (λ k. same_kind (kind_of c.node-node.result) k) c.kind_of-then-left_open.ensures)
    ∙ agree-open have_same_kind c.args.parameters (tree_of_ref c.args.left) (tree_of_ref c.args.right) c.node-node.result c.node-other.result
    c.is_open-left_open.result c.is_open-right_open.result c.node-node.ensures c.node-other.ensures
    c.is_open-left_open.ensures c.is_open-right_open.ensures either

pub may_unify-returns-then-not-is_same : goal.may_unify-returns-then-not-is_same
may_unify-returns-then-not-is_same t c =
    sym (
    agree-closed have_same_kind c.args.parameters (tree_of_ref c.args.left) (tree_of_ref c.args.right) c.node-node.result c.node-other.result
    c.is_open-left_open.result c.is_open-right_open.result c.is_same.result c.node-node.ensures c.node-other.ensures
    c.is_open-left_open.ensures c.is_open-right_open.ensures
    (none_passes c.is_open-left_open.result c.is_open-right_open.result c.if-left_open.false c.if-right_open.false) c.is_same.ensures
    ∙ ap (λ b. b && lists_may_unify c.args.parameters (parts_of (tree_of_ref c.args.left)) (parts_of (tree_of_ref c.args.right))) c.if-not-is_same.true)

pub may_unify-parts_may_unify-requires : goal.may_unify-parts_may_unify-requires
may_unify-parts_may_unify-requires t c = (
  omega (arith, tree_size-parts (tree_of_ref c.args.left), ap sizes c.parts.ensures, c.decreases),
  tt,
)

pub may_unify-returns : goal.may_unify-returns
may_unify-returns t c =
    c.parts_may_unify.ensures
    ∙ ap (λ ts. lists_may_unify c.args.parameters ts (trees_seen c.parts-2.result)) c.parts.ensures
    ∙ ap (λ us. lists_may_unify c.args.parameters (parts_of (tree_of_ref c.args.left)) us) c.parts-2.ensures
    ∙ sym (
    agree-closed have_same_kind c.args.parameters (tree_of_ref c.args.left) (tree_of_ref c.args.right) c.node-node.result c.node-other.result
    c.is_open-left_open.result c.is_open-right_open.result c.is_same.result c.node-node.ensures c.node-other.ensures
    c.is_open-left_open.ensures c.is_open-right_open.ensures
    (none_passes c.is_open-left_open.result c.is_open-right_open.result c.if-left_open.false c.if-right_open.false) c.is_same.ensures
    ∙ ap (λ b. b && lists_may_unify c.args.parameters (parts_of (tree_of_ref c.args.left)) (parts_of (tree_of_ref c.args.right))) c.if-not-is_same.false)

pub parts_may_unify-returns-then-len-count : goal.parts_may_unify-returns-then-len-count
parts_may_unify-returns-then-len-count t c =
    sym (lists_agree-lengths have_same_kind c.args.parameters (trees_seen c.args.left) (trees_seen c.args.right)
    (λ e. c.if-len-count.true (c.len.ensures ∙ e ∙ sym c.len-count.ensures)))

pub parts_may_unify-may_unify-requires : goal.parts_may_unify-may_unify-requires
parts_may_unify-may_unify-requires t c = (
  omega (arith, size-among (trees_seen c.args.left) c.loop-i.i (tree_of_ref c.at.result) c.at.ensures, c.decreases),
  tt,
)

pub parts_may_unify-returns-then-not-may_unify : goal.parts_may_unify-returns-then-not-may_unify
parts_may_unify-returns-then-not-may_unify t c =
    sym (agree_from-none have_same_kind c.args.parameters (trees_seen c.args.left) (trees_seen c.args.right) c.loop-i.i (tree_of_ref c.at.result) (tree_of_ref c.at-in-loop-i.result)
    (lists_may_unify c.args.parameters (trees_seen c.args.left) (trees_seen c.args.right)) c.at.ensures c.at-in-loop-i.ensures
    (sym c.may_unify.ensures ∙ c.if-not-may_unify.true) (c.loop-i.invariant ∙ agree_from-start have_same_kind c.args.parameters (trees_seen c.args.left) (trees_seen c.args.right)))

pub parts_may_unify-loop-i-preserved : goal.parts_may_unify-loop-i-preserved
parts_may_unify-loop-i-preserved t c =
    agree_from-more have_same_kind c.args.parameters (trees_seen c.args.left) (trees_seen c.args.right) c.loop-i.i (tree_of_ref c.at.result) (tree_of_ref c.at-in-loop-i.result)
    (agree_from have_same_kind c.args.parameters (trees_seen c.args.left) (trees_seen c.args.right) 0) c.at.ensures c.at-in-loop-i.ensures
    (sym c.may_unify.ensures ∙ c.if-not-may_unify.false) c.loop-i.invariant

pub parts_may_unify-returns : goal.parts_may_unify-returns
parts_may_unify-returns t c =
    sym (agree_from-end have_same_kind c.args.parameters (trees_seen c.args.left) (trees_seen c.args.right) c.loop-i.i (omega arith) (omega arith))
    ∙ c.loop-i.invariant ∙ agree_from-start have_same_kind c.args.parameters (trees_seen c.args.left) (trees_seen c.args.right)
