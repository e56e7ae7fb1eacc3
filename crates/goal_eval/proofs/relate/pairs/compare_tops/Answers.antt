use Rattle.std.proofs.Common.{◌≡◌, ◌∙◌, ap, sym}
use Rattle.std.proofs.lemmas.Bool.{false≢true}
use Rattle.goal_interner.specs.TableMeaning.{tree_at}
use Rattle.goal_terms.specs.Erased.{erased}
use Rattle.goal_lists.specs.Interned.{erased_at}
use Rattle.goal_interner.proofs.SameTermLemmas.{tops-same, tops-differ}
use Rattle.goal_terms.proofs.WalkLemmas.{node_of-compared}
use Rattle.goal_terms.specs.declared.compare.Regions.TheVariants.{Forgotten}
use Rattle.goal_eval.proofs.TopLemmas.{aliases-erased, variables-erased, one-head, same-settled, loose-settled, differ-settled}
use Rattle.goal_eval.proofs.PartKinds.{parts-of_one_kind}
use Rattle.goal_terms.specs.SameHead.{top_of}
use Rattle.goal_eval.proofs.relate.pairs.compare_tops.Goals as goal

pub returns-then-same_term : goal.returns-then-same_term
returns-then-same_term c =
    same-settled (erased_at c.args.terms.now c.args.left) (erased_at c.args.terms.now c.args.right) (ap erased (c.same_term.ensures.identical.0 c.if-same_term.true))

pub returns-then-same_erased : goal.returns-then-same_erased
returns-then-same_erased c =
    same-settled (erased_at c.args.terms.now c.args.left) (erased_at c.args.terms.now c.args.right) (c.same_erased.ensures.0 c.if-same_erased.true)

pub returns-else-same_erased : goal.returns-else-same_erased
returns-else-same_erased c = (
  aliases-erased (tree_at c.args.terms.now c.args.left) (tree_at c.args.terms.now c.args.right) c.node-node.result c.node-other.result
      c.node-node.ensures.top c.node-other.ensures.top _ (sym c.either_alias.ensures ∙ c.if-either_alias.true),
  λ e. false≢true (sym c.if-same_erased.false ∙ c.same_erased.ensures.1 e),
)

pub returns-then-either_variable : goal.returns-then-either_variable
returns-then-either_variable c =
    loose-settled c.args.terms.now c.args.left c.args.right c.node-node.result c.node-other.result c.node-node.ensures.top c.node-other.ensures.top
    (sym c.either_alias.ensures ∙ c.if-either_alias.false) (sym c.either_variable.ensures ∙ c.if-either_variable.true)
    (λ e. false≢true (sym c.if-same_term.false ∙ c.same_term.ensures.identical.1 e))

pub returns-then-is_same : goal.returns-then-is_same
returns-then-is_same c =
    let same : top_of (tree_at c.args.terms.now c.args.left) ≡ top_of (tree_at c.args.terms.now c.args.right) =
    tops-same c.node-node.result c.node-other.result (tree_at c.args.terms.now c.args.left) (tree_at c.args.terms.now c.args.right) c.is_same.result
    c.is_same.ensures c.node-node.ensures.top c.node-other.ensures.top c.if-is_same.true in (
      one-head (erased_at c.args.terms.now c.args.left) (erased_at c.args.terms.now c.args.right)
          (aliases-erased _ _ c.node-node.result c.node-other.result c.node-node.ensures.top c.node-other.ensures.top _ (sym c.either_alias.ensures ∙ c.if-either_alias.false))
          (variables-erased _ _ c.node-node.result c.node-other.result c.node-node.ensures.top c.node-other.ensures.top _ (sym c.either_variable.ensures ∙ c.if-either_variable.false))
          (node_of-compared Forgotten (tree_at c.args.terms.now c.args.left) ∙ same ∙ sym (node_of-compared Forgotten (tree_at c.args.terms.now c.args.right))),
      parts-of_one_kind (tree_at c.args.terms.now c.args.left) (tree_at c.args.terms.now c.args.right) c.node-node.result c.node-other.result
          c.node-node.ensures.top c.node-other.ensures.top same c.node-node.ensures.fits c.node-other.ensures.fits,
    )

pub returns-else-is_same : goal.returns-else-is_same
returns-else-is_same c =
    differ-settled (erased_at c.args.terms.now c.args.left) (erased_at c.args.terms.now c.args.right) (
      aliases-erased _ _ c.node-node.result c.node-other.result c.node-node.ensures.top c.node-other.ensures.top _ (sym c.either_alias.ensures ∙ c.if-either_alias.false),
      variables-erased _ _ c.node-node.result c.node-other.result c.node-node.ensures.top c.node-other.ensures.top _ (sym c.either_variable.ensures ∙ c.if-either_variable.false),
      λ e. tops-differ c.node-node.result c.node-other.result (tree_at c.args.terms.now c.args.left) (tree_at c.args.terms.now c.args.right) c.is_same.result
          c.is_same.ensures c.node-node.ensures.top c.node-other.ensures.top c.if-is_same.false
          (sym (node_of-compared Forgotten (tree_at c.args.terms.now c.args.left)) ∙ e ∙ node_of-compared Forgotten (tree_at c.args.terms.now c.args.right)),
    )
