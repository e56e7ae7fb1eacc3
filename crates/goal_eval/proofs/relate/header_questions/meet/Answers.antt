use Rattle.std.proofs.Common.{false, refl, sym, ◌∙◌, ap}
use Rattle.goal_interner.specs.TableMeaning.{tree_at}
use Rattle.goal_terms.specs.View.{tree_of_ref}
use Rattle.goal_terms.proofs.FitLemmas.{ref_fit}
use Rattle.goal_interner.proofs.UnderLemmas.{node-fits}
use Rattle.goal_lists.specs.Levels.{level}
use Rattle.goal_eval.specs.HeaderWords.{is_whole, IsKnown}
use Rattle.goal_eval.proofs.HeaderPlaceLemmas.{below, level-above, heads-same, heads-other, parts-stand, neither, fits-at}
use Rattle.goal_eval.proofs.HeaderClashLemmas.{whole-head, clash-loose, clash-variable, clash-apart, clash-alike}
use Rattle.goal_eval.proofs.relate.header_questions.meet.Goals as goal

pub returns-in_default : goal.returns-in_default
returns-in_default c = record {
  within = tt;
  says = λ S k ks. neither (clash-loose (level S k) (below S k) (level-above S k) (IsKnown ks) (tree_of_ref c.args.header) _
      (ap is_whole (sym c.node-node.ensures) ∙ sym c.is_whole.ensures ∙ c.if-is_whole.false) (λ h e. c.in_default.not-Head h (c.node-node.ensures ∙ e)));
}

pub returns-in-Variable-clause-says : goal.returns-in-Variable-clause-says
returns-in-Variable-clause-says c =
    λ S k ks. neither (clash-variable (level S k) (below S k) (level-above S k) (IsKnown ks) (tree_of_ref c.args.header) (tree_at c.args.terms.now c.args.given)
    c.in-Head.field-0 c.in-Variable.field-0 (sym c.node-node.ensures ∙ c.in-Head.is)
    (whole-head c.node-node.result c.in-Head.field-0 c.is_whole.result false c.in-Head.is c.is_whole.ensures c.if-is_whole.false)
    (sym c.node-other.ensures.top ∙ c.in-Variable.is))

pub returns-then-is_same-clause-within : goal.returns-then-is_same-clause-within
returns-then-is_same-clause-within c =
    parts-stand (tree_of_ref c.args.header) (tree_at c.args.terms.now c.args.given) c.in-Head.field-0 c.in-Head-other.field-0
    (sym c.node-node.ensures ∙ c.in-Head.is) (sym c.node-other.ensures.top ∙ c.in-Head-other.is)
    (heads-same (tree_of_ref c.args.header) (tree_at c.args.terms.now c.args.given) c.node-node.result c.node-other.result c.is_same.result c.node-node.ensures c.node-other.ensures.top c.is_same.ensures c.if-is_same.true)
    (fits-at c.node-node.result c.in-Head.field-0 _ _ c.in-Head.is refl (node-fits (tree_of_ref c.args.header) c.node-node.result c.node-node.ensures (ref_fit c.args.header)))
    (fits-at c.node-other.result c.in-Head-other.field-0 _ _ c.in-Head-other.is refl c.node-other.ensures.fits)

pub returns-then-is_same-clause-says : goal.returns-then-is_same-clause-says
returns-then-is_same-clause-says c =
    λ S k ks. clash-alike (level S k) (below S k) (level-above S k) (IsKnown ks) (tree_of_ref c.args.header) (tree_at c.args.terms.now c.args.given)
    c.in-Head.field-0 c.in-Head-other.field-0 (sym c.node-node.ensures ∙ c.in-Head.is)
    (whole-head c.node-node.result c.in-Head.field-0 c.is_whole.result false c.in-Head.is c.is_whole.ensures c.if-is_whole.false)
    (sym c.node-other.ensures.top ∙ c.in-Head-other.is)
    (heads-same (tree_of_ref c.args.header) (tree_at c.args.terms.now c.args.given) c.node-node.result c.node-other.result c.is_same.result c.node-node.ensures c.node-other.ensures.top c.is_same.ensures c.if-is_same.true)

pub returns-else-is_same-clause-says : goal.returns-else-is_same-clause-says
returns-else-is_same-clause-says c =
    λ S k ks. (
      λ x. tt,
      λ x. clash-apart (level S k) (below S k) (level-above S k) (IsKnown ks) (tree_of_ref c.args.header) (tree_at c.args.terms.now c.args.given)
          c.in-Head.field-0 c.in-Head-other.field-0 (sym c.node-node.ensures ∙ c.in-Head.is)
          (whole-head c.node-node.result c.in-Head.field-0 c.is_whole.result false c.in-Head.is c.is_whole.ensures c.if-is_whole.false)
          (sym c.node-other.ensures.top ∙ c.in-Head-other.is)
          (heads-other (tree_of_ref c.args.header) (tree_at c.args.terms.now c.args.given) c.node-node.result c.node-other.result c.is_same.result c.node-node.ensures c.node-other.ensures.top c.is_same.ensures c.if-is_same.false),
    )
