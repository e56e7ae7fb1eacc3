use Rattle.std.proofs.Common.{◌∙◌, ap, sym, subst}
use Rattle.goal_terms.specs.Folding.{shifted}
use Rattle.goal_interner.specs.TableMeaning.{tree_at, IsOnly}
use Rattle.goal_interner.proofs.term_table.TermTable.shift_whole.Goals as goal

pub returns-then-by-eq0-clause-tree : goal.returns-then-by-eq0-clause-tree
returns-then-by-eq0-clause-tree c =
    sym (ap (λ n. shifted n 0 (tree_at c.args.self.now c.args.id)) c.if-by-eq0.true ∙ c.below_no_binder.ensures.itself)

pub returns-then-by-eq0-clause-only : goal.returns-then-by-eq0-clause-only
returns-then-by-eq0-clause-only c =
    subst (λ t. IsOnly c.args.self.now c.args.id t)
    (sym (ap (λ n. shifted n 0 (tree_at c.args.self.now c.args.id)) c.if-by-eq0.true ∙ c.below_no_binder.ensures.itself))
    c.below_no_binder.ensures.only
