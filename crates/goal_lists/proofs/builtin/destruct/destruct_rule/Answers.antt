use Rattle.std.proofs.Common.{refl}
use Rattle.goal_interner.specs.TableMeaning.{tree_at}
use Rattle.goal_lists.specs.ConstRules.{destruct_rule, destruct_of_head}
use Rattle.goal_lists.proofs.ConstRuleLemmas.{rule-is}
use Rattle.goal_lists.proofs.RowTermLemmas.{at-head, at-alias, at-variable}
use Rattle.goal_lists.proofs.builtin.destruct.destruct_rule.Goals as goal

pub returns-in-Head-clause-rule : goal.returns-in-Head-clause-rule
returns-in-Head-clause-rule c =
    rule-is _ c.destruct_of_head.result _ _
    (at-head (destruct_rule c.args.rows.now c.args.trait_id) (destruct_of_head c.args.rows.now c.args.trait_id) (λ h ts. refl)
    (tree_at c.args.terms.now c.args.self_ty) c.in-Head.head c.in-Head.ensures.top)
    c.destruct_of_head.ensures.rule

pub returns-in-Alias-clause-rule : goal.returns-in-Alias-clause-rule
returns-in-Alias-clause-rule c =
    at-alias (destruct_rule c.args.rows.now c.args.trait_id) _ (λ k ts. refl) (tree_at c.args.terms.now c.args.self_ty) c.in-Alias.field-0 c.in-Alias.ensures.top

pub returns-in-Variable-clause-rule : goal.returns-in-Variable-clause-rule
returns-in-Variable-clause-rule c =
    rule-is _ c.destruct_nothing.result _ _
    (at-variable (destruct_rule c.args.rows.now c.args.trait_id) _ (λ v. refl) (tree_at c.args.terms.now c.args.self_ty) c.in-Variable.field-0 c.in-Variable.ensures.top)
    (c.destruct_nothing.ensures.rule _)
