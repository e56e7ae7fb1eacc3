use Rattle.std.proofs.Common.{refl}
use Rattle.goal_interner.specs.TableMeaning.{tree_at}
use Rattle.goal_lists.specs.ConstRules.{const_call_rule, const_call_of_head}
use Rattle.goal_lists.specs.Interned.{erased_all}
use Rattle.goal_lists.proofs.ConstRuleLemmas.{rule-is}
use Rattle.goal_lists.proofs.RowTermLemmas.{at-head, at-alias, at-variable}
use Rattle.goal_lists.proofs.builtin.const_calls.const_call_rule.Goals as goal

pub returns-in-Head-clause-rule : goal.returns-in-Head-clause-rule
returns-in-Head-clause-rule c =
    rule-is _ c.const_call_of_head.result _ _
    (at-head (λ u. const_call_rule c.args.rows.now c.args.by u (erased_all c.args.terms.now c.args.args.now))
    (λ h us. const_call_of_head c.args.rows.now c.args.by h us (erased_all c.args.terms.now c.args.args.now)) (λ h ts. refl)
    (tree_at c.args.terms.now c.args.self_ty) c.in-Head.head c.in-Head.ensures.top)
    c.const_call_of_head.ensures.rule

pub returns-in-Alias-clause-rule : goal.returns-in-Alias-clause-rule
returns-in-Alias-clause-rule c =
    at-alias (λ u. const_call_rule c.args.rows.now c.args.by u (erased_all c.args.terms.now c.args.args.now)) _ (λ k ts. refl)
    (tree_at c.args.terms.now c.args.self_ty) c.in-Alias.field-0 c.in-Alias.ensures.top

pub returns-in-Variable-clause-rule : goal.returns-in-Variable-clause-rule
returns-in-Variable-clause-rule c =
    at-variable (λ u. const_call_rule c.args.rows.now c.args.by u (erased_all c.args.terms.now c.args.args.now)) _ (λ v. refl)
    (tree_at c.args.terms.now c.args.self_ty) c.in-Variable.field-0 c.in-Variable.ensures.top
