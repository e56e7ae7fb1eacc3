use Rattle.std.proofs.Common.{◌∙◌, ap}
use Rattle.std.specs.Option.{option_and_then}
use Rattle.goal_terms.specs.Tree.{parts_of}
use Rattle.goal_lists.specs.ConstRules.{const_closure}
use Rattle.goal_lists.specs.Interned.{erased_at, erased_all}
use Rattle.goal_lists.proofs.ConstRuleLemmas.{rule-is}
use Rattle.goal_lists.proofs.builtin.const_calls.const_call_of_closure.Goals as goal

pub returns-clause-rule : goal.returns-clause-rule
returns-clause-rule c =
    rule-is _ c.const_closure.result _ _
    (ap (λ us. const_closure c.args.rows.now c.args.by us (erased_all c.args.terms.now c.args.args.now) c.in-Some.row.now)
    (ap (erased_all c.args.terms.now) c.as_slice.ensures.value ∙ c.in_ok-own.ensures.terms)
    ∙ ap (option_and_then (const_closure c.args.rows.now c.args.by (parts_of (erased_at c.args.terms.now c.args.self_ty)) (erased_all c.args.terms.now c.args.args.now))) c.in-Some.ensures)
    c.const_closure.ensures.rule
