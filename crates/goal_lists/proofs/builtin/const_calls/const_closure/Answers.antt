use Rattle.std.proofs.Common.{◌∙◌, ap, sym}
use Rattle.std.specs.Option.{option_map}
use Rattle.goal_interner.proofs.InternLemmas.{keeps-chain}
use Rattle.goal_lists.specs.Interned.{erased_at, erased_all}
use Rattle.goal_lists.specs.Premises.{traits_under}
use Rattle.goal_lists.proofs.InternedLemmas.{all_same-grown, same-grown}
use Rattle.goal_lists.proofs.ConstRuleLemmas.{rule-is, const-call-same, const-closure-some}
use Rattle.goal_lists.proofs.builtin.const_calls.const_closure.Goals as goal

pub returns-clause-rule : goal.returns-clause-rule
returns-clause-rule c =
    rule-is _ c.const_call.result _ _
    (const-call-same c.args.rows.now _ _ _ _ _ _
    (all_same-grown c.args.terms.now c.traits_under.new.terms
    (keeps-chain _ _ _ c.in_ok-sig.ensures.kept c.in_ok-conditions.ensures.kept) c.args.args.now c.requires.args)
    (c.in_ok-conditions.ensures.traits
    ∙ ap (traits_under (erased_all c.closure_sig.new.terms c.args.own.now)) c.as_slice.ensures.value
    ∙ ap (λ s. traits_under s c.args.row.now.const_conditions.items) (all_same-grown c.args.terms.now c.closure_sig.new.terms c.in_ok-sig.ensures.kept c.args.own.now c.requires.own))
    (same-grown c.closure_sig.new.terms c.traits_under.new.terms c.in_ok-conditions.ensures.kept c.in-Some.sig (rw c.in-Some.is at c.in_ok-sig.ensures.within))
    ∙ const-closure-some c.args.rows.now c.args.by (erased_all c.args.terms.now c.args.own.now) (erased_all c.args.terms.now c.args.args.now) c.args.row.now
    (erased_at c.closure_sig.new.terms c.in-Some.sig) c.if-not-row.false (ap (option_map (erased_at c.closure_sig.new.terms)) (sym c.in-Some.is) ∙ c.in_ok-sig.ensures.signature))
    c.const_call.ensures.rule
