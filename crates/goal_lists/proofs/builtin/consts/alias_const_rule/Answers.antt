use Rattle.std.proofs.Common.{◌∙◌, ap, ap₂}
use Rattle.goal_lists.specs.Interned.{erased_all}
use Rattle.goal_lists.specs.Premises.{clauses_under, traits_under}
use Rattle.goal_lists.proofs.InternedLemmas.{all_same-grown, premises_in-grown, premises_same-grown}
use Rattle.goal_lists.proofs.builtin.consts.alias_const_rule.Goals as goal

pub returns-clause-within : goal.returns-clause-within
returns-clause-within c = (
  premises_in-grown c.clauses_under.new.terms c.traits_under.new.terms c.in_ok-conditions.ensures.kept c.in_ok-premises.premises.items c.in_ok-premises.ensures.within,
  c.in_ok-conditions.ensures.within,
)

pub returns-clause-rule : goal.returns-clause-rule
returns-clause-rule c =
    ap₂ (λ ps cs. record { premises = ps; conditions = cs })
    (premises_same-grown c.clauses_under.new.terms c.traits_under.new.terms c.in_ok-conditions.ensures.kept c.in_ok-premises.premises.items c.in_ok-premises.ensures.within
    ∙ c.in_ok-premises.ensures.premises
    ∙ ap (clauses_under (erased_all c.args.terms.now c.args.args.now)) c.as_slice.ensures.value)
    (c.in_ok-conditions.ensures.traits
    ∙ ap (traits_under (erased_all c.clauses_under.new.terms c.args.args.now)) c.as_slice-2.ensures.value
    ∙ ap (λ s. traits_under s c.args.row.now.const_conditions.items) (all_same-grown c.args.terms.now c.clauses_under.new.terms c.in_ok-premises.ensures.kept c.args.args.now c.requires))
