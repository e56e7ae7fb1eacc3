use Rattle.std.proofs.Common.{◌∙◌, ap₂, map, Some}
use Rattle.goal_lists.specs.Interned.{erased_at, erased_all, trait_at}
use Rattle.goal_lists.proofs.InternedLemmas.{traits_same-grown}
use Rattle.goal_lists.proofs.ConstRuleLemmas.{const-call-some}
use Rattle.goal_lists.proofs.builtin.const_calls.const_call.Goals as goal

pub returns-clause-rule : goal.returns-clause-rule
returns-clause-rule c =
    ap₂ (λ ps cs. Some (record { premises = ps; conditions = cs })) c.in_ok-premises.ensures.premises
    (traits_same-grown c.args.terms.now c.call_premises.new.terms c.in_ok-premises.ensures.kept c.args.conditions.items c.requires.conditions)
    ∙ const-call-some c.args.rows.now (erased_all c.args.terms.now c.args.args.now) (map (trait_at c.args.terms.now) c.args.conditions.items) (erased_at c.args.terms.now c.args.sig)
    (erased_at c.args.terms.now c.in-Some.output) c.in-Some-lang_trait.sized c.in-Some.ensures.output c.in-Some-lang_trait.ensures
