use Rattle.std.proofs.Common.{◌∙◌, ap, sym, Some}
use Rattle.std.specs.Option.{option_map}
use Rattle.goal_lists.specs.Builtins.{call_premises}
use Rattle.goal_lists.specs.Interned.{erased_at, erased_all}
use Rattle.goal_lists.proofs.InternedLemmas.{all_same-grown}
use Rattle.goal_lists.proofs.CallPremiseLemmas.{call-none, call-no_output, call-no_sized, call-some}
use Rattle.goal_lists.proofs.builtin.call_premises.call_rule.Goals as goal

pub returns-in_default-clause-premises : goal.returns-in_default-clause-premises
returns-in_default-clause-premises c =
    call-none c.args.rows.now c.args.by (erased_at c.args.terms.now c.args.self_ty) (erased_all c.args.terms.now c.args.args.now)
    (ap (option_map (erased_at c.signature_of.new.terms)) (sym c.in_default.is) ∙ c.in_ok-sig.ensures.signature)

pub returns-in_default-output_of-clause-premises : goal.returns-in_default-output_of-clause-premises
returns-in_default-output_of-clause-premises c =
    call-no_output c.args.rows.now c.args.by (erased_at c.args.terms.now c.args.self_ty) (erased_all c.args.terms.now c.args.args.now) (erased_at c.signature_of.new.terms c.in-Some.sig)
    (ap (option_map (erased_at c.signature_of.new.terms)) (sym c.in-Some.is) ∙ c.in_ok-sig.ensures.signature)
    c.in_default-output_of.ensures.output

pub returns-in_default-lang_trait-clause-premises : goal.returns-in_default-lang_trait-clause-premises
returns-in_default-lang_trait-clause-premises c =
    call-no_sized c.args.rows.now c.args.by (erased_at c.args.terms.now c.args.self_ty) (erased_all c.args.terms.now c.args.args.now) (erased_at c.signature_of.new.terms c.in-Some.sig)
    (erased_at c.signature_of.new.terms c.in-Some-output_of.output)
    (ap (option_map (erased_at c.signature_of.new.terms)) (sym c.in-Some.is) ∙ c.in_ok-sig.ensures.signature)
    c.in-Some-output_of.ensures.output c.in_default-lang_trait.ensures

pub returns-clause-premises : goal.returns-clause-premises
returns-clause-premises c =
    ap Some (c.in_ok-premises.ensures.premises
    ∙ ap (λ us. call_premises c.in-Some-lang_trait.sized (erased_at c.signature_of.new.terms c.in-Some.sig) us (erased_at c.signature_of.new.terms c.in-Some-output_of.output))
    (all_same-grown c.args.terms.now c.signature_of.new.terms c.in_ok-sig.ensures.kept c.args.args.now c.requires.args))
    ∙ call-some c.args.rows.now c.args.by (erased_at c.args.terms.now c.args.self_ty) (erased_all c.args.terms.now c.args.args.now) (erased_at c.signature_of.new.terms c.in-Some.sig)
    (erased_at c.signature_of.new.terms c.in-Some-output_of.output) c.in-Some-lang_trait.sized
    (ap (option_map (erased_at c.signature_of.new.terms)) (sym c.in-Some.is) ∙ c.in_ok-sig.ensures.signature)
    c.in-Some-output_of.ensures.output c.in-Some-lang_trait.ensures
