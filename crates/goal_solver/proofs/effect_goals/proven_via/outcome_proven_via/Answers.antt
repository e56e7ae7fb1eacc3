use Rattle.std.proofs.Common.{◌≡◌, ◌∷◌, suc, ◌∙◌, sym, ap, subst}
use Rattle.std.specs.Prelude.{IfOk}
use Rattle.goal_lists.specs.Interned.{IsIn, AreIn, erased_all}
use Rattle.goal_eval.specs.ErasedArgs.{erased_args}
use Rattle.goal_eval.specs.Outcomes.{FoundIn, setting_in, level_in}
use Rattle.goal_eval.proofs.TraitOutcomeLemmas.{replaced-in}
use Rattle.goal_eval.proofs.CacheLemmas.{sound-grown}
use Rattle.goal_eval.proofs.ConstOutcomeLemmas.{const-no_self}
use Rattle.goal_eval.proofs.HostEffectLemmas.{SaysHost, through-unformed, through-formed}
use Rattle.goal_lists.specs.declared.outcomes.Outcome.TheVariants as outcome
use Rattle.goal_solver.proofs.effect_goals.proven_via.outcome_proven_via.Goals as goal

pub returns-in_err-ids-clause-effects : goal.returns-in_err-ids-clause-effects
returns-in_err-ids-clause-effects c = sound-grown c.args.setting.now c.args.terms.now c.intern_args.new.terms c.args.effects.now c.intern_args.ensures.kept c.requires.effects

pub returns-in_default-clause-effects : goal.returns-in_default-clause-effects
returns-in_default-clause-effects c = sound-grown c.args.setting.now c.args.terms.now c.intern_args.new.terms c.args.effects.now c.intern_args.ensures.kept c.requires.effects

pub returns-in_default-clause-says : goal.returns-in_default-clause-says
returns-in_default-clause-says c m s through =
    subst (λ xs. SaysHost (setting_in c.args.setting.now m) (suc c.args.depth) c.args.goal.now.constness c.args.goal.now.asked.def_id xs outcome.Undecided)
    (ap (erased_all c.intern_args.new.terms) c.deref.ensures.value ∙ c.in_ok-ids.ensures.trees)
    (const-no_self (setting_in c.args.setting.now m) (suc c.args.depth) c.args.goal.now.constness c.args.goal.now.asked.def_id c.intern_args.new.terms c.deref.result.now c.in_default.ensures)

pub head_form-requires-clause-effects : goal.head_form-requires-clause-effects
head_form-requires-clause-effects c = sound-grown c.args.setting.now c.args.terms.now c.intern_args.new.terms c.args.effects.now c.intern_args.ensures.kept c.requires.effects

pub returns-in_default-found-clause-says : goal.returns-in_default-found-clause-says
returns-in_default-found-clause-says c m s through =
    let trees : erased_all c.intern_args.new.terms c.deref.result.now ≡ erased_args c.args.goal.now.asked.args.now =
    ap (erased_all c.intern_args.new.terms) c.deref.ensures.value ∙ c.in_ok-ids.ensures.trees in
    subst (λ xs. SaysHost (setting_in c.args.setting.now m) (suc c.args.depth) c.args.goal.now.constness c.args.goal.now.asked.def_id xs outcome.Undecided) trees
    (through-unformed (setting_in c.args.setting.now m) c.args.depth c.args.goal.now.constness c.args.goal.now.asked.def_id c.args.goal.now.class c.intern_args.new.terms
    c.in-Some.first c.in-Some.rest.now c.deref.result.now (subst (AreIn c.intern_args.new.terms) (sym c.deref.ensures.value) c.in_ok-ids.ensures.within) c.in-Some.ensures
    (subst (λ xs. (level_in c.args.setting.now m c.args.depth).through c.args.goal.now.class c.args.goal.now.asked.def_id xs) (sym trees) through)
    c.head_form.new.terms c.in_ok-found.found c.in_default-found.not-Is (c.in_ok-found.ensures.says m s))

pub groups_outcome-requires-clause-asked : goal.groups_outcome-requires-clause-asked
groups_outcome-requires-clause-asked c =
    let form_in : IsIn c.head_form.new.terms c.in-Is.self_ty = subst (FoundIn c.head_form.new.terms) c.in-Is.is c.in_ok-found.ensures.within in
    let args_in : AreIn c.intern_args.new.terms (c.in-Some.first ∷ c.in-Some.rest.now) =
    subst (AreIn c.intern_args.new.terms) (sym c.deref.ensures.value ∙ c.in-Some.ensures) c.in_ok-ids.ensures.within in (
      form_in,
      replaced-in c.intern_args.new.terms c.head_form.new.terms c.in-Is.self_ty c.in-Some.first c.in-Some.rest.now c.as_slice.result.now c.in_ok-found.ensures.kept args_in form_in
          (c.as_slice.ensures.value ∙ c.in_ok-replaced.ensures),
    )

pub returns-clause-says : goal.returns-clause-says
returns-clause-says c m s through =
    let trees : erased_all c.intern_args.new.terms c.deref.result.now ≡ erased_args c.args.goal.now.asked.args.now =
    ap (erased_all c.intern_args.new.terms) c.deref.ensures.value ∙ c.in_ok-ids.ensures.trees in
    subst (λ xs. IfOk c.groups_outcome.result (SaysHost (setting_in c.args.setting.now m) (suc c.args.depth) c.args.goal.now.constness c.args.goal.now.asked.def_id xs)) trees
    (through-formed (setting_in c.args.setting.now m) c.args.depth c.args.goal.now.constness c.args.goal.now.asked.def_id c.args.goal.now.class c.intern_args.new.terms
    c.in-Some.first c.in-Some.rest.now c.deref.result.now (subst (AreIn c.intern_args.new.terms) (sym c.deref.ensures.value) c.in_ok-ids.ensures.within) c.in-Some.ensures
    (subst (λ xs. (level_in c.args.setting.now m c.args.depth).through c.args.goal.now.class c.args.goal.now.asked.def_id xs) (sym trees) through)
    c.head_form.new.terms c.in-Is.self_ty c.as_slice.result c.in_ok-found.found c.groups_outcome.result c.in_ok-found.ensures.kept c.in-Is.is
    (c.as_slice.ensures.value ∙ c.in_ok-replaced.ensures) (c.in_ok-found.ensures.says m s) (c.groups_outcome.ensures.says m s))
