use Rattle.std.proofs.Common.{◌∙◌, ap}
use Rattle.goal_lists.specs.Interned.{erased_all}
use Rattle.goal_eval.specs.ErasedArgs.{erased_args}
use Rattle.goal_eval.specs.Outcomes.{setting_in, level_in}
use Rattle.goal_solver.proofs.AssembledLemmas.{item-missing, item-rowless, item-traitless, nothing-said, class-says}
use Rattle.goal_eval.proofs.CacheLemmas.{sound-grown}
use Rattle.goal_solver.proofs.normalizes_to.proven_via.alias_proven_via.Goals as goal

pub returns-in_default-clause-says : goal.returns-in_default-clause-says
returns-in_default-clause-says c = λ m s.
    nothing-said (setting_in c.args.setting.now m) (level_in c.args.setting.now m c.args.depth) c.args.class c.args.alias.now.kind (erased_args c.args.alias.now.args.items)
    (λ P h. item-missing (setting_in c.args.setting.now m) c.args.alias.now.kind P c.in_default.ensures h)

pub returns-in_default-item_row-clause-says : goal.returns-in_default-item_row-clause-says
returns-in_default-item_row-clause-says c = λ m s.
    nothing-said (setting_in c.args.setting.now m) (level_in c.args.setting.now m c.args.depth) c.args.class c.args.alias.now.kind (erased_args c.args.alias.now.args.items)
    (λ P h. item-rowless (setting_in c.args.setting.now m) c.args.alias.now.kind P c.in-Some.id c.in-Some.ensures c.in_default-item_row.ensures h)

pub returns-in_default-trait_row-clause-says : goal.returns-in_default-trait_row-clause-says
returns-in_default-trait_row-clause-says c = λ m s.
    nothing-said (setting_in c.args.setting.now m) (level_in c.args.setting.now m c.args.depth) c.args.class c.args.alias.now.kind (erased_args c.args.alias.now.args.items)
    (λ P h. item-traitless (setting_in c.args.setting.now m) c.args.alias.now.kind P c.in-Some.id c.in-Some-item_row.item.now c.in-Some.ensures c.in-Some-item_row.ensures c.in_default-trait_row.ensures h)

pub returns-clause-says : goal.returns-clause-says
returns-clause-says c = λ m s.
    class-says (setting_in c.args.setting.now m) (level_in c.args.setting.now m c.args.depth) c.args.class c.args.alias.now.kind c.in-Some.id c.in-Some-item_row.item.now c.in-Some-trait_row.trait_row.now
    c.in-Some.ensures c.in-Some-item_row.ensures c.in-Some-trait_row.ensures
    c.len.result (c.len.ensures ∙ c.in-Some-trait_row.trait_row.now.params.ok.0)
    (erased_all c.intern_args.new.terms c.as_slice.result.now) (erased_args c.args.alias.now.args.items) c.term_proven_via.new.terms
    (ap (erased_all c.intern_args.new.terms) c.as_slice.ensures.value ∙ c.in_ok-args.ensures.trees ∙ ap erased_args c.deref.ensures.value)
    c.term_proven_via.result (c.term_proven_via.ensures.says m s)

pub term_proven_via-requires-clause-effects : goal.term_proven_via-requires-clause-effects
term_proven_via-requires-clause-effects c =
    sound-grown c.args.setting.now c.args.terms.now c.intern_args.new.terms c.args.effects.now c.intern_args.ensures.kept c.requires.effects

pub returns-in_err-args-clause-effects : goal.returns-in_err-args-clause-effects
returns-in_err-args-clause-effects c =
    sound-grown c.args.setting.now c.args.terms.now c.intern_args.new.terms c.args.effects.now c.intern_args.ensures.kept c.requires.effects
