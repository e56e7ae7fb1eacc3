use Rattle.std.proofs.Common.{◌∙◌, sym, ap}
use Rattle.std.proofs.lemmas.Result.{IfOk-weaker}
use Rattle.goal_terms.specs.Tree.{alias, forest}
use Rattle.goal_lists.specs.AliasLists.{alias_list}
use Rattle.goal_lists.specs.Interned.{erased_all}
use Rattle.goal_lists.specs.InternedEntries.{setting_at}
use Rattle.goal_lists.specs.OpaqueUses.{first_use_of}
use Rattle.goal_lists.proofs.lists.aliases.alias_list.Goals as goal

pub returns-in-InherentTy-clause-entries : goal.returns-in-InherentTy-clause-entries
unfolding alias_list
returns-in-InherentTy-clause-entries c T env itself =
    IfOk-weaker c.inherent_alias_list.result _ _ (λ es made. made ∙ ap (λ k. alias_list (setting_at c.args.setting env) k (erased_all T c.args.args.now)) (sym c.in-InherentTy.is))
    (c.inherent_alias_list.ensures.entries T env)

pub returns-in-InherentConst-clause-entries : goal.returns-in-InherentConst-clause-entries
unfolding alias_list
returns-in-InherentConst-clause-entries c T env itself =
    IfOk-weaker c.inherent_alias_list-in-InherentConst.result _ _ (λ es made. made ∙ ap (λ k. alias_list (setting_at c.args.setting env) k (erased_all T c.args.args.now)) (sym c.in-InherentConst.is))
    (c.inherent_alias_list-in-InherentConst.ensures.entries T env)

pub returns-in-OpaqueTy-clause-entries : goal.returns-in-OpaqueTy-clause-entries
unfolding alias_list
returns-in-OpaqueTy-clause-entries c T env itself =
    IfOk-weaker c.opaque_alias_list.result _ _ (λ es made. made ∙ ap (λ k. alias_list (setting_at c.args.setting env) k (erased_all T c.args.args.now)) (sym c.in-OpaqueTy.is))
    (c.opaque_alias_list.ensures.entries T env (itself ∙ ap (λ k. alias k (forest (erased_all T c.args.args.now))) c.in-OpaqueTy.is))

pub returns-in-FreeTy-clause-entries : goal.returns-in-FreeTy-clause-entries
unfolding alias_list
returns-in-FreeTy-clause-entries c T env itself =
    IfOk-weaker c.free_alias_list.result _ _ (λ es made. made ∙ ap (λ k. alias_list (setting_at c.args.setting env) k (erased_all T c.args.args.now)) (sym c.in-FreeTy.is))
    (c.free_alias_list.ensures.entries T)

pub returns-in-FreeConst-clause-entries : goal.returns-in-FreeConst-clause-entries
unfolding alias_list
returns-in-FreeConst-clause-entries c T env itself =
    IfOk-weaker c.free_alias_list-in-FreeConst.result _ _ (λ es made. made ∙ ap (λ k. alias_list (setting_at c.args.setting env) k (erased_all T c.args.args.now)) (sym c.in-FreeConst.is))
    (c.free_alias_list-in-FreeConst.ensures.entries T)

pub returns-in-UnevaluatedConst-clause-entries : goal.returns-in-UnevaluatedConst-clause-entries
unfolding alias_list
returns-in-UnevaluatedConst-clause-entries c T env itself =
    IfOk-weaker c.undecided.result _ _ (λ es made. made ∙ ap (λ k. alias_list (setting_at c.args.setting env) k (erased_all T c.args.args.now)) (sym c.in-UnevaluatedConst.is))
    (c.undecided.ensures.entries T)

pub returns-in-ProjectionTy-clause-entries : goal.returns-in-ProjectionTy-clause-entries
unfolding alias_list
returns-in-ProjectionTy-clause-entries c T env itself =
    IfOk-weaker c.undecided-in-ProjectionTy.result _ _ (λ es made. made ∙ ap (λ k. alias_list (setting_at c.args.setting env) k (erased_all T c.args.args.now)) (sym c.in-ProjectionTy.is))
    (c.undecided-in-ProjectionTy.ensures.entries T)

pub returns-in-ProjectionConst-clause-entries : goal.returns-in-ProjectionConst-clause-entries
unfolding alias_list
returns-in-ProjectionConst-clause-entries c T env itself =
    IfOk-weaker c.undecided-in-ProjectionConst.result _ _ (λ es made. made ∙ ap (λ k. alias_list (setting_at c.args.setting env) k (erased_all T c.args.args.now)) (sym c.in-ProjectionConst.is))
    (c.undecided-in-ProjectionConst.ensures.entries T)

pub returns-in-OpaqueTy-clause-defined : goal.returns-in-OpaqueTy-clause-defined
returns-in-OpaqueTy-clause-defined c f e =
    IfOk-weaker c.opaque_alias_list.result _ _ (λ es h. (c.in-OpaqueTy.id, c.in-OpaqueTy.is, h))
    (c.opaque_alias_list.ensures.defined f (ap (first_use_of c.args.setting.rows.now c.args.setting.mode.now) (sym c.in-OpaqueTy.is) ∙ e))

pub returns-in-UnevaluatedConst-clause-named : goal.returns-in-UnevaluatedConst-clause-named
returns-in-UnevaluatedConst-clause-named c = c.undecided.ensures.named c.args.setting.rows.now

pub returns-in-ProjectionTy-clause-named : goal.returns-in-ProjectionTy-clause-named
returns-in-ProjectionTy-clause-named c = c.undecided-in-ProjectionTy.ensures.named c.args.setting.rows.now

pub returns-in-ProjectionConst-clause-named : goal.returns-in-ProjectionConst-clause-named
returns-in-ProjectionConst-clause-named c = c.undecided-in-ProjectionConst.ensures.named c.args.setting.rows.now
