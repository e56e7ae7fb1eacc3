use Rattle.std.proofs.Common.{sym, ap, ◌∙◌}
use Rattle.std.proofs.lemmas.Result.{IfOk-weaker}
use Rattle.goal_lists.specs.Entries.{arguments, followed_by}
use Rattle.goal_lists.specs.InternedEntries.{setting_at, projection_at}
use Rattle.goal_lists.specs.ProjectionLists.{definition_value, taken_entries}
use Rattle.goal_lists.proofs.ListPartLemmas.{one-in, two-at, two-in}
use Rattle.goal_lists.proofs.ProjectionListLemmas.{behind-erased, behind_in, from-own, from-another}
use Rattle.goal_lists.proofs.NamedRowLemmas.{found-again, two-named}
use Rattle.goal_lists.proofs.lists.projections.taken_entries.Goals as goal

pub returns-then-other-row-clause-within : goal.returns-then-other-row-clause-within
returns-then-other-row-clause-within c T here =
    two-in T _ _ _ c.in_ok-vec-in-Impl.ensures.items
    (c.in_ok-followed-in-Impl.ensures.within T
    (behind_in T c.args.asked.now.trait_params c.args.asked.now.args.now c.behind-own.result.now c.behind-own.ensures here.0))
    (c.definition_value-then-other-row.ensures.within T)

pub returns-then-other-row-clause-entries : goal.returns-then-other-row-clause-entries
unfolding taken_entries
returns-then-other-row-clause-entries c T env =
    two-at T _ _ _ _ (definition_value c.args.definition.now.value 2) c.in_ok-vec-in-Impl.ensures.items
    (c.in_ok-followed-in-Impl.ensures.entry T
    ∙ ap (λ ts. arguments (followed_by 0 ts)) (behind-erased T c.args.asked.now.trait_params c.args.asked.now.args.now c.behind-own.result.now c.behind-own.ensures))
    (c.definition_value-then-other-row.ensures.entry T)
    ∙ ap (taken_entries c.args.row.now (projection_at T c.args.asked.now) c.args.definition.now.value)
    (from-own (setting_at c.args.setting env) c.args.row.now c.args.definition.now.container c.in-Impl.other c.in-Impl.is c.if-other-row.true)

pub returns-in_default-clause-entries : goal.returns-in_default-clause-entries
unfolding taken_entries
returns-in_default-clause-entries c T env =
    IfOk-weaker c.undecided.result _ _
    (λ es made. made
    ∙ ap (taken_entries c.args.row.now (projection_at T c.args.asked.now) c.args.definition.now.value)
    (from-another (setting_at c.args.setting env) c.args.row.now c.args.definition.now.container c.in-Impl.other _ c.in-Impl.is c.if-other-row.false
    c.in_default.ensures))
    (c.undecided.ensures.entries T)

pub returns-in_ok-vec-in-Trait-clause-within : goal.returns-in_ok-vec-in-Trait-clause-within
returns-in_ok-vec-in-Trait-clause-within c T here = one-in T _ _ c.in_ok-vec-in-Trait.ensures.items (c.definition_value.ensures.within T)

pub returns-in-Some-clause-entries : goal.returns-in-Some-clause-entries
unfolding taken_entries
returns-in-Some-clause-entries c T env =
    IfOk-weaker c.other_impl_entries.result _ _
    (λ es made. made
    ∙ ap (taken_entries c.args.row.now (projection_at T c.args.asked.now) c.args.definition.now.value)
    (from-another (setting_at c.args.setting env) c.args.row.now c.args.definition.now.container c.in-Impl.other _ c.in-Impl.is c.if-other-row.false
    c.in-Some.ensures))
    (c.other_impl_entries.ensures.entries T)

pub returns-then-other-row-clause-named : goal.returns-then-other-row-clause-named
returns-then-other-row-clause-named c row definition =
    two-named c.args.setting.rows.now _ _ _ c.in_ok-vec-in-Impl.ensures.items (c.in_ok-followed-in-Impl.ensures.named c.args.setting.rows.now)
    (c.definition_value-then-other-row.ensures.named c.args.setting.rows.now definition)

pub returns-in_default-clause-named : goal.returns-in_default-clause-named
returns-in_default-clause-named c row definition = c.undecided.ensures.named c.args.setting.rows.now

pub returns-in-Some-clause-named : goal.returns-in-Some-clause-named
returns-in-Some-clause-named c row definition =
    c.other_impl_entries.ensures.named c.args.setting.rows.now row
    (found-again (λ r. r.id.0) c.args.setting.rows.now.impls.items c.in-Impl.other.0 c.in-Some.found.now (sym c.in-Some.ensures)) definition
