use Rattle.std.proofs.Common.{sym, ap, subst}
use Rattle.std.proofs.lemmas.List.Elements.{All-head, All-tail}
use Rattle.std.proofs.lemmas.Result.{IfOk-weaker}
use Rattle.goal_tables.specs.Rows.{inherent_of}
use Rattle.goal_lists.specs.Interned.{IsIn, AreIn, erased_at, erased_all}
use Rattle.goal_lists.specs.InternedEntries.{entries_at, setting_at}
use Rattle.goal_lists.proofs.InherentListLemmas.{no-self, no-row, no-impl, all-there}
use Rattle.goal_lists.proofs.NamedRowLemmas.{found-again}
use Rattle.goal_lists.proofs.lists.aliases.inherent_alias_list.Goals as goal

pub returns-in_default-clause-entries : goal.returns-in_default-clause-entries
returns-in_default-clause-entries c T env =
    IfOk-weaker c.undecided.result _ _
    (λ es made. no-self (setting_at c.args.setting env) (inherent_of c.args.setting.rows.now c.args.id) (erased_all T c.args.args.now) (entries_at T es.items)
    (ap (erased_all T) c.in_default.ensures) made)
    (c.undecided.ensures.entries T)

pub returns-in_default-inherent_row-clause-entries : goal.returns-in_default-inherent_row-clause-entries
returns-in_default-inherent_row-clause-entries c T env =
    IfOk-weaker c.undecided-in_default-inherent_row.result _ _
    (λ es made. no-row (setting_at c.args.setting env) (inherent_of c.args.setting.rows.now c.args.id) (erased_all T c.args.args.now) (erased_at T c.in-Some.self_ty)
    (erased_all T c.in-Some.own.now) (entries_at T es.items) (ap (erased_all T) c.in-Some.ensures) c.in_default-inherent_row.ensures made)
    (c.undecided-in_default-inherent_row.ensures.entries T)

pub returns-in_default-inherent_impl_row-clause-entries : goal.returns-in_default-inherent_impl_row-clause-entries
returns-in_default-inherent_impl_row-clause-entries c T env =
    IfOk-weaker c.undecided-in_default-inherent_impl_row.result _ _
    (λ es made. no-impl (setting_at c.args.setting env) (inherent_of c.args.setting.rows.now c.args.id) (erased_all T c.args.args.now) (erased_at T c.in-Some.self_ty)
    (erased_all T c.in-Some.own.now) c.in-Some-inherent_row.row.now (entries_at T es.items) (ap (erased_all T) c.in-Some.ensures) c.in-Some-inherent_row.ensures
    c.in_default-inherent_impl_row.ensures made)
    (c.undecided-in_default-inherent_impl_row.ensures.entries T)

pub returns-clause-within : goal.returns-clause-within
returns-clause-within c T here =
    c.inherent_list.ensures.within T (All-head (IsIn T) c.in-Some.self_ty c.in-Some.own.now (subst (AreIn T) c.in-Some.ensures here))
    (All-tail (IsIn T) c.in-Some.self_ty c.in-Some.own.now (subst (AreIn T) c.in-Some.ensures here))

pub returns-clause-entries : goal.returns-clause-entries
returns-clause-entries c T env =
    IfOk-weaker c.inherent_list.result _ _
    (λ es made. all-there (setting_at c.args.setting env) (inherent_of c.args.setting.rows.now c.args.id) (erased_all T c.args.args.now) (erased_at T c.in-Some.self_ty)
    (erased_all T c.in-Some.own.now) c.in-Some-inherent_row.row.now c.in-Some-inherent_impl_row.of.now (entries_at T es.items) (ap (erased_all T) c.in-Some.ensures)
    c.in-Some-inherent_row.ensures c.in-Some-inherent_impl_row.ensures made)
    (c.inherent_list.ensures.entries T)

pub returns-in_default-clause-named : goal.returns-in_default-clause-named
returns-in_default-clause-named c = c.undecided.ensures.named c.args.setting.rows.now

pub returns-in_default-inherent_row-clause-named : goal.returns-in_default-inherent_row-clause-named
returns-in_default-inherent_row-clause-named c = c.undecided-in_default-inherent_row.ensures.named c.args.setting.rows.now

pub returns-in_default-inherent_impl_row-clause-named : goal.returns-in_default-inherent_impl_row-clause-named
returns-in_default-inherent_impl_row-clause-named c = c.undecided-in_default-inherent_impl_row.ensures.named c.args.setting.rows.now

pub returns-clause-named : goal.returns-clause-named
returns-clause-named c =
    c.inherent_list.ensures.named c.args.setting.rows.now
    (found-again (λ r. r.id.0) c.args.setting.rows.now.inherent_items.items c.args.id.0 c.in-Some-inherent_row.row.now (sym c.in-Some-inherent_row.ensures))
    (found-again (λ r. r.id.0) c.args.setting.rows.now.inherent_impls.items c.in-Some-inherent_row.row.now.impl_id.0 c.in-Some-inherent_impl_row.of.now
    (sym c.in-Some-inherent_impl_row.ensures))
