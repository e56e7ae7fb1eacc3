use Rattle.std.proofs.Common.{◌∙◌, sym, ap}
use Rattle.std.proofs.lemmas.Result.{IfOk-weaker}
use Rattle.goal_lists.specs.AliasLists.{entries_of_row, defined_list, hidden_list, opaque_list, opaque_alias_list}
use Rattle.goal_lists.specs.Interned.{erased_all}
use Rattle.goal_lists.specs.InternedEntries.{setting_at}
use Rattle.goal_lists.specs.ProjectionLists.{standing}
use Rattle.goal_lists.proofs.NamedRowLemmas.{found-again}
use Rattle.goal_lists.proofs.lists.aliases.opaque_alias_list.Goals as goal

pub returns-in_default-clause-entries : goal.returns-in_default-clause-entries
unfolding entries_of_row
returns-in_default-clause-entries c T env itself =
    IfOk-weaker c.undecided.result _ _
    (λ es made. made ∙ ap (λ o. entries_of_row o (opaque_alias_list (setting_at c.args.setting env) c.args.id (erased_all T c.args.args.now))) c.in_default.ensures)
    (c.undecided.ensures.entries T)

pub returns-clause-entries : goal.returns-clause-entries
unfolding entries_of_row
returns-clause-entries c T env itself =
    IfOk-weaker c.opaque_list.result _ _
    (λ es made. made
    ∙ ap (λ t. opaque_list c.args.setting.mode.now c.in-Some.row.now (defined_list c.args.id (erased_all T c.args.args.now) c.in-Some.row.now) (hidden_list (erased_all T c.args.args.now) c.in-Some.row.now) (standing t)) itself
    ∙ ap (λ o. entries_of_row o (opaque_alias_list (setting_at c.args.setting env) c.args.id (erased_all T c.args.args.now))) c.in-Some.ensures)
    (c.opaque_list.ensures.entries T)

pub returns-in_default-clause-named : goal.returns-in_default-clause-named
returns-in_default-clause-named c = c.undecided.ensures.named c.args.setting.rows.now

pub returns-clause-named : goal.returns-clause-named
returns-clause-named c =
    c.opaque_list.ensures.named c.args.setting.rows.now (sym c.in-Some.ensures)
    (found-again (λ r. r.id.0) c.args.setting.rows.now.opaque_types.items c.args.id.0 c.in-Some.row.now (sym c.in-Some.ensures))
