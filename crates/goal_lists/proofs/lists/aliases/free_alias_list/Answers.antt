use Rattle.std.proofs.Common.{◌∙◌, sym, ap}
use Rattle.std.proofs.lemmas.Result.{IfOk-weaker}
use Rattle.goal_lists.specs.AliasLists.{entries_of_row, free_list}
use Rattle.goal_lists.specs.Interned.{erased_all}
use Rattle.goal_lists.proofs.NamedRowLemmas.{found-again}
use Rattle.goal_lists.proofs.lists.aliases.free_alias_list.Goals as goal

pub returns-in_default-clause-entries : goal.returns-in_default-clause-entries
unfolding entries_of_row
returns-in_default-clause-entries c T =
    IfOk-weaker c.undecided.result _ _ (λ es made. made ∙ ap (λ o. entries_of_row o (free_list (erased_all T c.args.args.now))) c.in_default.ensures)
    (c.undecided.ensures.entries T)

pub returns-clause-entries : goal.returns-clause-entries
unfolding entries_of_row
returns-clause-entries c T =
    IfOk-weaker c.free_list.result _ _ (λ es made. made ∙ ap (λ o. entries_of_row o (free_list (erased_all T c.args.args.now))) c.in-Some.ensures)
    (c.free_list.ensures.entries T)

pub returns-in_default-clause-named : goal.returns-in_default-clause-named
returns-in_default-clause-named c = c.undecided.ensures.named c.args.setting.rows.now

pub returns-clause-named : goal.returns-clause-named
returns-clause-named c =
    c.free_list.ensures.named c.args.setting.rows.now
    (found-again (λ r. r.id.0) c.args.setting.rows.now.free_aliases.items c.args.id.0 c.in-Some.row.now (sym c.in-Some.ensures))
