use Rattle.std.proofs.Common.{sym, ap, ◌∙◌}
use Rattle.std.proofs.lemmas.Result.{IfOk-weaker}
use Rattle.goal_lists.specs.Interned.{erased_at}
use Rattle.goal_lists.specs.InternedEntries.{setting_at, projection_at}
use Rattle.goal_lists.specs.ProjectionLists.{definition_entries}
use Rattle.goal_lists.proofs.NamedRowLemmas.{found-again}
use Rattle.goal_lists.proofs.lists.projections.definition_entries.Goals as goal

pub returns-in_default-clause-within : goal.returns-in_default-clause-within
returns-in_default-clause-within c = c.undecided.ensures.within c.args.terms.now

pub returns-in_default-clause-entries : goal.returns-in_default-clause-entries
returns-in_default-clause-entries c env =
    IfOk-weaker c.undecided.result _ _
    (λ es made. made
    ∙ ap (definition_entries (setting_at c.args.setting env) c.args.row.now (projection_at c.args.terms.now c.args.asked.now)
    (erased_at c.args.terms.now c.args.asked.now.rigid_alias)) c.in_default.ensures)
    (c.undecided.ensures.entries c.args.terms.now)

pub returns-clause-entries : goal.returns-clause-entries
returns-clause-entries c env =
    IfOk-weaker c.value_entries.result _ _
    (λ es made. made
    ∙ ap (definition_entries (setting_at c.args.setting env) c.args.row.now (projection_at c.args.terms.now c.args.asked.now)
    (erased_at c.args.terms.now c.args.asked.now.rigid_alias)) c.in-Some.ensures)
    (c.value_entries.ensures.entries env)

pub returns-in_default-clause-named : goal.returns-in_default-clause-named
returns-in_default-clause-named c row = c.undecided.ensures.named c.args.setting.rows.now

pub returns-clause-named : goal.returns-clause-named
returns-clause-named c row =
    c.value_entries.ensures.named row
    (found-again (λ d. d.id.0) c.args.setting.rows.now.definitions.items c.args.id.0 c.in-Some.definition.now (sym c.in-Some.ensures))
