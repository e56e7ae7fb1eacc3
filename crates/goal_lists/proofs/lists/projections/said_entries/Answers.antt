use Rattle.std.proofs.Common.{ap, ◌∙◌}
use Rattle.std.proofs.lemmas.Result.{IfOk-weaker}
use Rattle.goal_lists.specs.Interned.{erased_at}
use Rattle.goal_lists.specs.InternedEntries.{setting_at, projection_at}
use Rattle.goal_lists.specs.ProjectionLists.{said_by_row_entries, said_entries}
use Rattle.goal_lists.proofs.lists.projections.said_entries.Goals as goal

pub returns-in_default-clause-within : goal.returns-in_default-clause-within
returns-in_default-clause-within c = c.undecided.ensures.within c.args.terms.now

pub returns-in_default-clause-entries : goal.returns-in_default-clause-entries
unfolding said_entries
returns-in_default-clause-entries c env =
    IfOk-weaker c.undecided.result _ _
    (λ es made. made
    ∙ ap (said_by_row_entries (setting_at c.args.setting env) c.args.row.now (projection_at c.args.terms.now c.args.asked.now)
    (erased_at c.args.terms.now c.args.asked.now.rigid_alias)) c.in_default.ensures)
    (c.undecided.ensures.entries c.args.terms.now)

pub returns-clause-entries : goal.returns-clause-entries
unfolding said_entries
returns-clause-entries c env =
    IfOk-weaker c.source_entries.result _ _
    (λ es made. made
    ∙ ap (said_by_row_entries (setting_at c.args.setting env) c.args.row.now (projection_at c.args.terms.now c.args.asked.now)
    (erased_at c.args.terms.now c.args.asked.now.rigid_alias)) c.in-Some.ensures)
    (c.source_entries.ensures.entries env)

pub returns-in_default-clause-named : goal.returns-in_default-clause-named
returns-in_default-clause-named c row = c.undecided.ensures.named c.args.setting.rows.now
