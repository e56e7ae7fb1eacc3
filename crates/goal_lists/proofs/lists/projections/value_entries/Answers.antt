use Rattle.std.proofs.Common.{◌∙◌}
use Rattle.std.proofs.lemmas.Result.{IfOk-weaker}
use Rattle.goal_lists.specs.Interned.{erased_at}
use Rattle.goal_lists.specs.InternedEntries.{setting_at, projection_at}
use Rattle.goal_lists.proofs.ProjectionListLemmas.{term-taken, evaluated-taken}
use Rattle.goal_lists.proofs.lists.projections.value_entries.Goals as goal

pub returns-in-Term-clause-entries : goal.returns-in-Term-clause-entries
returns-in-Term-clause-entries c env =
    IfOk-weaker c.taken_entries.result _ _
    (λ es made. made
    ∙ term-taken (setting_at c.args.setting env) c.args.row.now (projection_at c.args.terms.now c.args.asked.now)
    (erased_at c.args.terms.now c.args.asked.now.rigid_alias) c.args.definition.now c.args.definition.now.value c.in-Term.field-0 c.in-Term.is)
    (c.taken_entries.ensures.entries c.args.terms.now env)

pub returns-in-Evaluated-clause-entries : goal.returns-in-Evaluated-clause-entries
returns-in-Evaluated-clause-entries c env =
    IfOk-weaker c.taken_entries-in-Evaluated.result _ _
    (λ es made. made
    ∙ evaluated-taken (setting_at c.args.setting env) c.args.row.now (projection_at c.args.terms.now c.args.asked.now)
    (erased_at c.args.terms.now c.args.asked.now.rigid_alias) c.args.definition.now c.args.definition.now.value c.in-Evaluated.is)
    (c.taken_entries-in-Evaluated.ensures.entries c.args.terms.now env)

pub returns-in-Missing-clause-named : goal.returns-in-Missing-clause-named
returns-in-Missing-clause-named c row definition = c.missing_entries.ensures.named c.args.setting.rows.now
