use Rattle.std.proofs.Common.{sym, ap, ◌∙◌, if◌then◌else◌}
use Rattle.std.proofs.lemmas.Result.{IfOk-weaker}
use Rattle.goal_tables.specs.Rows.{definition_of}
use Rattle.goal_lists.specs.Interned.{erased_at}
use Rattle.goal_lists.specs.InternedEntries.{setting_at, projection_at}
use Rattle.goal_lists.specs.ProjectionLists.{standing, definition_entries, default_entries, source_entries}
use Rattle.goal_lists.proofs.lists.projections.source_entries.Goals as goal

pub returns-in_ok-error-in-Broken-clause-entries : goal.returns-in_ok-error-in-Broken-clause-entries
returns-in_ok-error-in-Broken-clause-entries c env =
    IfOk-weaker c.standing.result _ _
    (λ es made. made ∙ ap standing c.in_ok-error-in-Broken.ensures.tree
    ∙ ap (source_entries (setting_at c.args.setting env) c.args.row.now (projection_at c.args.terms.now c.args.asked.now)
    (erased_at c.args.terms.now c.args.asked.now.rigid_alias)) (sym c.in-Broken.is))
    (c.standing.ensures.entries c.error_of.new.terms)

pub returns-then-is_default-clause-entries : goal.returns-then-is_default-clause-entries
returns-then-is_default-clause-entries c env =
    let S = setting_at c.args.setting env in
    let p = projection_at c.args.terms.now c.args.asked.now in
    let itself = erased_at c.args.terms.now c.args.asked.now.rigid_alias in
    let found = definition_entries S c.args.row.now p itself (definition_of c.args.setting.rows.now c.in-Def.def_id) in
    IfOk-weaker c.default_entries.result _ _
    (λ es made. made ∙ ap (λ b. if b then default_entries c.args.setting.mode.now found itself else found) (sym c.if-is_default.true)
    ∙ ap (source_entries S c.args.row.now p itself) (sym c.in-Def.is))
    (c.default_entries.ensures.entries env)

pub returns-else-is_default-clause-entries : goal.returns-else-is_default-clause-entries
returns-else-is_default-clause-entries c env =
    let S = setting_at c.args.setting env in
    let p = projection_at c.args.terms.now c.args.asked.now in
    let itself = erased_at c.args.terms.now c.args.asked.now.rigid_alias in
    let found = definition_entries S c.args.row.now p itself (definition_of c.args.setting.rows.now c.in-Def.def_id) in
    IfOk-weaker c.definition_entries.result _ _
    (λ es made. made ∙ ap (λ b. if b then default_entries c.args.setting.mode.now found itself else found) (sym c.if-is_default.false)
    ∙ ap (source_entries S c.args.row.now p itself) (sym c.in-Def.is))
    (c.definition_entries.ensures.entries env)

pub returns-in_ok-error-in-Broken-clause-named : goal.returns-in_ok-error-in-Broken-clause-named
returns-in_ok-error-in-Broken-clause-named c row = c.standing.ensures.named c.args.setting.rows.now
