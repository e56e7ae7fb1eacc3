use Rattle.std.proofs.Common.{refl, sym, ap, ◌∙◌, arith}
use Rattle.std.proofs.lemmas.Result.{IfOk-weaker}
use Rattle.goal_tables.specs.Rows.{definition_of}
use Rattle.goal_lists.specs.Interned.{erased_at}
use Rattle.goal_lists.specs.InternedEntries.{setting_at, projection_at}
use Rattle.goal_lists.specs.ProjectionLists.{definition_entries, default_entries}
use Rattle.goal_lists.proofs.ProjectionListLemmas.{hidden-default}
use Rattle.goal_lists.proofs.lists.projections.default_entries.Goals as goal

pub returns-in-PostAnalysis-clause-entries : goal.returns-in-PostAnalysis-clause-entries
returns-in-PostAnalysis-clause-entries c env =
    IfOk-weaker c.definition_entries.result _ _
    (λ es made. made
    ∙ ap (λ m. default_entries m (definition_entries (setting_at c.args.setting env) c.args.row.now (projection_at c.args.terms.now c.args.asked.now)
    (erased_at c.args.terms.now c.args.asked.now.rigid_alias) (definition_of c.args.setting.rows.now c.args.id))
    (erased_at c.args.terms.now c.args.asked.now.rigid_alias)) (sym c.in-PostAnalysis.is))
    (c.definition_entries.ensures.entries env)

pub returns-in_default : goal.returns-in_default
returns-in_default c = record {
  kept = record { longer = omega arith; same = λ id l. refl };
  within = c.rigid_entries.ensures.within c.args.terms.now c.requires.1;
  entries = λ env.
      IfOk-weaker c.rigid_entries.result _ _
      (λ es made. made
      ∙ hidden-default c.args.setting.mode.now (definition_entries (setting_at c.args.setting env) c.args.row.now (projection_at c.args.terms.now c.args.asked.now)
      (erased_at c.args.terms.now c.args.asked.now.rigid_alias) (definition_of c.args.setting.rows.now c.args.id))
      (erased_at c.args.terms.now c.args.asked.now.rigid_alias) c.in_default.not-PostAnalysis c.in_default.not-ErasedNotCoherence)
      (c.rigid_entries.ensures.entries c.args.terms.now);
  named = λ row. c.rigid_entries.ensures.named c.args.setting.rows.now;
}
