use Rattle.std.proofs.Common.{sym, ap, ◌∙◌, if◌then◌else◌, ◌∷◌}
use Rattle.std.proofs.lemmas.Result.{IfOk-weaker}
use Rattle.goal_terms.specs.declared.answers.DelayedFault.TheVariants.{MissingItem}
use Rattle.goal_lists.specs.Entries.{delayed_fault}
use Rattle.goal_lists.specs.ImplTerms.{error_term}
use Rattle.goal_lists.specs.Interned.{erased_at}
use Rattle.goal_lists.specs.ProjectionLists.{rigid_entries, standing}
use Rattle.goal_lists.proofs.lists.projections.missing_entries.Goals as goal

pub returns-then-row-clause-entries : goal.returns-then-row-clause-entries
returns-then-row-clause-entries c =
    IfOk-weaker c.rigid_entries.result _ _
    (λ es made. made
    ∙ ap (λ b. if b then rigid_entries c.args.mode.now (erased_at c.args.terms.now c.args.asked.now.rigid_alias)
    else delayed_fault (MissingItem c.args.definition.now.id) ∷ standing (error_term c.args.asked.now.item.now.is_const c.args.definition.now.id.0)) (sym c.if-row.true))
    (c.rigid_entries.ensures.entries c.args.terms.now)
