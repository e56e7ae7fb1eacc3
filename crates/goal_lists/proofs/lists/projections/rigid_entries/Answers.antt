use Rattle.std.proofs.Common.{◌∙◌}
use Rattle.std.proofs.lemmas.Result.{IfOk-weaker}
use Rattle.goal_lists.specs.Interned.{erased_at}
use Rattle.goal_lists.proofs.ProjectionListLemmas.{rigid-stands}
use Rattle.goal_lists.proofs.lists.projections.rigid_entries.Goals as goal

pub returns-in_default : goal.returns-in_default
returns-in_default c = record {
  within = c.standing.ensures.within;
  entries = λ T.
      IfOk-weaker c.standing.result _ _ (λ es made. made ∙ rigid-stands c.args.mode.now (erased_at T c.args.rigid_alias) c.in_default.not-Coherence)
      (c.standing.ensures.entries T);
  named = c.standing.ensures.named;
}
