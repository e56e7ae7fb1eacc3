use Rattle.std.proofs.Common.{◌∙◌, ap, take}
use Rattle.goal_kinds.proofs.ProjectionKindLaws.{seen-projected}
use Rattle.goal_kinds.specs.RuleWords.{projection_in}
use Rattle.goal_kinds.proofs.rules.projection_goal_kind.NormalizesToGoalKind.trait_ref.Goals as goal
use Rattle.std.proofs.Common.{sym}

pub returns : goal.returns
returns c =
    seen-projected c.args.tables.now c.args.self.now.alias c.in_ok-item.item c.first_of.result.now
    (ap (λ t. projection_in t c.args.self.now.alias) (sym c.rows.ensures.rows) ∙ c.in_ok-item.ensures.asked)
    (c.first_of.ensures ∙ ap (take c.in_ok-item.item.trait_params) c.as_slice.ensures.value)
