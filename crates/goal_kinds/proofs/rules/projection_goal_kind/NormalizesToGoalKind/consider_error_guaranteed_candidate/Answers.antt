use Rattle.goal_lists.specs.Projections.{TermRefuted}
use Rattle.goal_kinds.specs.RuleWords.{projection_in}
use Rattle.goal_kinds.proofs.ProjectionKindLaws.{if_some-found}
use Rattle.goal_kinds.proofs.rules.projection_goal_kind.NormalizesToGoalKind.consider_error_guaranteed_candidate.Goals as goal

pub returns : goal.returns
unfolding TermRefuted
returns c = record { source = tt; list = tt; gives = tt; refuted = tt; fault = if_some-found (projection_in c.args._tables.now c.args._goal.now.predicate.alias) (λ p found. tt) }
