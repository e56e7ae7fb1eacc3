use Rattle.std.proofs.Common.{true}
use Rattle.goal_kinds.specs.ProjectionKind.{is_for_alias}
use Rattle.goal_kinds.proofs.RuleListLemmas.{other-named}
use Rattle.goal_kinds.proofs.rules.projection_goal_kind.NormalizesToGoalKind.consider_builtin_destruct_candidate.Goals as goal

pub returns-clause-answer : goal.returns-clause-answer
unfolding is_for_alias
returns-clause-answer c = other-named true _ _ _
