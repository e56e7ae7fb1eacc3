use Rattle.goal_kinds.proofs.PlacedLevels.{placed-given}
use Rattle.goal_kinds.proofs.laws.aliases_keep_kinds.Goals as goal

pub returns : goal.returns
returns c = record { kinds = placed-given }
