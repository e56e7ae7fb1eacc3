use Rattle.goal_kinds.proofs.ClosedLevels.{closed-given}
use Rattle.goal_kinds.proofs.laws.closed_aliases_have_closed_terms.Goals as goal

pub returns : goal.returns
returns c = record { closed = closed-given }
