use Rattle.goal_lists.proofs.KindedLemmas.{lists-kinded}
use Rattle.goal_kinds.proofs.laws.fast_reject.kinds_follow_heads.Goals as goal

pub returns : goal.returns
returns c = lists-kinded
