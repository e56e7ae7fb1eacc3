use Rattle.goal_lists.proofs.AnswerLaws.{const-plain}
use Rattle.goal_kinds.proofs.laws.const_implies_plain.Goals as goal

pub returns : goal.returns
returns c = record { plain_goal_holds = const-plain }
