use Rattle.goal_lists.proofs.AnswerLaws.{const-agrees}
use Rattle.goal_kinds.proofs.laws.const_is_stronger.Goals as goal

pub returns : goal.returns
returns c = record { never_refuted = const-agrees }
