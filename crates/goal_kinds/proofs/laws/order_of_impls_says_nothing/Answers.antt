use Rattle.goal_lists.proofs.AlikeSettings.{alike-reordered}
use Rattle.goal_lists.proofs.AnswerLaws.{answer-same, impls-not_doubled}
use Rattle.goal_lists.proofs.WithinLevels.{within-alike_level, within-alike_level_back}
use Rattle.goal_kinds.proofs.laws.order_of_impls_says_nothing.Goals as goal

pub returns : goal.returns
returns c = record {
  same_answers = λ t v m env n q a h i r x.
      let alike = alike-reordered (record { tables = t; mode = m; env = env }) v r (impls-not_doubled t h) in
      answer-same (within-alike_level alike n) (within-alike_level_back alike n) q a x;
}
