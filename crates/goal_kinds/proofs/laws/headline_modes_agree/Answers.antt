use Rattle.std.proofs.Common.{refl}
use Rattle.goal_lists.specs.Laws.{is_default_source}
use Rattle.goal_lists.proofs.AlikeSettings.{alike-any_mode, headlines-coherent}
use Rattle.goal_lists.proofs.AnswerLaws.{answer-same}
use Rattle.goal_lists.proofs.WithinLevels.{within-alike_level, within-alike_level_back}
use Rattle.goal_kinds.proofs.laws.headline_modes_agree.Goals as goal

pub returns : goal.returns
returns c = record {
  same_answers = λ t m k env n q a r h i x.
      let alike = alike-any_mode (record { tables = t; mode = m; env = env }) k is_default_source (headlines-coherent m k h i) (λ d. refl) r.0 r.1 in
      answer-same (within-alike_level alike n) (within-alike_level_back alike n) q a x;
}
