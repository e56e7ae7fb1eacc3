use Rattle.goal_lists.specs.Levels.{level}
use Rattle.goal_lists.proofs.EffectLists.{effect_list-holds, effect_list-refuted}
use Rattle.goal_kinds.proofs.laws.lists.effect_lists_say_what_candidates_do.Goals as goal

pub returns-clause-holds : goal.returns-clause-holds
returns-clause-holds c = λ S n b i ts x. effect_list-holds S (level S n) b i ts x

pub returns-clause-refuted : goal.returns-clause-refuted
returns-clause-refuted c = λ S n b i ts x. effect_list-refuted S (level S n) b i ts x
