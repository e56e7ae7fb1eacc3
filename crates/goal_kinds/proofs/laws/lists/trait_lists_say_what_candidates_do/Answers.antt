use Rattle.goal_lists.specs.Levels.{level}
use Rattle.goal_lists.proofs.TraitLists.{trait_list-holds, trait_list-refuted}
use Rattle.goal_kinds.proofs.laws.lists.trait_lists_say_what_candidates_do.Goals as goal

pub returns-clause-holds : goal.returns-clause-holds
returns-clause-holds c = λ S n i ts x. trait_list-holds S (level S n) i ts x

pub returns-clause-refuted : goal.returns-clause-refuted
returns-clause-refuted c = λ S n i ts x. trait_list-refuted S (level S n) i ts x
