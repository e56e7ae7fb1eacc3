use Rattle.goal_lists.proofs.ListTerms.{trait_list-asks_none, effect_list-asks_none}
use Rattle.goal_kinds.proofs.laws.lists.lists_of_traits_ask_for_no_term.Goals as goal

pub returns-clause-traits : goal.returns-clause-traits
returns-clause-traits c = λ S i ts x. trait_list-asks_none S i ts x

pub returns-clause-effects : goal.returns-clause-effects
returns-clause-effects c = λ S b i ts x. effect_list-asks_none S b i ts x
