use Rattle.goal_lists.proofs.ListStandIns.{projection_list-stands_in, alias_list-stands_in}
use Rattle.goal_lists.proofs.ListModes.{trait_list-stands, effect_list-stands, projection_list-stands, alias_list-stands}
use Rattle.goal_kinds.proofs.laws.lists.erased_lists_stand_for_headline_modes.Goals as goal

pub returns-clause-traits : goal.returns-clause-traits
returns-clause-traits c = λ S m i ts x e. trait_list-stands S m e i ts x

pub returns-clause-effects : goal.returns-clause-effects
returns-clause-effects c = λ S m b i ts x e. effect_list-stands S m e b i ts x

pub returns-clause-projections : goal.returns-clause-projections
returns-clause-projections c = λ S m p itself x e h. projection_list-stands S m e p itself x h

pub returns-clause-aliases : goal.returns-clause-aliases
returns-clause-aliases c = λ S m k ts e h. alias_list-stands S m e k ts h

pub returns-clause-projections_before : goal.returns-clause-projections_before
returns-clause-projections_before c = λ S m p itself x e. projection_list-stands_in S m e p itself x

pub returns-clause-aliases_before : goal.returns-clause-aliases_before
returns-clause-aliases_before c = λ S m k ts e. alias_list-stands_in S m e k ts
