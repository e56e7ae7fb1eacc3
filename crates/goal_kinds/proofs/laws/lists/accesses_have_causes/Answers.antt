use Rattle.goal_lists.specs.AliasLists.{alias_list}
use Rattle.goal_lists.specs.EffectLists.{effect_list}
use Rattle.goal_lists.specs.ProjectionLists.{projection_list}
use Rattle.goal_lists.specs.TraitLists.{trait_list}
use Rattle.goal_lists.proofs.CauseLemmas.{accesses-caused, list_accesses-caused, trait_list-caused, effect_list-caused, projection_list-caused, alias_list-caused}
use Rattle.goal_kinds.proofs.laws.lists.accesses_have_causes.Goals as goal

pub returns-clause-traits : goal.returns-clause-traits
returns-clause-traits c = λ S i ts x. list_accesses-caused S.tables (trait_list S i ts x) (trait_list-caused S i ts x)

pub returns-clause-effects : goal.returns-clause-effects
returns-clause-effects c = λ S b i ts x. list_accesses-caused S.tables (effect_list S b i ts x) (effect_list-caused S b i ts x)

pub returns-clause-projections : goal.returns-clause-projections
returns-clause-projections c = λ S p itself x. list_accesses-caused S.tables (projection_list S p itself x) (projection_list-caused S p itself x)

pub returns-clause-aliases : goal.returns-clause-aliases
returns-clause-aliases c = λ S k ts. accesses-caused S.tables (alias_list S k ts) (alias_list-caused S k ts)
