-- Every level is consistent.
use Rattle.std.proofs.Common.{ℕ}
use Rattle.goal_lists.specs.Laws.{IsConsistent}
use Rattle.goal_lists.specs.Level.{Level}
use Rattle.goal_lists.specs.Levels.{next_level, level}
use Rattle.goal_lists.specs.Settings.{Setting}
use Rattle.goal_lists.proofs.AliasLemmas.{one_alias_term, no_alias_refuted}
use Rattle.goal_lists.proofs.ConstLemmas.{no_const_goal_refuted}
use Rattle.goal_lists.proofs.LevelLemmas.{HasConsistentGoals, level_is_consistent}
use Rattle.goal_lists.proofs.TraitGoalLemmas.{no_trait_goal_refuted, one_class_of_trait}

-- no goal is proved both ways above a level with the laws
pub goals_are_consistent : (S : Setting) (L : Level) → IsConsistent L → HasConsistentGoals (next_level S L)
goals_are_consistent S L laws = record {
  one_term = one_alias_term S L laws;
  no_term_refuted = no_alias_refuted S L laws;
  one_class = one_class_of_trait S L laws;
  no_trait_refuted = no_trait_goal_refuted S L laws;
  no_const_refuted = no_const_goal_refuted S L laws;
}

-- all levels have the laws
pub each_level_is_consistent : (S : Setting) (n : ℕ) → IsConsistent (level S n)
each_level_is_consistent S n = level_is_consistent S (goals_are_consistent S) n
