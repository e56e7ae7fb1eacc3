-- The answer to a closed goal at a depth limit.
use Rattle.std.specs.Prelude.{Bool, true, false, List, map}
use Rattle.goal_terms.specs.Erased.{erased}
use Rattle.goal_terms.specs.PredicateTrees.{PredicateTree, holds, equals, holds_const, tree_of_kind}
use Rattle.goal_terms.specs.Tree.{Tree}
use Rattle.goal_terms.specs.declared.modes.TypingMode.{TypingMode}
use Rattle.goal_terms.specs.declared.predicates.Clause.{Clause}
use Rattle.goal_terms.specs.declared.terms.AliasTermKind.{AliasTermKind}
use Rattle.goal_tables.specs.declared.rows.Tables.{Tables}
use Rattle.goal_lists.specs.Level.{Level}
use Rattle.goal_lists.specs.Premises.{ClauseHolds, ClauseRefuted}
use Rattle.goal_lists.specs.Settings.{Setting}

-- a predicate without lifetimes
abbrev pub erased_predicate : PredicateTree → PredicateTree
erased_predicate (holds i ts) = holds i (map erased ts)
erased_predicate (equals a t) = equals (erased a) (erased t)
erased_predicate (holds_const c i ts) = holds_const c i (map erased ts)

-- the clauses of an environment, without lifetimes
abbrev pub environment_of : List Clause → List PredicateTree
environment_of clauses = map (λ c. erased_predicate (tree_of_kind c.kind)) clauses

-- what a goal is asked over
abbrev pub setting_of : Tables → TypingMode → List Clause → Setting
setting_of t m clauses = record { tables = t; mode = m; env = environment_of clauses }

-- a closed goal: whether a predicate holds, or which term an alias has
pub data Question : Type 0 where
  whether : PredicateTree → Question
  which_term : AliasTermKind → List Tree → Question

-- an answer: that the goal holds, that the alias has a term, that the goal is refuted, or neither
pub data Answer : Type 0 where
  yes : Answer
  yes_with : Tree → Answer
  no : Answer
  maybe : Answer

-- an answer is right at a level: what it says is proved there; `maybe` says that nothing is
unfoldable pub IsAnswer : Level → Question → Answer → Type 0
IsAnswer L (whether p) yes = ClauseHolds L p
IsAnswer L (whether p) (yes_with t) = ⊥
IsAnswer L (whether p) no = ClauseRefuted L p
IsAnswer L (whether p) maybe = (ClauseHolds L p → ⊥) × (ClauseRefuted L p → ⊥)
IsAnswer L (which_term k ts) yes = ⊥
IsAnswer L (which_term k ts) (yes_with t) = L.gives k ts t
IsAnswer L (which_term k ts) no = L.gives_refuted k ts
IsAnswer L (which_term k ts) maybe = ((t : Tree) → L.gives k ts t → ⊥) × (L.gives_refuted k ts → ⊥)

-- whether an answer decides its goal
abbrev pub decides : Answer → Bool
decides yes = true
decides (yes_with t) = true
decides no = true
decides maybe = false
