-- What a context holds.
use Rattle.std.specs.Prelude.{◌<◌, ℕ, Bool, List, length, map, []}
use Rattle.std.specs.List.{All}
use Rattle.goal_terms.specs.Tree.{Tree}
use Rattle.goal_terms.specs.declared.answers.DelayedFault.{DelayedFault}
use Rattle.goal_terms.specs.declared.answers.GoalSource.{GoalSource}
use Rattle.goal_terms.specs.declared.answers.OpaqueAccess.{OpaqueAccess}
use Rattle.goal_terms.specs.declared.answers.OpaqueTypeKey.{OpaqueTypeKey}
use Rattle.goal_terms.specs.declared.answers.VarKind.{VarKind}
use Rattle.goal_terms.specs.declared.modes.TypingMode.{TypingMode}
use Rattle.goal_terms.specs.declared.predicates.Goal.{Goal}
use Rattle.goal_terms.specs.declared.predicates.Predicate.{Predicate}
use Rattle.goal_terms.specs.declared.terms.Ty.{Ty}
use Rattle.goal_infer.specs.Inference.{Inference}
use Rattle.goal_infer.specs.Resolution.{IsSolved}
use Rattle.goal_infer.specs.declared.undo.InferVariable.{InferVariable}
use Rattle.goal_tables.specs.declared.rows.Tables.{Tables}
use Rattle.goal_solver.specs.Stored.{IsSet}
use Rattle.goal_solver.specs.declared.context.Mark.{Mark}

-- the tables, the typing mode, the depth that is left, whether to stop where the erased mode doesn't suffice, the terms that have numbers,
-- the variables with their bindings and equations, the goals that were added, which of them were taken out, the hidden types, what was recorded, and how much there was
-- when the innermost trial began
pub record State : Type 0 where
  pub tables : Tables
  pub typing_mode : TypingMode
  pub remaining_depth : ℕ
  pub stop_on_rerun : Bool
  pub terms : List Tree
  pub inference : Inference
  pub goals : List (GoalSource × Goal Predicate)
  pub taken : List ℕ
  pub storage : List (OpaqueTypeKey × Ty)
  pub accesses : List OpaqueAccess
  pub delayed_faults : List DelayedFault
  pub mark : Mark

-- a context to which nothing was given yet
abbrev pub fresh_state : Tables → TypingMode → ℕ → Bool → State
fresh_state t m limit stops = record {
  tables = t;
  typing_mode = m;
  remaining_depth = limit;
  stop_on_rerun = stops;
  terms = [];
  inference = record { variables = []; trail = []; equations = [] };
  goals = [];
  taken = [];
  storage = [];
  accesses = [];
  delayed_faults = [];
  mark = record { inference = record { variables = 0; trail = 0; equations = 0 }; storage = 0 };
}

-- the kinds of some variables
abbrev pub kinds_in : List InferVariable → List VarKind
kinds_in vs = map (λ (v : InferVariable). v.kind) vs

-- the kinds of the variables made so far
abbrev pub kinds_of : State → List VarKind
kinds_of s = kinds_in s.inference.variables

-- the places of the goals that were taken out are places of goals that were added, and none stands twice
pub record AreTaken (goals : List (GoalSource × Goal Predicate)) (places : List ℕ) : Type 0 where
  pub within : All (λ i. i < length goals) places
  pub once : IsSet places

-- what is so of every context: its inference state is solved, and the goals that were taken out are some of those that were added
pub record IsValid (s : State) : Type 0 where
  pub solved : IsSolved s.terms s.inference
  pub taken : AreTaken s.goals s.taken
