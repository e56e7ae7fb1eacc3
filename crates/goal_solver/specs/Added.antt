-- Goals, hidden types and records that are added to a context.
use Rattle.std.specs.Prelude.{◌≡◌, Bool, nat_lt, List, [], ◌∷◌, ◌++◌, length, Option, Some, None}
use Rattle.std.specs.List.{Contains}
use Rattle.goal_terms.specs.TreeOf.{tree_of_ty}
use Rattle.goal_terms.specs.declared.answers.DelayedFault.{DelayedFault}
use Rattle.goal_terms.specs.declared.answers.GoalSource.{GoalSource}
use Rattle.goal_terms.specs.declared.answers.OpaqueAccess.{OpaqueAccess}
use Rattle.goal_terms.specs.declared.answers.OpaqueTypeKey.{OpaqueTypeKey}
use Rattle.goal_terms.specs.declared.predicates.Goal.{Goal}
use Rattle.goal_terms.specs.declared.predicates.Predicate.{Predicate}
use Rattle.goal_terms.specs.declared.terms.Ty.{Ty}
use Rattle.goal_eval.specs.Entering.{Enters}
use Rattle.goal_solver.specs.State.{State}
use Rattle.goal_solver.specs.Stored.{IsSameKey}

-- whether there are goals that were added and not taken out
abbrev pub has_goals : State → Bool
has_goals s = nat_lt (length s.taken) (length s.goals)

-- a context with goals added after the others, and nothing else changed
abbrev pub with_goals : List (GoalSource × Goal Predicate) → State → State
with_goals gs s = record s { goals = s.goals ++ gs }

-- an access is recorded, and nothing else changes
abbrev pub RecordsAccess : OpaqueAccess → State → State → Type 0
RecordsAccess x old new = Enters x old.accesses new.accesses × (new ≡ record old { accesses = new.accesses })

-- a delayed fault is recorded, and nothing else changes
abbrev pub RecordsFault : DelayedFault → State → State → Type 0
RecordsFault x old new = Enters x old.delayed_faults new.delayed_faults × (new ≡ record old { delayed_faults = new.delayed_faults })

-- an entry has the key
abbrev pub HasEntry : OpaqueTypeKey → List (OpaqueTypeKey × Ty) → OpaqueTypeKey × Ty → Type 0
HasEntry key es e = Contains es e × IsSameKey e.0 key

-- the type that was entered for a key, if one was
abbrev pub IsEarlierType : OpaqueTypeKey → List (OpaqueTypeKey × Ty) → Option Ty → Type 0
IsEarlierType key es (Some earlier) = (e : OpaqueTypeKey × Ty) × HasEntry key es e × (tree_of_ty earlier ≡ tree_of_ty e.1)
IsEarlierType key es None = (e : OpaqueTypeKey × Ty) → HasEntry key es e → ⊥

-- a hidden type is entered: an earlier one of the key is answered, and nothing changes; or there is none, and the new one comes last
abbrev pub EntersType : OpaqueTypeKey → Ty → State → State → Option Ty → Type 0
EntersType key ty old new (Some earlier) = IsEarlierType key old.storage (Some earlier) × (new ≡ old)
EntersType key ty old new None = IsEarlierType key old.storage None × (new ≡ record old { storage = old.storage ++ (key, ty) ∷ [] })
