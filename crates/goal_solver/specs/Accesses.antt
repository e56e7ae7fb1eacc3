-- What a call records.
use Rattle.std.specs.Prelude.{◌≡◌, ◌⊎◌, if◌then◌else◌, List, [], ◌∷◌, ◌++◌}
use Rattle.std.specs.List.{Contains}
use Rattle.goal_terms.specs.declared.answers.DelayedFault.{DelayedFault}
use Rattle.goal_terms.specs.declared.answers.OpaqueAccess.{OpaqueAccess}
use Rattle.goal_tables.specs.declared.rows.Tables.{Tables}
use Rattle.goal_lists.specs.Causes.{IsCaused, has_fault_cause}
use Rattle.goal_eval.specs.Effects.{EndsIn}
use Rattle.goal_solver.specs.State.{State}
use Rattle.goal_eval.specs.declared.eval.outcomes.Stop.{Stop}

-- each access that is recorded after a call was recorded before it, or has its cause in the tables
unfoldable pub RecordsCaused : State → State → Type 0
RecordsCaused old new = (a : OpaqueAccess) → Contains new.accesses a → Contains old.accesses a ⊎ IsCaused old.tables a

-- an evaluation in a context ends without an outcome
abbrev pub EndsFor : State → Stop → Type 0
EndsFor s e = EndsIn s.tables s.typing_mode e

-- the delayed faults that have no cause in the tables
unfoldable pub uncaused : Tables → List DelayedFault → List DelayedFault
uncaused t [] = []
uncaused t (f ∷ fs) = (if has_fault_cause t f then [] else f ∷ []) ++ uncaused t fs

abbrev pub uncaused_faults : State → List DelayedFault
uncaused_faults s = uncaused s.tables s.delayed_faults

-- each delayed fault that is recorded after a call and wasn't before it has its cause in the tables
abbrev pub RecordsCausedFaults : State → State → Type 0
RecordsCausedFaults old new = uncaused_faults new ≡ uncaused_faults old
