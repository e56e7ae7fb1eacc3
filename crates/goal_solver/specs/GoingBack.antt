-- When a context goes back to an earlier one.
use Rattle.std.specs.Prelude.{◌≡◌, ℕ, List, length, take}
use Rattle.goal_interner.specs.TableMeaning.{Keeps}
use Rattle.goal_infer.specs.Inference as inference
use Rattle.goal_solver.specs.State.{State}
use Rattle.goal_solver.specs.declared.context.Mark.{Mark}
use Rattle.goal_solver.specs.declared.context.Snapshot.{Snapshot}

-- a list begins with another
abbrev pub BeginsWith : {A : Type 0} → List A → List A → Type 0
BeginsWith whole start = take (length start) whole ≡ start

-- the changes recorded since, undone, give the state before; terms, accesses and delayed faults may be more
pub record GoesBack (before after : State) : Type 0 where
  pub tables : after.tables ≡ before.tables
  pub typing_mode : after.typing_mode ≡ before.typing_mode
  pub remaining_depth : after.remaining_depth ≡ before.remaining_depth
  pub stop_on_rerun : after.stop_on_rerun ≡ before.stop_on_rerun
  pub terms : Keeps before.terms after.terms
  pub inference : inference.GoesBack before.inference after.inference
  pub goals : BeginsWith after.goals before.goals
  pub taken : BeginsWith after.taken before.taken
  pub storage : BeginsWith after.storage before.storage
  pub accesses : BeginsWith after.accesses before.accesses
  pub delayed_faults : BeginsWith after.delayed_faults before.delayed_faults
  pub mark : after.mark ≡ before.mark

-- how much there is of what can be undone
abbrev pub lengths_of : State → Snapshot
lengths_of s = record { inference = inference.lengths_of s.inference; goals = length s.goals; taken = length s.taken; storage = length s.storage }

-- a state with the terms, accesses and delayed faults of a later one, and nothing else of it
abbrev pub restored : State → State → State
restored before after = record before { terms = after.terms; accesses = after.accesses; delayed_faults = after.delayed_faults }

-- how much there is of what a response lists
abbrev pub mark_of : State → Mark
mark_of s = record { inference = inference.lengths_of s.inference; storage = length s.storage }

-- a context in which a trial begins
abbrev pub begun : State → State
begun s = record s { mark = mark_of s }

-- a context with another depth left
abbrev pub at_depth : ℕ → State → State
at_depth n s = record s { remaining_depth = n }
