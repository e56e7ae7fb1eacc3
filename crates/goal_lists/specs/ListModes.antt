-- What a list records, and that a list of the erased mode stands for headline modes.
use Rattle.std.specs.Prelude.{◌≡◌, ◌⊎◌, List, [], ◌∷◌, ◌++◌, Option, Some, None}
use Rattle.goal_terms.specs.declared.answers.DelayedFault.{DelayedFault}
use Rattle.goal_terms.specs.declared.answers.OpaqueAccess.{OpaqueAccess}
use Rattle.goal_terms.specs.declared.modes.TypingMode.{TypingMode}
use Rattle.goal_terms.specs.declared.modes.TypingMode.TheVariants as mode
use Rattle.goal_lists.specs.Entries.{Entry, access, delayed_fault}
use Rattle.goal_lists.specs.Settings.{Setting}

-- the access that an entry records, and those of a list
abbrev pub access_in : Entry → List OpaqueAccess
access_in (access a) = a ∷ []
access_in _ = []

unfoldable pub accesses_in : List Entry → List OpaqueAccess
accesses_in [] = []
accesses_in (e ∷ es) = access_in e ++ accesses_in es

-- the delayed fault that an entry records, and those of a list
abbrev pub fault_in : Entry → List DelayedFault
fault_in (delayed_fault f) = f ∷ []
fault_in _ = []

unfoldable pub faults_in : List Entry → List DelayedFault
faults_in [] = []
faults_in (e ∷ es) = fault_in e ++ faults_in es

-- the accesses of a rule's list; one that is refused records none
abbrev pub list_accesses : Option (List Entry) → List OpaqueAccess
list_accesses None = []
list_accesses (Some es) = accesses_in es

-- a setting in another mode, and in the erased one
abbrev pub in_mode : Setting → TypingMode → Setting
in_mode S m = record S { mode = m }

abbrev pub erased_setting : Setting → Setting
erased_setting S = in_mode S mode.ErasedNotCoherence

-- an entry reads the typing mode
abbrev pub IsAccess : Entry → Type 0
IsAccess (access a) = Unit {0}
IsAccess _ = ⊥

-- a list stands in for another one: they are the same as far as the first reads no mode
unfoldable pub StandsIn : List Entry → List Entry → Type 0
StandsIn [] fs = fs ≡ []
StandsIn (e ∷ es) fs = IsAccess e ⊎ ((gs : List Entry) × (fs ≡ e ∷ gs) × StandsIn es gs)

-- so does the list of a rule, if that isn't refused
unfoldable pub ListStandsIn : Option (List Entry) → Option (List Entry) → Type 0
ListStandsIn None o = o ≡ None
ListStandsIn (Some es) o = (fs : List Entry) × (o ≡ Some fs) × StandsIn es fs
