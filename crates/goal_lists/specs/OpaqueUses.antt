-- What a typing mode makes of an opaque type.
use Rattle.std.specs.Prelude.{List, [], ◌∷◌, Option, Some, None, if◌then◌else◌}
use Rattle.std.specs.Option.{option_and_then}
use Rattle.goal_terms.specs.declared.answers.OpaqueAccess.{OpaqueAccess}
use Rattle.goal_terms.specs.declared.answers.OpaqueAccess.TheVariants.{IfDefining, IfPostAnalysis}
use Rattle.goal_terms.specs.declared.modes.TypingMode.{TypingMode}
use Rattle.goal_terms.specs.declared.modes.TypingMode.TheVariants as mode
use Rattle.goal_terms.specs.declared.terms.AliasTermKind.{AliasTermKind}
use Rattle.goal_terms.specs.declared.terms.AliasTermKind.TheVariants.{OpaqueTy}
use Rattle.goal_tables.specs.Rows.{opaque_of}
use Rattle.goal_tables.specs.declared.rows.OpaqueRow.{OpaqueRow}
use Rattle.goal_tables.specs.declared.rows.Tables.{Tables}
use Rattle.goal_lists.specs.Settings.{among}
use Rattle.goal_lists.specs.declared.lists.opaque_uses.OpaqueUse.{OpaqueUse}
use Rattle.goal_lists.specs.declared.lists.opaque_uses.OpaqueUse.TheVariants as uses
use Rattle.goal_lists.specs.declared.lists.FirstUse.{FirstUse}
use Rattle.goal_lists.specs.declared.lists.FirstUse.TheVariants as first

-- the access to an opaque type
abbrev pub access_to : OpaqueRow → OpaqueAccess
access_to r = if r.is_local then IfDefining r.id else IfPostAnalysis

-- what a mode makes of an opaque type
abbrev pub opaque_use : TypingMode → OpaqueRow → OpaqueUse
opaque_use mode.Coherence r = uses.Undecided
opaque_use (mode.Analysis ids) r = if among ids.items r then uses.Defining first.Expected else uses.Rigid
opaque_use (mode.Borrowck ids) r = if among ids.items r then uses.Defining first.TypeChecked else uses.Rigid
opaque_use (mode.PostBorrowckAnalysis ids) r = if among ids.items r then uses.Revealed else uses.Rigid
opaque_use mode.PostAnalysis r = uses.Revealed
opaque_use mode.ErasedNotCoherence r = uses.Recorded (access_to r)

-- what the first use of an opaque type takes as its hidden type, where the mode defines it
abbrev pub first_use : TypingMode → OpaqueRow → Option FirstUse
first_use (mode.Analysis ids) r = if among ids.items r then Some first.Expected else None
first_use (mode.Borrowck ids) r = if among ids.items r then Some first.TypeChecked else None
first_use _ r = None

-- the same of an alias, if it is an opaque type that has a row
abbrev pub first_use_of : Tables → TypingMode → AliasTermKind → Option FirstUse
first_use_of t m (OpaqueTy i) = option_and_then (first_use m) (opaque_of t i)
first_use_of t m _ = None

-- the accesses that the rule of an opaque type records: one, in the erased mode
abbrev pub accesses_for_opaque : TypingMode → Option OpaqueRow → List OpaqueAccess
accesses_for_opaque mode.ErasedNotCoherence (Some r) = access_to r ∷ []
accesses_for_opaque _ _ = []

-- the accesses that the rule of an alias records
abbrev pub accesses_for : Tables → TypingMode → AliasTermKind → List OpaqueAccess
accesses_for t k (OpaqueTy i) = accesses_for_opaque k (opaque_of t i)
accesses_for t k _ = []
