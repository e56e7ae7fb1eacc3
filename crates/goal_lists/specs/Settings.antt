-- What a goal is asked over: tables, a typing mode and an environment.
use Rattle.std.specs.Prelude.{Bool, true, false, ◌==◌, ◌&&◌, List, [], ◌∷◌}
use Rattle.std.specs.List.{list_any}
use Rattle.goal_terms.specs.PredicateTrees.{PredicateTree}
use Rattle.goal_terms.specs.declared.ids.OpaqueId.{OpaqueId}
use Rattle.goal_terms.specs.declared.modes.TypingMode.{TypingMode}
use Rattle.goal_terms.specs.declared.modes.TypingMode.TheVariants as mode
use Rattle.goal_tables.specs.declared.rows.OpaqueRow.{OpaqueRow}
use Rattle.goal_tables.specs.declared.rows.Tables.{Tables}

-- whether a list has no elements
abbrev pub is_empty : {A : Type 0} → List A → Bool
is_empty [] = true
is_empty (x ∷ xs) = false

-- tables, a typing mode, and the clauses of an environment, without lifetimes
pub record Setting : Type 0 where
  pub tables : Tables
  pub mode : TypingMode
  pub env : List PredicateTree

-- whether a mode is one of the headline: neither coherence nor the erased mode, and no opaque type is being defined
abbrev pub is_headline : TypingMode → Bool
is_headline mode.Coherence = false
is_headline (mode.Analysis ids) = is_empty ids.items
is_headline (mode.Borrowck ids) = is_empty ids.items
is_headline (mode.PostBorrowckAnalysis ids) = true
is_headline mode.PostAnalysis = true
is_headline mode.ErasedNotCoherence = false

-- whether a mode is that of coherence
abbrev pub is_coherence : TypingMode → Bool
is_coherence mode.Coherence = true
is_coherence _ = false

-- whether a mode is the erased one
abbrev pub is_erased : TypingMode → Bool
is_erased mode.ErasedNotCoherence = true
is_erased _ = false

-- whether an opaque type is local and among these
abbrev pub among : List OpaqueId → OpaqueRow → Bool
among ids r = r.is_local && list_any (λ i. i.0 == r.id.0) ids

-- whether a mode leaves open what an opaque type stands for: in coherence, and where it is being defined by type checking
abbrev pub leaves_open : TypingMode → OpaqueRow → Bool
leaves_open mode.Coherence r = true
leaves_open (mode.Analysis ids) r = among ids.items r
leaves_open (mode.Borrowck ids) r = false
leaves_open (mode.PostBorrowckAnalysis ids) r = false
leaves_open mode.PostAnalysis r = false
leaves_open mode.ErasedNotCoherence r = false

-- whether a mode takes for an opaque type what type checking found: where it is being defined after that
abbrev pub takes_checked : TypingMode → OpaqueRow → Bool
takes_checked (mode.Borrowck ids) r = among ids.items r
takes_checked _ r = false

-- whether a mode shows the hidden type of an opaque type
abbrev pub reveals : TypingMode → OpaqueRow → Bool
reveals mode.Coherence r = false
reveals (mode.Analysis ids) r = false
reveals (mode.Borrowck ids) r = false
reveals (mode.PostBorrowckAnalysis ids) r = among ids.items r
reveals mode.PostAnalysis r = true
reveals mode.ErasedNotCoherence r = false

-- whether a mode takes the values of defaults, which may be specialized elsewhere
abbrev pub takes_defaults : TypingMode → Bool
takes_defaults mode.PostAnalysis = true
takes_defaults _ = false

-- whether a mode leaves open what a default gives: in coherence, and in the erased mode, in which it has no answer
abbrev pub hides_defaults : TypingMode → Bool
hides_defaults mode.Coherence = true
hides_defaults mode.ErasedNotCoherence = true
hides_defaults _ = false
