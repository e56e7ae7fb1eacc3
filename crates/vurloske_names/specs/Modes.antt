-- The modes that blocks name.
use Rattle.std.specs.Prelude.{◌≡◌, ℕ, List, [], codes, false}
use Rattle.goal_terms.specs.declared.modes.TypingMode.{TypingMode}
use Rattle.goal_terms.specs.declared.modes.TypingMode.TheVariants as typing
use Rattle.vurloske_names.specs.declared.modes.Mode.{Mode}
use Rattle.vurloske_names.specs.declared.modes.Phase.{Phase}
use Rattle.vurloske_names.specs.declared.modes.Phase.TheVariants as phase

-- how a phase is written
abbrev pub phase_text : Phase → List ℕ
phase_text phase.Analysis = codes "analysis"
phase_text phase.Borrowck = codes "borrowck"
phase_text phase.PostBorrowckAnalysis = codes "post_borrowck_analysis"
phase_text phase.Erased = codes "erased"
phase_text phase.Coherence = codes "coherence"
phase_text phase.PostAnalysis = codes "post_analysis"

-- a typing mode is that of a phase
abbrev pub IsModeOf : Phase → TypingMode → Type 0
IsModeOf phase.Analysis (typing.Analysis _) = Unit {0}
IsModeOf phase.Borrowck (typing.Borrowck _) = Unit {0}
IsModeOf phase.PostBorrowckAnalysis (typing.PostBorrowckAnalysis _) = Unit {0}
IsModeOf phase.Erased typing.ErasedNotCoherence = Unit {0}
IsModeOf phase.Coherence typing.Coherence = Unit {0}
IsModeOf phase.PostAnalysis typing.PostAnalysis = Unit {0}
IsModeOf _ _ = ⊥

-- a typing mode is that of the phase that a word names
abbrev pub IsModeNamed : List ℕ → TypingMode → Type 0
IsModeNamed text m = (p : Phase) × (phase_text p ≡ text) × IsModeOf p m

-- no opaque type is being defined
abbrev pub DefinesNone : TypingMode → Type 0
DefinesNone (typing.Analysis ids) = ids.items ≡ []
DefinesNone _ = ⊥

-- the mode outside of blocks
pub record IsOutermost (m : Mode) : Type 0 where
  pub typing_mode : DefinesNone m.typing_mode
  pub runs_on : m.stop_on_rerun ≡ false
