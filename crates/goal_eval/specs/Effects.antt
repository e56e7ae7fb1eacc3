-- What is so of an evaluation's effects, and of why it ends without an outcome.
use Rattle.std.specs.Prelude.{◌≡◌, false, List, []}
use Rattle.std.specs.List.{All}
use Rattle.goal_terms.specs.Tree.{Tree}
use Rattle.goal_terms.specs.declared.modes.TypingMode.{TypingMode}
use Rattle.goal_terms.specs.declared.modes.TypingMode.TheVariants as mode
use Rattle.goal_tables.specs.declared.rows.Tables.{Tables}
use Rattle.goal_lists.specs.Causes.{IsCaused, IsFaultCaused}
use Rattle.goal_lists.specs.Settings.{is_headline}
use Rattle.goal_eval.specs.EvaluationCache.{IsValidCache, IsEmptyCache}
use Rattle.goal_eval.specs.declared.eval.effects.Effects.{Effects}
use Rattle.goal_eval.specs.declared.eval.outcomes.Setting as over
use Rattle.goal_eval.specs.declared.eval.outcomes.Stop.{Stop}
use Rattle.goal_eval.specs.declared.eval.outcomes.Stop.TheVariants as stop

-- the answers that are kept are right, and each access and each delayed fault has its cause in the tables
pub record Soundness (c : over.Setting) (T : List Tree) (e : Effects) : Type 0 where
  pub answers : IsValidCache c T e.cache
  pub causes : All (IsCaused c.rows.now) e.accesses.items
  pub faults : All (IsFaultCaused c.rows.now) e.delayed_faults.items

-- the same as one word, which a search takes whole
unfoldable pub AreSound : over.Setting → List Tree → Effects → Type 0
AreSound c T e = Soundness c T e

-- an evaluation's effects are as they were, but for what is listed of lifetimes
unfoldable pub KeepsButRegions : Effects → Effects → Type 0
KeepsButRegions e new = new ≡ record e { regions = new.regions }

-- nothing is kept, and nothing recorded
pub record AreNone (e : Effects) : Type 0 where
  pub answers : IsEmptyCache e.cache
  pub accesses : e.accesses.items ≡ []
  pub delayed_faults : e.delayed_faults.items ≡ []

-- an evaluation ends for want of memory; or in a mode that isn't of the headline at an access, which in the erased mode has its cause in the tables
abbrev pub EndsIn : Tables → TypingMode → Stop → Type 0
EndsIn t m stop.OutOfMemory = Unit {0}
EndsIn t m (stop.ReadsMode a) = (is_headline m ≡ false) × (m ≡ mode.ErasedNotCoherence → IsCaused t a)

-- so does one over a setting
abbrev pub IsStop : over.Setting → Stop → Type 0
IsStop c s = EndsIn c.rows.now c.typing_mode.now s
