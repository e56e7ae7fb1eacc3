-- What is kept of a goal: the least depth at which it was decided, with what it came to, and the greatest at which it was undecided.
use Rattle.std.specs.Prelude.{◌≡◌, ◌⊎◌, ◌≤◌, ◌==◌, ℕ, Bool, true, false, Option, Some, None}
use Rattle.std.specs.HashMap.{get, HashMap}
use Rattle.goal_eval.specs.declared.eval.evaluation_cache.CacheEntry.{CacheEntry}
use Rattle.goal_lists.specs.declared.outcomes.Outcome.{Outcome}
use Rattle.goal_lists.specs.declared.outcomes.Outcome.TheVariants as outcome
use Rattle.goal_lists.specs.declared.outcomes.TraitOutcome.{TraitOutcome}
use Rattle.goal_lists.specs.declared.outcomes.TraitOutcome.TheVariants as trait_outcome
use Rattle.goal_eval.specs.declared.eval.outcomes.Found.{Found}
use Rattle.goal_eval.specs.declared.eval.outcomes.Found.TheVariants as found

-- what an entry says that a goal comes to at a depth: what was decided with no more of it, or nothing where it was undecided with no less
abbrev pub IsKnownAt : {A : Type 0} → CacheEntry A → ℕ → A → A → Type 0
IsKnownAt {A} e d u o = ((n : ℕ) × (e.decided ≡ Some (n, o)) × (n ≤ d)) ⊎ ((d ≤ e.undecided) × (o ≡ u))

-- the entry of a goal; one that isn't there says that nothing is decided without depth
abbrev pub entry_of : {A : Type 0} → Option (CacheEntry A) → CacheEntry A
entry_of (Some e) = e
entry_of None = record { decided = None; undecided = 0 }

-- an entry after its goal came to an answer at a depth, which decides it or doesn't
abbrev pub kept : {A : Type 0} → CacheEntry A → ℕ → A → Bool → CacheEntry A
kept e d a true = record { decided = Some (d, a); undecided = e.undecided }
kept e d a false = record { decided = e.decided; undecided = d }

-- at most the entry of one goal changes, to this one
abbrev pub Enters : {A S : Type 0} → HashMap ℕ (CacheEntry A) S → HashMap ℕ (CacheEntry A) S → ℕ → CacheEntry A → Type 0
Enters before after k e = (n : ℕ) → (get ◌==◌ after n ≡ get ◌==◌ before n) ⊎ ((n ≡ k) × (get ◌==◌ after n ≡ Some e))

-- at most the entry of one goal changes, in this way
abbrev pub EntersBy : {A S : Type 0} → HashMap ℕ (CacheEntry A) S → HashMap ℕ (CacheEntry A) S → ℕ → (CacheEntry A → CacheEntry A) → Type 0
EntersBy before after k f = Enters before after k (f (entry_of (get ◌==◌ before k)))

-- what is kept of a goal says what it comes to at a depth
abbrev pub IsKeptAt : {A : Type 0} → Option (CacheEntry A) → ℕ → A → A → Type 0
IsKeptAt {A} c d u o = (e : CacheEntry A) × (c ≡ Some e) × IsKnownAt e d u o

-- an outcome decides its goal
abbrev pub trait_decided : TraitOutcome → Bool
trait_decided (trait_outcome.Holds c) = true
trait_decided trait_outcome.Refuted = true
trait_decided trait_outcome.Undecided = false

abbrev pub outcome_decided : Outcome → Bool
outcome_decided outcome.Holds = true
outcome_decided outcome.Refuted = true
outcome_decided outcome.Undecided = false

abbrev pub found_decided : Found → Bool
found_decided (found.Is id) = true
found_decided found.Refuted = true
found_decided found.Undecided = false
