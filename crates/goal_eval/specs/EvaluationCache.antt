-- What an evaluation keeps is right: each answer at its depth, for what the evaluation is over.
use Rattle.std.specs.Prelude.{◌≡◌, ◌==◌, ◌<◌, ℕ, List, [], Some, length}
use Rattle.std.specs.HashMap.{get, HashMap}
use Rattle.goal_terms.specs.Tree.{Tree, node, alias, list_of}
use Rattle.goal_terms.specs.declared.heads.Head.TheVariants as head
use Rattle.goal_terms.specs.declared.modes.TypingMode.{TypingMode}
use Rattle.goal_terms.specs.declared.predicates.BoundConstness.{BoundConstness}
use Rattle.goal_terms.specs.declared.predicates.BoundConstness.TheVariants as constness
use Rattle.goal_lists.specs.Interned.{erased_at}
use Rattle.goal_lists.specs.Level.{Level}
use Rattle.goal_eval.specs.Outcomes.{RunsFor, level_in, Says, SaysThrough, SaysWhich, FoundIn}
use Rattle.goal_eval.specs.declared.eval.evaluation_cache.CacheEntry.{CacheEntry}
use Rattle.goal_eval.specs.declared.eval.evaluation_cache.Answered.{Answered}
use Rattle.goal_eval.specs.declared.eval.evaluation_cache.EvaluationCache.{EvaluationCache as Cache}
use Rattle.goal_eval.specs.declared.eval.outcomes.Setting as over
use Rattle.goal_lists.specs.declared.outcomes.Outcome as outcomes
use Rattle.goal_lists.specs.declared.outcomes.Outcome.TheVariants as outcome
use Rattle.goal_lists.specs.declared.outcomes.TraitOutcome as trait_outcomes
use Rattle.goal_lists.specs.declared.outcomes.TraitOutcome.TheVariants as trait_outcome
use Rattle.goal_eval.specs.declared.eval.outcomes.Found as founds
use Rattle.goal_eval.specs.declared.eval.outcomes.Found.TheVariants as found

-- what an outcome says of the trait goal that a clause stands for
unfoldable pub SaysTraitAt : Level → Tree → trait_outcomes.TraitOutcome → Type 0
SaysTraitAt L (node (head.DynTrait i n) ts) o = SaysThrough (λ c. L.through c i (list_of ts)) (L.trait_refuted i (list_of ts)) o
SaysTraitAt L t o = ⊥

-- what an outcome says of the const trait goal that a clause stands for
unfoldable pub SaysConstAt : BoundConstness → Level → Tree → outcomes.Outcome → Type 0
SaysConstAt c L (node (head.DynTrait i n) ts) o = Says (L.const_holds c i (list_of ts)) (L.const_refuted c i (list_of ts)) o
SaysConstAt c L t o = ⊥

-- what was found for an alias
unfoldable pub SaysAliasAt : List Tree → Level → Tree → founds.Found → Type 0
SaysAliasAt T L (alias k ts) o = SaysWhich (L.gives k (list_of ts)) (L.gives_refuted k (list_of ts)) T o
SaysAliasAt T L t o = ⊥

-- an entry is right: what it says of a depth is so there
pub record IsRight {A : Type 0} (Says : ℕ → A → Type 0) (undecided_answer : A) (e : CacheEntry A) : Type 0 where
  pub decided : (n : ℕ) (a : A) → e.decided ≡ Some (n, a) → Says n a × (a ≡ undecided_answer → ⊥)
  pub undecided : Says e.undecided undecided_answer

-- all entries of a map are right, and what they are about and answer is in the table
pub record AreRight {A S : Type 0} (c : over.Setting) (T : List Tree) (In : A → Type 0) (Says : Level → Tree → A → Type 0) (undecided_answer : A) (entries : HashMap ℕ (CacheEntry A) S) : Type 0 where
  pub within : (n : ℕ) (e : CacheEntry A) → get ◌==◌ entries n ≡ Some e → n < length T
  pub answers : (n : ℕ) (e : CacheEntry A) → get ◌==◌ entries n ≡ Some e → (d : ℕ) (a : A) → e.decided ≡ Some (d, a) → In a
  pub right :
      (n : ℕ) (e : CacheEntry A) → get ◌==◌ entries n ≡ Some e → (m : TypingMode) → RunsFor c m
      → IsRight (λ d. Says (level_in c m d) (erased_at T (record { 0 = n }))) undecided_answer e

-- all that is kept is right
pub record IsValidCache (c : over.Setting) (T : List Tree) (k : Cache) : Type 0 where
  pub traits : AreRight c T (λ o. Unit {0}) SaysTraitAt trait_outcome.Undecided k.traits.entries
  pub consts : AreRight c T (λ o. Unit {0}) (SaysConstAt constness.Const) outcome.Undecided k.consts.entries
  pub maybe_consts : AreRight c T (λ o. Unit {0}) (SaysConstAt constness.Maybe) outcome.Undecided k.maybe_consts.entries
  pub aliases : AreRight c T (FoundIn T) (SaysAliasAt T) found.Undecided k.aliases.entries

-- nothing is kept
pub record IsEmptyCache (k : Cache) : Type 0 where
  pub traits : k.traits.entries.entries ≡ []
  pub consts : k.consts.entries.entries ≡ []
  pub maybe_consts : k.maybe_consts.entries.entries ≡ []
  pub aliases : k.aliases.entries.entries ≡ []

-- what is kept of const trait goals of a constness
abbrev pub consts_of : Cache → BoundConstness → Answered outcomes.Outcome
consts_of k constness.Const = k.consts
consts_of k constness.Maybe = k.maybe_consts

-- all else that is kept is as it was
abbrev pub KeepsButConsts : BoundConstness → Cache → Cache → Type 0
KeepsButConsts constness.Const k new = new ≡ record k { consts = new.consts }
KeepsButConsts constness.Maybe k new = new ≡ record k { maybe_consts = new.maybe_consts }
