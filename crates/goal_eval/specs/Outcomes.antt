-- What the outcomes of an evaluation say. Exactly one of three is said of each question: that it holds, that it is refuted, or neither.
use Rattle.goal_terms.specs.PredicateTrees.{PredicateTree}
use Rattle.goal_terms.specs.declared.terms.AliasTermKind.{AliasTermKind}
use Rattle.goal_terms.specs.declared.predicates.BoundConstness.{BoundConstness}
use Rattle.goal_terms.specs.declared.ids.TraitId.{TraitId}
use Rattle.goal_lists.specs.Premises.{Premise, ClauseHolds, ClauseRefuted, PremiseHolds, PremiseRefuted, PremisesHold, PremisesRefuted}
use Rattle.std.specs.Prelude.{◌≡◌, ◌⊎◌, ℕ, true, false, List, map}
use Rattle.goal_terms.specs.Erased.{erased}
use Rattle.goal_terms.specs.Tree.{Tree}
use Rattle.goal_terms.specs.TreeOf.{trees_of}
use Rattle.goal_terms.specs.declared.answers.ParamKind.{ParamKind}
use Rattle.goal_terms.specs.declared.answers.TraitGoalProvenVia.{TraitGoalProvenVia}
use Rattle.goal_terms.specs.declared.modes.TypingMode.{TypingMode}
use Rattle.goal_terms.specs.declared.terms.GenericArg.{GenericArg}
use Rattle.goal_tables.specs.Faults.{IsChecked}
use Rattle.goal_tables.specs.declared.rows.Tables.{Tables}
use Rattle.goal_lists.specs.Answers.{setting_of}
use Rattle.goal_lists.specs.Equality.{SameForm, OtherForm}
use Rattle.goal_lists.specs.Headers.{AllKnown, Fits, Clashes}
use Rattle.goal_lists.specs.ImplTerms as terms
use Rattle.goal_lists.specs.Interned.{erased_at, erased_all, IsIn, AreIn}
use Rattle.goal_lists.specs.Level.{Level, HasHeadForm, HeadFormRefuted}
use Rattle.goal_lists.specs.Levels.{level}
use Rattle.goal_lists.specs.Settings.{Setting, is_erased, is_headline}
use Rattle.goal_lists.specs.Words.{Pairs, SomePair}
use Rattle.goal_eval.specs.declared.eval.outcomes.OnAccess.{OnAccess}
use Rattle.goal_eval.specs.declared.eval.outcomes.OnAccess.TheVariants as on_access
use Rattle.goal_eval.specs.declared.eval.outcomes.Setting as over
use Rattle.goal_lists.specs.declared.outcomes.Outcome as outcomes
use Rattle.goal_lists.specs.declared.outcomes.Outcome.TheVariants as outcome
use Rattle.goal_lists.specs.declared.outcomes.TraitOutcome as trait_outcomes
use Rattle.goal_lists.specs.declared.outcomes.TraitOutcome.TheVariants as trait_outcome
use Rattle.goal_eval.specs.declared.eval.outcomes.Found as founds
use Rattle.goal_eval.specs.declared.eval.outcomes.Found.TheVariants as found
use Rattle.goal_eval.specs.declared.eval.outcomes.HeaderMatch as matches
use Rattle.goal_eval.specs.declared.eval.outcomes.Projection as projections
use Rattle.goal_eval.specs.declared.eval.outcomes.HeaderMatch.TheVariants as match

-- a run in a mode that isn't of the headline stops where a rule reads the mode
abbrev pub StopsAtModes : OnAccess → TypingMode → Type 0
StopsAtModes on run = (is_headline run ≡ false) × (on ≡ on_access.Stop)

-- a run in a mode goes by the lists of that mode: it is of the headline or the erased one, or goes on where a rule reads the mode
abbrev pub GoesByOwn : OnAccess → TypingMode → Type 0
GoesByOwn on run = (is_headline run ≡ true) ⊎ (is_erased run ≡ true) ⊎ (on ≡ on_access.Record)

-- a run in a mode stands for a mode: for its own, by whose lists it goes; or for one of the headline, where it stops at modes
unfoldable pub RunsAs : OnAccess → TypingMode → TypingMode → Type 0
RunsAs on run m = ((run ≡ m) × GoesByOwn on run) ⊎ ((is_headline m ≡ true) × StopsAtModes on run)

-- so does a run over tables, if they are accepted
abbrev pub RunsOver : OnAccess → TypingMode → Tables → TypingMode → Type 0
RunsOver on run t m = RunsAs on run m × IsChecked t

-- and over a setting
abbrev pub RunsFor : over.Setting → TypingMode → Type 0
RunsFor c m = RunsOver c.on_access c.typing_mode.now c.rows.now m

-- what a run is over, in a mode for which it stands
abbrev pub setting_in : over.Setting → TypingMode → Setting
setting_in c m = setting_of c.rows.now m c.environment.now

-- what trees no higher than a depth prove over that
abbrev pub level_in : over.Setting → TypingMode → ℕ → Level
level_in c m n = level (setting_in c m) n

-- so it is in each mode for which a run stands
abbrev pub ForEachSetting : over.Setting → (Setting → Type 0) → Type 0
ForEachSetting c P = (m : TypingMode) → RunsFor c m → P (setting_in c m)

-- and at the level of a depth there
abbrev pub ForEachMode : over.Setting → ℕ → (Setting → Level → Type 0) → Type 0
ForEachMode c n P = (m : TypingMode) → RunsFor c m → P (setting_in c m) (level_in c m n)

-- an outcome of a question that holds where the first claim does, and is refuted where the second does
abbrev pub Says : Type 0 → Type 0 → outcomes.Outcome → Type 0
Says P R outcome.Holds = P
Says P R outcome.Refuted = R
Says P R outcome.Undecided = (P → ⊥) × (R → ⊥)

-- an outcome of a trait goal that may hold through each class
abbrev pub SaysThrough : (TraitGoalProvenVia → Type 0) → Type 0 → trait_outcomes.TraitOutcome → Type 0
SaysThrough P R (trait_outcome.Holds c) = P c
SaysThrough P R trait_outcome.Refuted = R
SaysThrough P R trait_outcome.Undecided = ((c : TraitGoalProvenVia) → P c → ⊥) × (R → ⊥)

-- what is found of a question that has terms for answers
abbrev pub SaysWhich : (Tree → Type 0) → Type 0 → List Tree → founds.Found → Type 0
SaysWhich P R T (found.Is id) = P (erased_at T id)
SaysWhich P R T found.Refuted = R
SaysWhich P R T found.Undecided = ((u : Tree) → P u → ⊥) × (R → ⊥)

-- what a closed trait goal comes to
abbrev pub SaysTrait : Level → TraitId → List Tree → trait_outcomes.TraitOutcome → Type 0
SaysTrait L id args = SaysThrough (λ c. L.through c id args) (L.trait_refuted id args)

-- what a closed host effect goal comes to
abbrev pub SaysConst : Level → BoundConstness → TraitId → List Tree → outcomes.Outcome → Type 0
SaysConst L c id args = Says (L.const_holds c id args) (L.const_refuted c id args)

-- which term a closed alias has
abbrev pub SaysAlias : Level → AliasTermKind → List Tree → List Tree → founds.Found → Type 0
SaysAlias L kind args = SaysWhich (L.gives kind args) (L.gives_refuted kind args)

-- which head form a term has
abbrev pub SaysForm : Level → Tree → List Tree → founds.Found → Type 0
SaysForm L t = SaysWhich (HasHeadForm L t) (HeadFormRefuted L t)

-- whether two terms are equal
abbrev pub SaysEqual : Level → Tree → Tree → outcomes.Outcome → Type 0
SaysEqual L t u = Says (L.equal t u) (L.unequal t u)

-- whether two lists of terms are equal in pairs
abbrev pub SaysAllEqual : Level → List Tree → List Tree → outcomes.Outcome → Type 0
SaysAllEqual L ts us = Says (Pairs L.equal ts us) (SomePair L.unequal ts us)

-- whether two head forms are the same
abbrev pub SaysSameForm : Level → Tree → Tree → outcomes.Outcome → Type 0
SaysSameForm L f g = Says (SameForm L f g) (OtherForm L f g)

-- whether the goal that an alias and a term are equal holds
abbrev pub SaysEquation : Level → Tree → Tree → outcomes.Outcome → Type 0
SaysEquation L a t = Says (L.equation_holds a t) (L.equation_refuted a t)

-- whether a premise holds
abbrev pub SaysPremise : Level → Premise → outcomes.Outcome → Type 0
SaysPremise L p = Says (PremiseHolds L p) (PremiseRefuted L p)

-- whether all of some premises hold
abbrev pub SaysPremises : Level → List Premise → outcomes.Outcome → Type 0
SaysPremises L ps = Says (PremisesHold L ps) (PremisesRefuted L ps)

-- whether a clause holds
abbrev pub SaysHolds : Level → PredicateTree → outcomes.Outcome → Type 0
SaysHolds L p = Says (ClauseHolds L p) (ClauseRefuted L p)

-- what is found is in the table
abbrev pub FoundIn : List Tree → founds.Found → Type 0
FoundIn T (found.Is id) = IsIn T id
FoundIn T found.Refuted = Unit {0}
FoundIn T found.Undecided = Unit {0}

-- arguments of a header, without lifetimes
abbrev pub header_terms : List GenericArg → List Tree
header_terms args = map erased (trees_of args)

-- what a header comes to
abbrev pub SaysMatch : Level → List ParamKind → List Tree → List Tree → List Tree → matches.HeaderMatch → Type 0
SaysMatch L params hs gs T (match.Fits s) = Fits L params hs gs (erased_all T s.items)
SaysMatch L params hs gs T (match.Known s) =
    AllKnown L params hs gs (erased_all T s.items) × (Fits L params hs gs (erased_all T s.items) → ⊥) × (Clashes L params hs gs → ⊥)
SaysMatch L params hs gs T match.Clashes = Clashes L params hs gs
SaysMatch L params hs gs T match.Unknown = ((s : List Tree) → AllKnown L params hs gs s → ⊥) × (Clashes L params hs gs → ⊥)

-- the terms of a match are in the table
abbrev pub MatchIn : List Tree → matches.HeaderMatch → Type 0
MatchIn T (match.Fits s) = AreIn T s.items
MatchIn T (match.Known s) = AreIn T s.items
MatchIn T match.Clashes = Unit {0}
MatchIn T match.Unknown = Unit {0}

-- a projection as it is asked
abbrev pub projection_at : List Tree → projections.Projection → terms.Projection
projection_at T p = record { item = p.item.now; trait_params = p.trait_params; args = erased_all T p.args.now }

-- its terms are in the table
abbrev pub ProjectionIn : List Tree → projections.Projection → Type 0
ProjectionIn T p = AreIn T p.args.now × IsIn T p.rigid_alias
