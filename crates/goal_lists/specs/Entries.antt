-- The entries of a rule's list, and what a list says one height above a level. What a goal has is without lifetimes; what a row has is as it stands there.
use Rattle.std.specs.Prelude.{◌≡◌, ◌⊎◌, ℕ, List, [], ◌∷◌, ◌++◌, map, Option, Some, None, IfSome, slice_get}
use Rattle.goal_terms.specs.Erased.{erased}
use Rattle.goal_terms.specs.PredicateTrees.{PredicateTree}
use Rattle.goal_terms.specs.Tree.{Tree}
use Rattle.goal_terms.specs.declared.answers.DelayedFault.{DelayedFault}
use Rattle.goal_terms.specs.declared.answers.GoalSource.{GoalSource}
use Rattle.goal_terms.specs.declared.answers.OpaqueAccess.{OpaqueAccess}
use Rattle.goal_terms.specs.declared.answers.ParamKind.{ParamKind}
use Rattle.goal_terms.specs.declared.ids.OpaqueId.{OpaqueId}
use Rattle.goal_terms.specs.declared.predicates.BoundConstness.{BoundConstness}
use Rattle.goal_terms.specs.declared.predicates.Clause.{Clause}
use Rattle.goal_terms.specs.declared.predicates.TraitRef.{TraitRef}
use Rattle.goal_lists.specs.Headers.{under, AllKnown, Fits, Clashes}
use Rattle.goal_lists.specs.HiddenTypes.{HiddenGives, HiddenRefuted}
use Rattle.goal_lists.specs.Level.{Level, HasHeadForm, HeadFormRefuted}
use Rattle.goal_lists.specs.Premises.{Premise, predicate, equation, ClauseHolds, ClauseRefuted, PremisesHold, PremisesRefuted, clauses_under, traits_under, conditions_as}
use Rattle.goal_lists.specs.Words.{OfRow, Pairs, SomePair}
use Rattle.goal_lists.specs.declared.lists.FirstUse.{FirstUse}

-- arguments that later entries take; those that are named are counted from 0
pub data Arguments : Type 0 where
  -- these, as they stand
  given_arguments : List Tree → Arguments
  -- those of a row's header, with its parameters and its terms, which is matched with given arguments
  of_header : List ParamKind → List Tree → List Tree → Arguments
  -- those of another impl's header, which is matched with the terms of a row's header under the arguments of a number
  of_other_header : List ParamKind → List Tree → List Tree → ℕ → Arguments
  -- those of a number, and own ones behind them
  followed_by : ℕ → List Tree → Arguments

-- what the expected term is
pub data ExpectedTerm : Type 0 where
  -- this term, as it stands
  as_it_stands : Tree → ExpectedTerm
  -- the head form of this term
  head_form_of : Tree → ExpectedTerm
  -- the head form of a row's value under the arguments of a number
  value_under : Tree → ℕ → ExpectedTerm
  -- the first of two terms where a clause holds, the second where it is refuted
  chosen_by : PredicateTree → Tree → Tree → ExpectedTerm
  -- the hidden type of an opaque type that is being defined, by its arguments as they are given, with the type that type checking found for it and its bounds, as the row has them
  hidden_type : OpaqueId → List Tree → FirstUse → Tree → List Clause → ExpectedTerm

-- one thing that a rule asks for, or leaves behind
pub data Entry : Type 0 where
  -- arguments are named
  arguments : Arguments → Entry
  -- two lists of terms are equal, in pairs
  equal_terms : List Tree → List Tree → Entry
  -- a clause holds
  clause : GoalSource → PredicateTree → Entry
  -- the clauses of a row hold, under the arguments of a number
  row_clauses : List Clause → ℕ → Entry
  -- the const conditions of a row hold with a constness, under the arguments of a number
  row_conditions : BoundConstness → List TraitRef → ℕ → Entry
  -- the goal's expected term
  expected : ExpectedTerm → Entry
  -- an access to an opaque type is recorded
  access : OpaqueAccess → Entry
  -- a delayed fault is recorded
  delayed_fault : DelayedFault → Entry
  -- what was asked for so far is evaluated before the rest is
  evaluation : Entry
  -- the goal that is always ambiguous
  ambiguous : Entry
  -- nothing decides the rule here
  undecided : Entry
  -- the rule doesn't stand
  refused : Entry

-- the arguments of a number, among those that were named, have a property
abbrev pub OfNumbered : List (List Tree) → ℕ → (List Tree → Type 0) → Type 0
OfNumbered named n P = OfRow (slice_get named n) P

-- an entry names a list of arguments: a match fits
unfoldable pub Named : Level → List (List Tree) → Arguments → List Tree → Type 0
Named L named (given_arguments args) s = s ≡ args
Named L named (of_header params hs gs) s = Fits L params (map erased hs) gs s
Named L named (of_other_header params hs gs n) s = OfNumbered named n (λ z. Fits L params (map erased hs) (map (under z) (map erased gs)) s)
Named L named (followed_by n own) s = OfNumbered named n (λ z. s ≡ z ++ own)

-- the list that it names is known: a match has all parameters known
unfoldable pub NamedKnown : Level → List (List Tree) → Arguments → List Tree → Type 0
NamedKnown L named (given_arguments args) s = s ≡ args
NamedKnown L named (of_header params hs gs) s = AllKnown L params (map erased hs) gs s
NamedKnown L named (of_other_header params hs gs n) s = OfNumbered named n (λ z. AllKnown L params (map erased hs) (map (under z) (map erased gs)) s)
NamedKnown L named (followed_by n own) s = OfNumbered named n (λ z. s ≡ z ++ own)

-- it names nothing: a match clashes
unfoldable pub NamesNothing : Level → List (List Tree) → Arguments → Type 0
NamesNothing L named (given_arguments args) = ⊥
NamesNothing L named (of_header params hs gs) = Clashes L params (map erased hs) gs
NamesNothing L named (of_other_header params hs gs n) = OfNumbered named n (λ z. Clashes L params (map erased hs) (map (under z) (map erased gs)))
NamesNothing L named (followed_by n own) = ⊥

-- the expected term is a term; there is none
unfoldable pub TermIs : Level → List (List Tree) → ExpectedTerm → Tree → Type 0
TermIs L named (as_it_stands t) u = u ≡ t
TermIs L named (head_form_of t) u = HasHeadForm L t u
TermIs L named (value_under t n) u = OfNumbered named n (λ s. HasHeadForm L (under s t) u)
TermIs L named (chosen_by p t v) u = (ClauseHolds L p × (u ≡ t)) ⊎ (ClauseRefuted L p × (u ≡ v))
TermIs L named (hidden_type i args f t bounds) u = HiddenGives L f args t bounds u

unfoldable pub NoTerm : Level → List (List Tree) → ExpectedTerm → Type 0
NoTerm L named (as_it_stands t) = ⊥
NoTerm L named (head_form_of t) = HeadFormRefuted L t
NoTerm L named (value_under t n) = OfNumbered named n (λ s. HeadFormRefuted L (under s t))
NoTerm L named (chosen_by p t v) = ⊥
NoTerm L named (hidden_type i args f t bounds) = HiddenRefuted L f args t bounds

-- all entries hold, with an expected term that is as said; of a list that has none something else must be so
unfoldable pub EntriesHold : Level → (Tree → Type 0) → Type 0 → List (List Tree) → List Entry → Type 0
EntriesHold L Said Unsaid named [] = Unsaid
EntriesHold L Said Unsaid named (arguments a ∷ es) = (s : List Tree) × Named L named a s × EntriesHold L Said Unsaid (named ++ s ∷ []) es
EntriesHold L Said Unsaid named (equal_terms ts us ∷ es) = Pairs L.equal ts us × EntriesHold L Said Unsaid named es
EntriesHold L Said Unsaid named (clause g p ∷ es) = ClauseHolds L p × EntriesHold L Said Unsaid named es
EntriesHold L Said Unsaid named (row_clauses cs n ∷ es) = OfNumbered named n (λ s. PremisesHold L (clauses_under s cs)) × EntriesHold L Said Unsaid named es
EntriesHold L Said Unsaid named (row_conditions c rs n ∷ es) =
    OfNumbered named n (λ s. PremisesHold L (conditions_as c (traits_under s rs))) × EntriesHold L Said Unsaid named es
EntriesHold L Said Unsaid named (expected e ∷ es) = ((u : Tree) × TermIs L named e u × Said u) × EntriesHold L Said (Unit {0}) named es
EntriesHold L Said Unsaid named (access a ∷ es) = EntriesHold L Said Unsaid named es
EntriesHold L Said Unsaid named (delayed_fault f ∷ es) = EntriesHold L Said Unsaid named es
EntriesHold L Said Unsaid named (evaluation ∷ es) = EntriesHold L Said Unsaid named es
EntriesHold L Said Unsaid named (ambiguous ∷ es) = ⊥
EntriesHold L Said Unsaid named (undecided ∷ es) = ⊥
EntriesHold L Said Unsaid named (refused ∷ es) = ⊥

-- an entry is refuted, and what was named before it is known
unfoldable pub EntriesRefuted : Level → List (List Tree) → List Entry → Type 0
EntriesRefuted L named [] = ⊥
EntriesRefuted L named (arguments a ∷ es) = NamesNothing L named a ⊎ ((s : List Tree) × NamedKnown L named a s × EntriesRefuted L (named ++ s ∷ []) es)
EntriesRefuted L named (equal_terms ts us ∷ es) = SomePair L.unequal ts us ⊎ EntriesRefuted L named es
EntriesRefuted L named (clause g p ∷ es) = ClauseRefuted L p ⊎ EntriesRefuted L named es
EntriesRefuted L named (row_clauses cs n ∷ es) = OfNumbered named n (λ s. PremisesRefuted L (clauses_under s cs)) ⊎ EntriesRefuted L named es
EntriesRefuted L named (row_conditions c rs n ∷ es) =
    OfNumbered named n (λ s. PremisesRefuted L (conditions_as c (traits_under s rs))) ⊎ EntriesRefuted L named es
EntriesRefuted L named (expected e ∷ es) = NoTerm L named e ⊎ EntriesRefuted L named es
EntriesRefuted L named (access a ∷ es) = EntriesRefuted L named es
EntriesRefuted L named (delayed_fault f ∷ es) = EntriesRefuted L named es
EntriesRefuted L named (evaluation ∷ es) = EntriesRefuted L named es
EntriesRefuted L named (ambiguous ∷ es) = EntriesRefuted L named es
EntriesRefuted L named (undecided ∷ es) = EntriesRefuted L named es
EntriesRefuted L named (refused ∷ es) = Unit {0}

-- the list of a rule, if that isn't refused, holds: all of its entries do
unfoldable pub ListHolds : Level → Option (List Entry) → Type 0
ListHolds L None = ⊥
ListHolds L (Some es) = EntriesHold L (λ u. Unit {0}) (Unit {0}) [] es

-- it gives a term: it holds with that expected term, and has one
unfoldable pub ListGives : Level → Option (List Entry) → Tree → Type 0
ListGives L None t = ⊥
ListGives L (Some es) t = EntriesHold L (λ u. u ≡ t) ⊥ [] es

-- it is refuted: it is refused, or one of its entries is refuted
unfoldable pub ListRefuted : Level → Option (List Entry) → Type 0
ListRefuted L None = Unit {0}
ListRefuted L (Some es) = EntriesRefuted L [] es

-- premises that are asked for, each as an entry
abbrev pub premise_entry : GoalSource → Premise → Entry
premise_entry g (predicate p) = clause g p
premise_entry g (equation t u) = equal_terms (t ∷ []) (u ∷ [])

abbrev pub premise_entries : GoalSource → List Premise → List Entry
premise_entries g ps = map (premise_entry g) ps

-- no term is expected by an entry, and by a list
abbrev pub ExpectsNone : Entry → Type 0
ExpectsNone (expected e) = ⊥
ExpectsNone _ = Unit {0}

unfoldable pub AsksNoTerm : List Entry → Type 0
AsksNoTerm [] = Unit {0}
AsksNoTerm (e ∷ es) = ExpectsNone e × AsksNoTerm es

abbrev pub ListAsksNoTerm : Option (List Entry) → Type 0
ListAsksNoTerm o = IfSome o AsksNoTerm

-- all entries of a list hold with a term, wherever one is expected
unfoldable pub ListHoldsWith : Level → Option (List Entry) → Tree → Type 0
ListHoldsWith L None t = ⊥
ListHoldsWith L (Some es) t = EntriesHold L (λ u. u ≡ t) (Unit {0}) [] es
