-- Running a list of entries over numbers: how far it was run, and what it comes to.
use Rattle.std.specs.Prelude.{◌≡◌, ◌⊎◌, ℕ, Bool, true, false, List, [], ◌∷◌, ◌++◌, map, Option, Some, None, Vec, if◌then◌else◌}
use Rattle.std.specs.Global.{Global}
use Rattle.std.specs.List.{All}
use Rattle.std.specs.Option.{option_map}
use Rattle.goal_terms.specs.Erased.{erased}
use Rattle.goal_terms.specs.Tree.{Tree}
use Rattle.goal_terms.specs.declared.modes.TypingMode.{TypingMode}
use Rattle.goal_terms.specs.declared.modes.TypingMode.TheVariants as mode
use Rattle.goal_interner.specs.declared.term_nodes.TermId.{TermId}
use Rattle.goal_lists.specs.Entries.{Arguments, ExpectedTerm, Entry, Named, NamedKnown, NamesNothing, TermIs, NoTerm, EntriesHold, EntriesRefuted, ListHolds, ListGives, ListRefuted, ListHoldsWith, AsksNoTerm, ListAsksNoTerm}
use Rattle.goal_lists.specs.Interned.{IsIn, AreIn, erased_at, erased_all}
use Rattle.goal_lists.specs.InternedEntries.{header_trees, entry_at, entries_at, list_at}
use Rattle.goal_lists.specs.Level.{Level}
use Rattle.goal_lists.specs.ListModes.{StandsIn, ListStandsIn}
use Rattle.goal_lists.specs.Premises.{Premise, PremisesHold, PremisesRefuted, clauses_under, traits_under, conditions_as}
use Rattle.goal_lists.specs.Settings.{is_headline}
use Rattle.goal_lists.specs.Words.{OfRow}
use Rattle.goal_lists.specs.declared.lists.InternedEntry.{InternedEntry}
use Rattle.goal_lists.specs.declared.lists.RowHeader.{RowHeader}
use Rattle.goal_eval.specs.Combined.{SaysMatched}
use Rattle.goal_eval.specs.Outcomes.{StopsAtModes, RunsFor, level_in, Says, SaysWhich, SaysMatch}
use Rattle.goal_eval.specs.declared.eval.outcomes.OnAccess.{OnAccess}
use Rattle.goal_eval.specs.declared.eval.outcomes.OnAccess.TheVariants as on_access
use Rattle.goal_eval.specs.declared.eval.outcomes.Setting as over
use Rattle.goal_lists.specs.declared.outcomes.Outcome.{Outcome}
use Rattle.goal_lists.specs.declared.outcomes.Outcome.TheVariants as outcome
use Rattle.goal_eval.specs.declared.eval.outcomes.Found.{Found}
use Rattle.goal_eval.specs.declared.eval.outcomes.Found.TheVariants as found
use Rattle.goal_eval.specs.declared.eval.outcomes.HeaderMatch.{HeaderMatch}
use Rattle.goal_eval.specs.declared.eval.outcomes.HeaderMatch.TheVariants as match
use Rattle.goal_eval.specs.declared.eval.lists.ListOutcome.{ListOutcome}
use Rattle.goal_eval.specs.declared.eval.lists.ListOutcome.TheVariants as list
use Rattle.goal_eval.specs.declared.eval.lists.entries.RowPremises.{RowPremises}
use Rattle.goal_eval.specs.declared.eval.lists.entries.RowPremises.TheVariants as row
use Rattle.goal_eval.specs.declared.eval.lists.progress.ListRun.{ListRun}
use Rattle.goal_eval.specs.declared.eval.lists.progress.Reached.{Reached}
use Rattle.goal_eval.specs.declared.eval.lists.progress.Reached.TheVariants as reached

-- the mode whose lists a run goes by: its own; where it stops at accesses and its mode isn't of the headline the erased one, whose lists say where a mode is read
abbrev pub mode_of_lists : OnAccess → TypingMode → TypingMode
mode_of_lists on_access.Stop run = if is_headline run then run else mode.ErasedNotCoherence
mode_of_lists on_access.Record run = run

abbrev pub list_mode : over.Setting → TypingMode
list_mode c = mode_of_lists c.on_access c.typing_mode.now

-- a run's list is that of a mode; where the run stops at modes, as far as it reads none
abbrev pub IsListFor : over.Setting → Option (List Entry) → Option (List Entry) → Type 0
IsListFor c o q = (q ≡ o) ⊎ (StopsAtModes c.on_access c.typing_mode.now × ListStandsIn o q)

-- so it is where a run stops at modes
abbrev pub WhereStopping : over.Setting → Type 0 → Type 0
WhereStopping c P = c.on_access ≡ on_access.Stop → is_headline c.typing_mode.now ≡ false → P

-- each list that a run's list stands for has a property
abbrev pub ForEachList : over.Setting → Option (List Entry) → (Option (List Entry) → Type 0) → Type 0
ForEachList c o P = (q : Option (List Entry)) → IsListFor c o q → P q

-- a list over numbers is one by which a run goes for this list
abbrev pub GoesBy : over.Setting → List Tree → Option (List Entry) → Option (Vec InternedEntry Global) → Type 0
GoesBy c T q = λ o. IsListFor c (list_at T o) q

-- entries over numbers are such a list
abbrev pub AreEntriesOf : over.Setting → List Tree → List Entry → Vec InternedEntry Global → Type 0
AreEntriesOf c T fs = λ es. IsListFor c (Some (entries_at T es.items)) (Some fs)

-- a run's entries are those of a mode's list, in the same way
abbrev pub AreEntriesFor : over.Setting → List Entry → List Entry → Type 0
AreEntriesFor c es fs = (fs ≡ es) ⊎ (StopsAtModes c.on_access c.typing_mode.now × StandsIn es fs)

-- what a list comes to: where it holds and asks for a term, this is the term
abbrev pub SaysList : Level → Option (List Entry) → List Tree → ListOutcome → Type 0
SaysList L o T (list.Holds None) = ListHolds L o × ListAsksNoTerm o
SaysList L o T (list.Holds (Some id)) = ListGives L o (erased_at T id)
SaysList L o T list.Refuted = ListRefuted L o
SaysList L o T list.Undecided = ((t : Tree) → ListHoldsWith L o t → ⊥) × (ListRefuted L o → ⊥)

-- what entries come to, said of each list that they stand for
abbrev pub SaysEntries : over.Setting → List Entry → Level → List Tree → ListOutcome → Type 0
SaysEntries c es L T o = (q : List Entry) → AreEntriesFor c es q → SaysList L (Some q) T o

-- something is so at each level that a run stands for
abbrev pub AtEachLevel : over.Setting → ℕ → (Level → Type 0) → Type 0
AtEachLevel c n P = (m : TypingMode) → RunsFor c m → P (level_in c m n)

-- its term is in the table
abbrev pub ListTermIn : List Tree → ListOutcome → Type 0
ListTermIn T (list.Holds None) = Unit {0}
ListTermIn T (list.Holds (Some id)) = IsIn T id
ListTermIn T list.Refuted = Unit {0}
ListTermIn T list.Undecided = Unit {0}

-- whether a list holds, with whichever term
abbrev pub list_held : ListOutcome → Outcome
list_held (list.Holds o) = outcome.Holds
list_held list.Refuted = outcome.Refuted
list_held list.Undecided = outcome.Undecided

-- which term it gives; none where it asks for none
abbrev pub list_term : ListOutcome → Found
list_term (list.Holds (Some id)) = found.Is id
list_term (list.Holds None) = found.Undecided
list_term list.Refuted = found.Refuted
list_term list.Undecided = found.Undecided

-- lists of arguments, by their numbers
abbrev pub named_at : List Tree → List (Vec TermId Global) → List (List Tree)
named_at T named = map (λ (ids : Vec TermId Global). erased_all T ids.items) named

abbrev pub NamedIn : List Tree → List (Vec TermId Global) → Type 0
NamedIn T named = All (λ (ids : Vec TermId Global). AreIn T ids.items) named

-- how far a list of entries was run: the arguments that were named, whether all entries so far hold, and the term that was found
pub record Progress : Type 0 where
  pub named : List (List Tree)
  pub holds : Bool
  pub term : Option Tree

-- a term that was found, by its number
abbrev pub taken_at : List Tree → Option TermId → Option Tree
taken_at T o = option_map (erased_at T) o

abbrev pub TakenIn : List Tree → Option TermId → Type 0
TakenIn T None = Unit {0}
TakenIn T (Some id) = IsIn T id

-- how far a run is, by the numbers of its terms
abbrev pub progress_at : List Tree → ListRun → Progress
progress_at T r = record { named = named_at T r.named.items; holds = r.holds; term = taken_at T r.term }

abbrev pub RunIn : List Tree → ListRun → Type 0
RunIn T r = NamedIn T r.named.items × TakenIn T r.term

-- where a run begins
abbrev pub at_start : Progress
at_start = record { named = []; holds = true; term = None }

-- a tree may be the term of a run
abbrev pub MayBe : Option Tree → Tree → Type 0
MayBe None t = Unit {0}
MayBe (Some u) t = t ≡ u

-- entries hold under arguments that were named, with a term wherever one is expected
abbrev pub HoldWith : Level → List (List Tree) → Tree → List Entry → Type 0
HoldWith L named t es = EntriesHold L (λ u. u ≡ t) (Unit {0}) named es

-- a list asks for a term where one was found, and else just where its rest does
abbrev pub AsksWith : Option Tree → List Entry → List Entry → Type 0
AsksWith None rest all = (AsksNoTerm rest → AsksNoTerm all) × (AsksNoTerm all → AsksNoTerm rest)
AsksWith (Some u) rest all = AsksNoTerm all → ⊥

-- what is left of a list of entries says the same as the whole list, after so much of a run
pub record IsRunning (L : Level) (p : Progress) (rest all : List Entry) : Type 0 where
  pub refuted : EntriesRefuted L p.named rest → EntriesRefuted L [] all
  pub refuted_back : EntriesRefuted L [] all → EntriesRefuted L p.named rest
  pub holds : p.holds ≡ true → (t : Tree) → MayBe p.term t → HoldWith L p.named t rest → HoldWith L [] t all
  pub holds_back : (t : Tree) → HoldWith L [] t all → (p.holds ≡ true) × MayBe p.term t × HoldWith L p.named t rest
  pub asks : p.holds ≡ true → AsksWith p.term rest all

-- a list of entries holds with no term, and none of them is refuted
abbrev pub IsUnsettled : Level → List Entry → Type 0
IsUnsettled L es = ((t : Tree) → HoldWith L [] t es → ⊥) × (EntriesRefuted L [] es → ⊥)

-- where what is left of a list leads: to its rest, or to what the whole list comes to
abbrev pub Leads : Level → Progress → List Entry → List Entry → List Entry → Progress → Reached → Type 0
Leads L p left rest all q reached.Next = IsRunning L p left all → IsRunning L q rest all
Leads L p left rest all q reached.Refuted = IsRunning L p left all → EntriesRefuted L [] all
Leads L p left rest all q reached.Undecided = IsRunning L p left all → IsUnsettled L all

-- where an entry leads, whatever comes before and behind it
abbrev pub LeadsOn : Level → Progress → Entry → Progress → Reached → Type 0
LeadsOn L p e q r = (rest all : List Entry) → Leads L p (e ∷ rest) rest all q r

-- a run over a list of entries, and the table that has its terms
pub record RunState : Type 0 where
  pub terms : List Tree
  pub run : ListRun

abbrev pub run_state : List Tree → ListRun → RunState
run_state T r = record { terms = T; run = r }

-- where an entry leads a run, by the numbers of their terms
abbrev pub RunsOn : Level → RunState → InternedEntry → RunState → Reached → Type 0
RunsOn L r e s q = LeadsOn L (progress_at r.terms r.run) (entry_at r.terms e) (progress_at s.terms s.run) q

-- what arguments that an entry names come to
abbrev pub SaysNamed : Level → List (List Tree) → Arguments → List Tree → HeaderMatch → Type 0
SaysNamed L named a T r = SaysMatched (Named L named a) (NamedKnown L named a) (NamesNothing L named a) T r

-- what is found of an expected term
abbrev pub SaysTerm : Level → List (List Tree) → ExpectedTerm → List Tree → Found → Type 0
SaysTerm L named e T f = SaysWhich (TermIs L named e) (NoTerm L named e) T f

-- what a match of a row's header with given arguments comes to
abbrev pub SaysHeader : Level → RowHeader → List Tree → List Tree → HeaderMatch → Type 0
SaysHeader L h gs T r = SaysMatch L h.params.now (map erased (header_trees h.terms)) gs T r

-- arguments that were named, if they were, by their numbers
abbrev pub numbered_at : List Tree → Option (List TermId) → Option (List Tree)
numbered_at T o = option_map (erased_all T) o

-- what a row asks for under arguments
abbrev pub premises_of : RowPremises → List Tree → List Premise
premises_of (row.Clauses cs) s = clauses_under s cs.now
premises_of (row.Conditions c rs) s = conditions_as c (traits_under s rs.now)

-- what that comes to; where no arguments were named, it is undecided
abbrev pub SaysRow : Level → RowPremises → Option (List Tree) → Outcome → Type 0
SaysRow L w o r = Says (OfRow o (λ s. PremisesHold L (premises_of w s))) (OfRow o (λ s. PremisesRefuted L (premises_of w s))) r

-- the first of two terms where something holds, the second where it is refuted
abbrev pub chosen_term : Outcome → TermId → TermId → Found
chosen_term outcome.Holds a b = found.Is a
chosen_term outcome.Refuted a b = found.Is b
chosen_term outcome.Undecided a b = found.Undecided

-- a run after an entry that has to hold
abbrev pub run_asking : Outcome → ListRun → ListRun
run_asking outcome.Holds r = r
run_asking outcome.Refuted r = r
run_asking outcome.Undecided r = record r { holds = false }

abbrev pub reached_asking : Outcome → Reached
reached_asking outcome.Holds = reached.Next
reached_asking outcome.Refuted = reached.Refuted
reached_asking outcome.Undecided = reached.Next

-- a run after a term: the first one is taken, and another one leaves the list undecided
abbrev pub TakesOn : List Tree → TermId → Option TermId → ListRun → ListRun → Type 0
TakesOn T id None a b = b ≡ record a { term = Some id }
TakesOn T id (Some x) a b =
    ((erased_at T x ≡ erased_at T id) × (b ≡ a)) ⊎ ((erased_at T x ≡ erased_at T id → ⊥) × (b ≡ record a { holds = false }))

abbrev pub GivesOn : List Tree → Found → ListRun → ListRun → Type 0
GivesOn T (found.Is id) a b = TakesOn T id a.term a b
GivesOn T found.Refuted a b = b ≡ a
GivesOn T found.Undecided a b = b ≡ record a { holds = false }

abbrev pub reached_giving : Found → Reached
reached_giving (found.Is id) = reached.Next
reached_giving found.Refuted = reached.Refuted
reached_giving found.Undecided = reached.Next

-- a run after an entry that names arguments: these come last
abbrev pub NamesOn : HeaderMatch → ListRun → ListRun → Reached → Type 0
NamesOn (match.Fits s) a b r = (r ≡ reached.Next) × (b.named.items ≡ a.named.items ++ s ∷ []) × (b.holds ≡ a.holds) × (b.term ≡ a.term)
NamesOn (match.Known s) a b r = (r ≡ reached.Next) × (b.named.items ≡ a.named.items ++ s ∷ []) × (b.holds ≡ false) × (b.term ≡ a.term)
NamesOn match.Clashes a b r = (r ≡ reached.Refuted) × (b ≡ a)
NamesOn match.Unknown a b r = (r ≡ reached.Undecided) × (b ≡ a)
