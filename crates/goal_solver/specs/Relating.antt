-- What equating terms says, and what it does to a context.
use Rattle.std.specs.Prelude.{◌≡◌, ◌≢◌, ◌<◌, ℕ, true, false, List, ◌∷◌, length, map, Result, Ok, Err, OnOk}
use Rattle.std.specs.List.{list_any}
use Rattle.goal_terms.specs.NodeTests.{is_any_infer, some_node}
use Rattle.goal_terms.specs.Erased.{erased}
use Rattle.goal_terms.specs.Tree.{Tree}
use Rattle.goal_terms.specs.declared.answers.Certainty.{Certainty}
use Rattle.goal_terms.specs.declared.answers.Certainty.TheVariants as certainty
use Rattle.goal_terms.specs.declared.heads.Variable.{Variable}
use Rattle.goal_terms.specs.declared.modes.TypingMode.{TypingMode}
use Rattle.goal_terms.specs.declared.modes.TypingMode.TheVariants as mode
use Rattle.goal_terms.specs.declared.predicates.Clause.{Clause}
use Rattle.goal_tables.specs.Predicates.{some_in_env}
use Rattle.goal_infer.specs.Inference.{Inference}
use Rattle.goal_infer.specs.RegionEquations.{equated}
use Rattle.goal_infer.specs.ListUnification.{lists_are_plain, AllClosed}
use Rattle.goal_infer.specs.Replacement.{replaced, OfKinds}
use Rattle.goal_infer.specs.Resolution.{resolution, Agrees}
use Rattle.goal_infer.specs.Unification.{is_open}
use Rattle.goal_lists.specs.Answers.{setting_of}
use Rattle.goal_lists.specs.Level.{Level}
use Rattle.goal_lists.specs.Levels.{level}
use Rattle.goal_lists.specs.Words.{Pairs, SomePair}
use Rattle.goal_solver.specs.Answers.{IsOwed, IsOwedBeyond}
use Rattle.goal_eval.specs.Outcomes.{Says}
use Rattle.goal_solver.specs.State.{State, kinds_of}
use Rattle.goal_kinds.specs.declared.faults.Fault.{Fault}
use Rattle.goal_kinds.specs.declared.faults.Fault.TheVariants as fault
use Rattle.goal_lists.specs.declared.outcomes.Outcome.{Outcome}
use Rattle.goal_lists.specs.declared.outcomes.Outcome.TheVariants as outcome
use Rattle.goal_interner.specs.declared.term_nodes.TermId.{TermId}
use Rattle.goal_lists.specs.Interned.{erased_at, erased_all}
use Rattle.goal_interner.specs.TableMeaning.{tree_at}

-- a replacement of the variables of a context by trees agrees with what they are bound to
abbrev pub AgreesWith : State → (Variable → Tree) → Type 0
AgreesWith s ρ = Agrees s.terms s.inference ρ

-- terms with trees put for their variables
abbrev pub all_replaced : (Variable → Tree) → List Tree → List Tree
all_replaced ρ ts = map (replaced ρ) ts

-- terms with the bindings of a context followed
abbrev pub all_bound : State → List Tree → List Tree
all_bound s ts = all_replaced (resolution s.terms s.inference) ts

-- a replacement makes two lists of terms identical
abbrev pub Identifies : (Variable → Tree) → List Tree → List Tree → Type 0
Identifies ρ ts us = all_replaced ρ ts ≡ all_replaced ρ us

-- no alias, and no variable that wasn't made, stands in terms whose bindings are followed
abbrev pub AreDefinite : State → List Tree → Type 0
AreDefinite s ts = list_any (some_node (is_open (kinds_of s))) (all_bound s ts) ≡ false

-- terms and their environment hold no inference variables
abbrev pub AreClosedSides : List Clause → List Tree → List Tree → Type 0
AreClosedSides env ts us = (some_in_env is_any_infer env ≡ false) × AllClosed ts × AllClosed us

-- what two lists of terms come to: that they are equal in pairs, that a pair is unequal, or neither
abbrev pub SaysEqual : Level → List Tree → List Tree → Outcome → Type 0
SaysEqual L ts us o = Says (Pairs L.equal ts us) (SomePair L.unequal ts us) o

-- what an outcome of equating says of replacements: after `Holds` those that agree make the lists equal, after `Refuted` none made them identical;
-- what agrees afterwards agreed before, and where they can be made identical this is still so
pub record IsRelated (old new : State) (env : List Clause) (ts us : List Tree) (n : ℕ) (o : Outcome) : Type 0 where
  pub equal : o ≡ outcome.Holds → (m : TypingMode) → IsOwed new m → (ρ : Variable → Tree) → AgreesWith new ρ →
      Pairs (level (setting_of old.tables m env) n).equal (all_replaced ρ ts) (all_replaced ρ us)
  pub never : o ≡ outcome.Refuted → (ρ : Variable → Tree) → OfKinds ρ → AgreesWith old ρ → Identifies ρ ts us → ⊥
  pub agreed : (ρ : Variable → Tree) → AgreesWith new ρ → AgreesWith old ρ
  pub kept : o ≢ outcome.Refuted → (ρ : Variable → Tree) → AgreesWith old ρ → Identifies ρ ts us → AgreesWith new ρ
  pub identified : o ≡ outcome.Holds → AreDefinite old ts → AreDefinite old us → (ρ : Variable → Tree) → AgreesWith new ρ → Identifies ρ ts us
  pub plain : lists_are_plain (kinds_of old) (all_bound old ts) (all_bound old us) ≡ true → o ≢ outcome.Undecided
  pub same : all_bound old ts ≡ all_bound old us → (o ≡ outcome.Holds) × (new.inference ≡ old.inference)
  pub closed : AreClosedSides env ts us → (m : TypingMode) → IsOwedBeyond new m → SaysEqual (level (setting_of old.tables m env) n) ts us o × (new.inference ≡ old.inference)

-- only terms and inference state change
abbrev pub ChangesInference : State → State → Type 0
ChangesInference old new = new ≡ record old { terms = new.terms; inference = new.inference }

-- and what is recorded
abbrev pub ChangesRecords : State → State → Type 0
ChangesRecords old new = new ≡ record old { terms = new.terms; inference = new.inference; accesses = new.accesses; delayed_faults = new.delayed_faults }

-- the answer to whether two lists are equal in pairs is justified
abbrev pub IsEqualAnswer : Level → List Tree → List Tree → Result Certainty Fault → Type 0
IsEqualAnswer L ts us (Ok certainty.Yes) = Pairs L.equal ts us
IsEqualAnswer L ts us (Ok certainty.Maybe) = Unit {0}
IsEqualAnswer L ts us (Err fault.NoSolution) = SomePair L.unequal ts us
IsEqualAnswer L ts us (Err f) = Unit {0}

-- two lists are neither equal in pairs nor unequal
abbrev pub AreUndecided : Level → List Tree → List Tree → Type 0
AreUndecided L ts us = (Pairs L.equal ts us → ⊥) × (SomePair L.unequal ts us → ⊥)

-- an answer that decides nothing
abbrev pub LeavesOpen : Result Certainty Fault → Type 0
LeavesOpen (Ok certainty.Yes) = ⊥
LeavesOpen (Ok certainty.Maybe) = Unit {0}
LeavesOpen (Err f) = ⊥

-- an answer that says yes
abbrev pub SaysYes : Result Certainty Fault → Type 0
SaysYes (Ok certainty.Yes) = Unit {0}
SaysYes (Ok certainty.Maybe) = ⊥
SaysYes (Err f) = ⊥

-- an answer that refuses
abbrev pub Refuses : Result Certainty Fault → Type 0
Refuses (Err fault.NoSolution) = Unit {0}
Refuses _ = ⊥

-- a fault that an answer may be: to be run again only in the erased mode, and with an access recorded; never that the goal is of another kind
abbrev pub IsFaultFor : {T : Type 0} → State → State → Result T Fault → Type 0
IsFaultFor before after (Ok r) = Unit {0}
IsFaultFor before after (Err fault.RerunNonErased) = (before.typing_mode ≡ mode.ErasedNotCoherence) × (0 < length after.accesses)
IsFaultFor before after (Err fault.NotForThisKind) = ⊥
IsFaultFor before after (Err f) = Unit {0}

-- inference state with the region equations of pairs of terms, in order
unfoldable pub all_equated : List Tree → List Tree → Inference → Inference
all_equated (t ∷ ts) (u ∷ us) s = all_equated ts us (equated t u s)
all_equated ts us s = s

-- two lists of terms are the same, lifetimes aside
abbrev pub AreIdentical : List Tree → List Tree → Type 0
AreIdentical ts us = map erased ts ≡ map erased us

-- where two lists of terms are the same, lifetimes aside, the equations of their lifetimes are added
abbrev pub EquatesIdentical : {A E : Type 0} → State → List Tree → List Tree → Result A E → State → Type 0
EquatesIdentical old ts us r new = AreIdentical ts us → OnOk r (new.inference ≡ all_equated ts us old.inference)

-- so it is of two terms
abbrev pub EquatesPair : {A E : Type 0} → State → TermId → TermId → Result A E → State → Type 0
EquatesPair old left right r new =
    erased_at old.terms left ≡ erased_at old.terms right → OnOk r (new.inference ≡ equated (tree_at old.terms left) (tree_at old.terms right) old.inference)

-- the terms of numbers, with the bindings of a context followed
abbrev pub bound_at : State → List TermId → List Tree
bound_at s ids = all_bound s (erased_all s.terms ids)
