-- What evaluating the goals that were added says.
use Rattle.std.specs.Prelude.{◌≡◌, ◌<◌, ◌⊎◌, ℕ, ◌+◌, zero, suc, List, [], ◌∷◌, ◌++◌, length, Option, Some, None, Result, Ok, Err, slice_get, IfOk, ◌||◌, false}
use Rattle.std.specs.List.{Contains}
use Rattle.goal_terms.specs.Erased.{erased}
use Rattle.goal_terms.specs.PredicateTrees.{holds, equals, holds_const}
use Rattle.goal_terms.specs.Sorts.{IsTerm}
use Rattle.goal_terms.specs.Tree.{Tree}
use Rattle.goal_terms.specs.TreeOf.{tree_of_alias, tree_of_term}
use Rattle.goal_terms.specs.declared.answers.Certainty.{Certainty}
use Rattle.goal_terms.specs.declared.answers.Certainty.TheVariants as certainty
use Rattle.goal_terms.specs.declared.answers.GoalSource.{GoalSource}
use Rattle.goal_terms.specs.declared.modes.TypingMode.{TypingMode}
use Rattle.goal_terms.specs.declared.predicates.Clause.{Clause}
use Rattle.goal_terms.specs.declared.predicates.Goal.{Goal}
use Rattle.goal_terms.specs.declared.predicates.Predicate.{Predicate}
use Rattle.goal_terms.specs.declared.predicates.Predicate.TheVariants as predicate
use Rattle.goal_terms.specs.declared.terms.Term.{Term}
use Rattle.goal_lists.specs.Level.{Level}
use Rattle.goal_lists.specs.Premises.{ClauseHolds, ClauseRefuted}
use Rattle.goal_eval.specs.ErasedArgs.{erased_args}
use Rattle.goal_solver.specs.Answers.{IsOwed, IsStopped, level_over, AreClosed, IsClosedEquation}
use Rattle.goal_solver.specs.Normalizing.{IsNormalizable, KeepsAll, BindsOutcome, TakesTerm}
use Rattle.goal_solver.specs.State.{State}
use Rattle.goal_kinds.specs.declared.faults.Fault.{Fault}
use Rattle.goal_kinds.specs.declared.faults.Fault.TheVariants as fault
use Rattle.goal_lists.specs.declared.outcomes.Outcome.{Outcome}
use Rattle.goal_lists.specs.declared.outcomes.Outcome.TheVariants as outcome
use Rattle.goal_eval.specs.declared.eval.outcomes.Stop.{Stop}
use Rattle.goal_terms.specs.NodeTests.{is_any_infer}
use Rattle.goal_tables.specs.Predicates.{some_in_predicate, some_in_env}
use Rattle.goal_eval.specs.Outcomes.{Says}

-- a goal's predicate holds, by the goals of a level; one that is ambiguous doesn't
abbrev pub GoalHolds : Level → Predicate → Type 0
GoalHolds L (predicate.Trait q) = ClauseHolds L (holds q.trait_ref.def_id (erased_args q.trait_ref.args.items))
GoalHolds L (predicate.Projection q) = ClauseHolds L (equals (erased (tree_of_alias q.projection_term)) (erased (tree_of_term q.term)))
GoalHolds L (predicate.HostEffect q) = ClauseHolds L (holds_const q.constness q.trait_ref.def_id (erased_args q.trait_ref.args.items))
GoalHolds L (predicate.NormalizesTo q) = (t : Tree) × IsTerm t × L.gives q.alias.kind (erased_args q.alias.args.items) t
GoalHolds L predicate.Ambiguous = ⊥

-- a goal's predicate is refuted; one that is ambiguous isn't
abbrev pub GoalRefuted : Level → Predicate → Type 0
GoalRefuted L (predicate.Trait q) = ClauseRefuted L (holds q.trait_ref.def_id (erased_args q.trait_ref.args.items))
GoalRefuted L (predicate.Projection q) = ClauseRefuted L (equals (erased (tree_of_alias q.projection_term)) (erased (tree_of_term q.term)))
GoalRefuted L (predicate.HostEffect q) = ClauseRefuted L (holds_const q.constness q.trait_ref.def_id (erased_args q.trait_ref.args.items))
GoalRefuted L (predicate.NormalizesTo q) = L.gives_refuted q.alias.kind (erased_args q.alias.args.items)
GoalRefuted L predicate.Ambiguous = ⊥

-- a goal of a trait, a const trait or an alias's term holds no inference variable, and neither does its environment; one that is ambiguous counts as such, one that an
-- alias normalizes to a variable doesn't
abbrev pub IsClosedGoal : Predicate → List Clause → Type 0
IsClosedGoal (predicate.Trait q) env = AreClosed q.trait_ref.args.items env
IsClosedGoal (predicate.Projection q) env = IsClosedEquation q.projection_term q.term env
IsClosedGoal (predicate.HostEffect q) env = AreClosed q.trait_ref.args.items env
IsClosedGoal (predicate.NormalizesTo q) env = ⊥
IsClosedGoal predicate.Ambiguous env = Unit {0}

-- a goal is answered exactly: it is closed, or a closed alias is to be normalized to a free variable
abbrev pub IsAnswerable : State → Predicate → List Clause → Type 0
IsAnswerable s (predicate.Trait q) env = IsClosedGoal (predicate.Trait q) env
IsAnswerable s (predicate.Projection q) env = IsClosedGoal (predicate.Projection q) env
IsAnswerable s (predicate.HostEffect q) env = IsClosedGoal (predicate.HostEffect q) env
IsAnswerable s (predicate.NormalizesTo q) env = IsNormalizable s q env
IsAnswerable s predicate.Ambiguous env = IsClosedGoal predicate.Ambiguous env

-- the term to which a goal normalizes its alias
abbrev pub expected_in : Predicate → Option Term
expected_in (predicate.NormalizesTo q) = Some q.term
expected_in _ = None

-- where a goal holds no variable is bound but the one to which it normalizes its alias, and this to a term of the alias
abbrev pub BindsItsOwn : Level → Predicate → State → State → Type 0
BindsItsOwn L (predicate.NormalizesTo q) old new = BindsOutcome L q old outcome.Holds new
BindsItsOwn L _ old new = KeepsAll old new

-- and where it is undecided none is
abbrev pub BindsFor : Level → Predicate → Result Certainty Fault → State → State → Type 0
BindsFor L p (Ok certainty.Yes) old new = BindsItsOwn L p old new
BindsFor L p (Ok certainty.Maybe) old new = KeepsAll old new
BindsFor L p (Err f) old new = Unit {0}

-- so it is by what a goal comes to
abbrev pub BindsAsked : Level → Predicate → State → Result Outcome Stop → State → Type 0
BindsAsked L (predicate.NormalizesTo q) old r new = IfOk r (λ o. BindsOutcome L q old o new)
BindsAsked L _ old r new = IfOk r (λ o. KeepsAll old new)

-- the variable to which a goal normalizes its alias is bound to a term of the alias
abbrev pub TakesIts : Level → Predicate → State → Type 0
TakesIts L (predicate.NormalizesTo q) s = TakesTerm L q s
TakesIts L _ s = Unit {0}

-- a goal holds, or is refuted, at the depth that is left, under its own environment
abbrev pub HoldsIn : State → TypingMode → Goal Predicate → Type 0
HoldsIn s m g = GoalHolds (level_over s m g.param_env.items) g.predicate

abbrev pub IsRefutedIn : State → TypingMode → Goal Predicate → Type 0
IsRefutedIn s m g = GoalRefuted (level_over s m g.param_env.items) g.predicate

-- an answer to one goal is justified, and undecided only where it neither holds nor is refuted
abbrev pub IsGoalAnswer : State → TypingMode → Goal Predicate → Result Certainty Fault → Type 0
IsGoalAnswer s m g (Ok certainty.Yes) = HoldsIn s m g
IsGoalAnswer s m g (Ok certainty.Maybe) = (HoldsIn s m g → ⊥) × (IsRefutedIn s m g → ⊥)
IsGoalAnswer s m g (Err fault.NoSolution) = IsRefutedIn s m g
IsGoalAnswer s m g (Err f) = Unit {0}

-- the answer to a goal that holds or not, by its outcome
abbrev pub IsVerdict : Result Outcome Stop → Result Certainty Fault → Type 0
IsVerdict (Ok outcome.Holds) r = r ≡ Ok certainty.Yes
IsVerdict (Ok outcome.Refuted) r = r ≡ Err fault.NoSolution
IsVerdict (Ok outcome.Undecided) r = r ≡ Ok certainty.Maybe
IsVerdict (Err s) r = IsStopped r

-- the goal at a place was added and not taken out
abbrev pub IsPending : State → ℕ → (GoalSource × Goal Predicate) → Type 0
IsPending s i p = (slice_get s.goals i ≡ Some p) × (Contains s.taken i → ⊥)

-- all that are pending are closed
abbrev pub ArePendingClosed : State → Type 0
ArePendingClosed s = (i : ℕ) (p : GoalSource × Goal Predicate) → IsPending s i p → IsClosedGoal p.1.predicate p.1.param_env.items

-- all that are pending are answered exactly, and no two of them normalize to one variable
pub record ArePendingAnswerable (s : State) : Type 0 where
  pub each : (i : ℕ) (p : GoalSource × Goal Predicate) → IsPending s i p → IsAnswerable s p.1.predicate p.1.param_env.items
  pub apart : (i j : ℕ) (p q : GoalSource × Goal Predicate) (e f : Term) → IsPending s i p → IsPending s j q →
      expected_in p.1.predicate ≡ Some e → expected_in q.1.predicate ≡ Some f → tree_of_term e ≡ tree_of_term f → i ≡ j

-- all that are pending hold
abbrev pub AllPendingHold : State → TypingMode → Type 0
AllPendingHold s m = (i : ℕ) (p : GoalSource × Goal Predicate) → IsPending s i p → HoldsIn s m p.1

-- the variables to which they normalize aliases are bound to terms of these
abbrev pub AllPendingTake : State → TypingMode → State → Type 0
AllPendingTake s m now = (i : ℕ) (p : GoalSource × Goal Predicate) → IsPending s i p → TakesIts (level_over s m p.1.param_env.items) p.1.predicate now

-- one that is pending is refuted
abbrev pub SomePendingRefuted : State → TypingMode → Type 0
SomePendingRefuted s m = (i : ℕ) × (p : GoalSource × Goal Predicate) × IsPending s i p × IsRefutedIn s m p.1

-- an answer to the goals that are pending is justified: a yes where all hold, a refusal where one is refuted
abbrev pub IsPendingAnswer : State → TypingMode → Result Certainty Fault → Type 0
IsPendingAnswer s m (Ok certainty.Yes) = AllPendingHold s m
IsPendingAnswer s m (Ok certainty.Maybe) = Unit {0}
IsPendingAnswer s m (Err fault.NoSolution) = SomePendingRefuted s m
IsPendingAnswer s m (Err f) = Unit {0}

-- not all that are pending hold, and none is refuted
abbrev pub ArePendingUndecided : State → TypingMode → Type 0
ArePendingUndecided s m = (AllPendingHold s m → ⊥) × (SomePendingRefuted s m → ⊥)

-- only terms, inference state, the places of the goals that were taken out and what is recorded change
abbrev pub ChangesTaken : State → State → Type 0
ChangesTaken old new = new ≡ record old { terms = new.terms; inference = new.inference; taken = new.taken; accesses = new.accesses; delayed_faults = new.delayed_faults }

-- one where two places are the same, and else nothing
unfoldable pub same_place : ℕ → ℕ → ℕ
same_place zero zero = 1
same_place zero (suc j) = 0
same_place (suc i) zero = 0
same_place (suc i) (suc j) = same_place i j

-- how often a place is listed
unfoldable pub count_of : ℕ → List ℕ → ℕ
count_of i [] = 0
count_of i (j ∷ js) = same_place i j + count_of i js

-- one for a place below a number, and else nothing
unfoldable pub one_below : ℕ → ℕ → ℕ
one_below i zero = 0
one_below zero (suc n) = 1
one_below (suc i) (suc n) = one_below i n

-- each of so many places stands once in one of two lists, and no other place stands there
abbrev pub AreSplit : ℕ → List ℕ → List ℕ → Type 0
AreSplit n taken pending = (i : ℕ) → count_of i taken + count_of i pending ≡ one_below i n

-- the goals at listed places are closed
abbrev pub AreClosedAt : List (GoalSource × Goal Predicate) → List ℕ → Type 0
AreClosedAt goals places = (i : ℕ) (p : GoalSource × Goal Predicate) → slice_get goals i ≡ Some p → 0 < count_of i places → IsClosedGoal p.1.predicate p.1.param_env.items

-- they are answered exactly, and no two of them normalize to one variable
pub record AreAnswerableAt (s : State) (goals : List (GoalSource × Goal Predicate)) (places : List ℕ) : Type 0 where
  pub each : (i : ℕ) (p : GoalSource × Goal Predicate) → slice_get goals i ≡ Some p → 0 < count_of i places → IsAnswerable s p.1.predicate p.1.param_env.items
  pub apart : (i j : ℕ) (p q : GoalSource × Goal Predicate) (e f : Term) → slice_get goals i ≡ Some p → slice_get goals j ≡ Some q → 0 < count_of i places → 0 < count_of j places →
      expected_in p.1.predicate ≡ Some e → expected_in q.1.predicate ≡ Some f → tree_of_term e ≡ tree_of_term f → i ≡ j

-- those hold
abbrev pub AllHoldAt : State → TypingMode → List (GoalSource × Goal Predicate) → List ℕ → Type 0
AllHoldAt s m goals places = (i : ℕ) (p : GoalSource × Goal Predicate) → slice_get goals i ≡ Some p → 0 < count_of i places → HoldsIn s m p.1

-- one of those is refuted
abbrev pub SomeRefutedAt : State → TypingMode → List (GoalSource × Goal Predicate) → List ℕ → Type 0
SomeRefutedAt s m goals places = (i : ℕ) × (p : GoalSource × Goal Predicate) × (slice_get goals i ≡ Some p) × (0 < count_of i places) × IsRefutedIn s m p.1

-- what a round over listed places leaves: the goals that are left are undecided, and the others hold
pub record LeavesUndecided (s : State) (m : TypingMode) (goals : List (GoalSource × Goal Predicate)) (places rest left : List ℕ) : Type 0 where
  pub undecided : (i : ℕ) (p : GoalSource × Goal Predicate) → slice_get goals i ≡ Some p → 0 < count_of i left → (HoldsIn s m p.1 → ⊥) × (IsRefutedIn s m p.1 → ⊥)
  pub settled : (i : ℕ) (p : GoalSource × Goal Predicate) → slice_get goals i ≡ Some p → 0 < count_of i places → count_of i left ≡ 0 → count_of i rest ≡ 0 → HoldsIn s m p.1
  pub among : (i : ℕ) → 0 < count_of i left → 0 < count_of i places

-- what was done before a round: nothing, or it left some of the goals undecided
abbrev pub IsGoneOver : State → TypingMode → List (GoalSource × Goal Predicate) → List ℕ → List ℕ → ℕ → Type 0
IsGoneOver s m goals places pending round = ((round ≡ 0) × (pending ≡ places)) ⊎ (LeavesUndecided s m goals places [] pending × (0 < length pending))

-- of the goals at listed places those that aren't left have their variables bound to terms of their aliases
abbrev pub AllTakeAt : State → TypingMode → List (GoalSource × Goal Predicate) → List ℕ → List ℕ → State → Type 0
AllTakeAt s m goals places left now =
    (i : ℕ) (p : GoalSource × Goal Predicate) → slice_get goals i ≡ Some p → 0 < count_of i places → count_of i left ≡ 0 → TakesIts (level_over s m p.1.param_env.items) p.1.predicate now

-- a place comes after others, unless it is one of those that were taken out
abbrev pub JoinsUnless : List ℕ → ℕ → List ℕ → List ℕ → Type 0
JoinsUnless taken i old new = (Contains taken i × (new ≡ old)) ⊎ ((Contains taken i → ⊥) × (new ≡ old ++ i ∷ []))

-- a place is listed by the answer to its goal: after those that were taken out, or after those that are left
abbrev pub IsListed : Certainty → ℕ → List ℕ → List ℕ → List ℕ → List ℕ → Type 0
IsListed certainty.Yes i taken left taken_then left_then = (taken_then ≡ taken ++ i ∷ []) × (left_then ≡ left)
IsListed certainty.Maybe i taken left taken_then left_then = (taken_then ≡ taken) × (left_then ≡ left ++ i ∷ [])

-- a refusal of a round over listed places is justified
abbrev pub IsRefusalAt : State → TypingMode → List (GoalSource × Goal Predicate) → List ℕ → Fault → Type 0
IsRefusalAt s m goals places fault.NoSolution = SomeRefutedAt s m goals places
IsRefusalAt s m goals places f = Unit {0}

-- what all rounds over listed places come to
abbrev pub IsAnswerAt : State → TypingMode → List (GoalSource × Goal Predicate) → List ℕ → Result Certainty Fault → Type 0
IsAnswerAt s m goals places (Ok certainty.Yes) = AllHoldAt s m goals places
IsAnswerAt s m goals places (Ok certainty.Maybe) = (AllHoldAt s m goals places → ⊥) × (SomeRefutedAt s m goals places → ⊥)
IsAnswerAt s m goals places (Err fault.NoSolution) = SomeRefutedAt s m goals places
IsAnswerAt s m goals places (Err f) = Unit {0}

-- whether a goal holds, at a level
abbrev pub SaysGoalAt : Level → Predicate → Result Outcome Stop → Type 0
SaysGoalAt L p r = IfOk r (Says (GoalHolds L p) (GoalRefuted L p))

-- no inference variable stands in a goal or in its environment
abbrev pub HoldsNoVariable : Goal Predicate → Type 0
HoldsNoVariable g = (some_in_predicate is_any_infer g.predicate || some_in_env is_any_infer g.param_env.items) ≡ false

-- so it is of a goal, and of the goals at listed places, for each mode that is owed an answer
abbrev pub WhereAnswerable : State → State → Goal Predicate → (TypingMode → Type 0) → Type 0
WhereAnswerable old new g P = (m : TypingMode) → IsOwed new m → IsAnswerable old g.predicate g.param_env.items → P m

abbrev pub WhereAnswerableAt : State → State → List (GoalSource × Goal Predicate) → List ℕ → (TypingMode → Type 0) → Type 0
WhereAnswerableAt old new goals places P = (m : TypingMode) → IsOwed new m → AreAnswerableAt old goals places → P m

-- a goal is answered exactly, and binds no variable but its own
abbrev pub AnswersGoal : State → State → Goal Predicate → Result Certainty Fault → Type 0
AnswersGoal old new g r = WhereAnswerable old new g (λ m. IsGoalAnswer old m g r)

abbrev pub BindsAtMost : State → State → Goal Predicate → Result Certainty Fault → Type 0
BindsAtMost old new g r = WhereAnswerable old new g (λ m. BindsFor (level_over old m g.param_env.items) g.predicate r old new)

-- so it is by its outcome
abbrev pub SaysGoal : State → State → Goal Predicate → Result Outcome Stop → Type 0
SaysGoal old new g r = WhereAnswerable old new g (λ m. SaysGoalAt (level_over old m g.param_env.items) g.predicate r)

abbrev pub BindsBy : State → State → Goal Predicate → Result Outcome Stop → Type 0
BindsBy old new g r = WhereAnswerable old new g (λ m. BindsAsked (level_over old m g.param_env.items) g.predicate old r new)
