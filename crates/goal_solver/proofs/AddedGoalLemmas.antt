-- What evaluating the goals that were added says, goal by goal.
use Rattle.std.proofs.Common.{◌≡◌, inl, inr, ℕ, zero, suc, ◌+◌, ◌<◌, List, [], ◌∷◌, ◌++◌, length, Some, Result, Ok, Err, refl, sym, ap, ◌∙◌, subst, arith}
use Rattle.std.specs.Prelude.{IfOk, slice_get}
use Rattle.goal_terms.specs.declared.answers.Certainty.{Certainty}
use Rattle.goal_terms.specs.declared.answers.Certainty.TheVariants as certainty
use Rattle.goal_terms.specs.declared.answers.GoalSource.{GoalSource}
use Rattle.goal_terms.specs.declared.modes.TypingMode.{TypingMode}
use Rattle.goal_terms.specs.declared.predicates.Goal.{Goal}
use Rattle.goal_terms.specs.declared.predicates.Predicate.{Predicate}
use Rattle.goal_terms.specs.declared.predicates.Predicate.TheVariants as predicate
use Rattle.goal_infer.proofs.UndoLemmas.{item-within}
use Rattle.goal_lists.specs.Answers.{setting_of}
use Rattle.goal_lists.specs.Levels.{level}
use Rattle.goal_lists.specs.Settings.{Setting}
use Rattle.goal_lists.proofs.ConsistentLemmas.{each_level_is_consistent}
use Rattle.goal_lists.proofs.PremiseLemmas.{no_clause_refuted}
use Rattle.goal_solver.specs.AddedGoals.{GoalHolds, GoalRefuted, HoldsIn, IsRefutedIn, IsGoalAnswer, IsVerdict, IsPending, ArePendingClosed, IsPendingAnswer, ArePendingUndecided, ChangesTaken, same_place, count_of, AreSplit, AreClosedAt, AllHoldAt, SomeRefutedAt, LeavesUndecided, IsAnswerAt}
use Rattle.goal_solver.specs.Answers.{IsOwed, IsStopped}
use Rattle.goal_solver.specs.GoingBack.{GoesBack, restored}
use Rattle.goal_eval.specs.Outcomes.{Says}
use Rattle.goal_solver.specs.Relating.{ChangesInference, ChangesRecords, LeavesOpen, IsFaultFor}
use Rattle.goal_solver.specs.State.{State}
use Rattle.goal_kinds.specs.declared.faults.Fault.{Fault}
use Rattle.goal_kinds.specs.declared.faults.Fault.TheVariants as fault
use Rattle.goal_lists.specs.declared.outcomes.Outcome.{Outcome}
use Rattle.goal_lists.specs.declared.outcomes.Outcome.TheVariants as outcome
use Rattle.goal_eval.specs.declared.eval.outcomes.Stop.{Stop}
use Rattle.goal_solver.proofs.PlaceLemmas.{same-is, count-one, count-none, count-pushed, contains-counted, uncounted, is-below, one-below, one_below-once}

-- changes one after the other
pub inference-through : (a b c : State) → ChangesInference a b → ChangesInference b c → ChangesInference a c
inference-through a b c e h = h ∙ ap (λ (s : State). record s { terms = c.terms; inference = c.inference }) e

pub records-through : (a b c : State) → ChangesRecords a b → ChangesRecords b c → ChangesRecords a c
records-through a b c e h = h ∙ ap (λ (s : State). record s { terms = c.terms; inference = c.inference; accesses = c.accesses; delayed_faults = c.delayed_faults }) e

-- a context that was restored after a fault
pub restored-owed : (s b z : State) (m : TypingMode) → z ≡ restored s b → GoesBack s b → IsOwed z m → IsOwed b m
restored-owed s b z m e g owed =
    let there : IsOwed (restored s b) m = subst (λ (x : State). IsOwed x m) e owed in
    elim there [ inl h ↦ inl (g.typing_mode ∙ h) | inr h ↦ inr (g.typing_mode ∙ h.0, h.1, h.2) ]

pub restored-alone : (s b z : State) → z ≡ restored s b → ChangesTaken s z
restored-alone s b z e = e ∙ sym (ap (λ (x : State). record s { terms = x.terms; inference = x.inference; taken = x.taken; accesses = x.accesses; delayed_faults = x.delayed_faults }) e)

restored-fault_as : {T : Type 0} (s b : State) (r : Result T Fault) → IsFaultFor s b r → IsFaultFor s (restored s b) r
restored-fault_as s b (Ok x) h = tt
restored-fault_as s b (Err fault.NoSolution) h = tt
restored-fault_as s b (Err fault.RerunNonErased) h = h
restored-fault_as s b (Err fault.OutOfMemory) h = tt
restored-fault_as s b (Err fault.NotForThisKind) h = h

pub restored-fault : (s b z : State) (r : Result Certainty Fault) → z ≡ restored s b → IsFaultFor s b r → IsFaultFor s z r
restored-fault s b z r e h = subst (λ (x : State). IsFaultFor s x r) (sym e) (restored-fault_as s b r h)

pub restored-itself : (s b z : State) → z ≡ restored s b → z ≡ restored s z
restored-itself s b z e = e ∙ sym (ap (restored s) e)

-- a fault of a later part is one of the whole
pub fault-before : (T U : Type 0) (a b c : State) (f : Fault) → GoesBack a b → IsFaultFor {T = T} b c (Err f) → IsFaultFor {T = U} a c (Err f)
fault-before T U a b c fault.NoSolution g h = tt
fault-before T U a b c fault.RerunNonErased g h = (sym g.typing_mode ∙ h.0, h.1)
fault-before T U a b c fault.OutOfMemory g h = tt
fault-before T U a b c fault.NotForThisKind g h = h

pub fault-later : {T : Type 0} (a b c : State) (r : Result T Fault) → GoesBack a b → IsFaultFor b c r → IsFaultFor a c r
fault-later a b c (Ok x) g h = tt
fault-later {T} a b c (Err f) g h = fault-before T T a b c f g h

-- where the evaluation was stopped nothing is said
stopped-goal : (s : State) (m : TypingMode) (g : Goal Predicate) (r : Result Certainty Fault) → IsStopped r → IsGoalAnswer s m g r
stopped-goal s m g (Ok c) h = absurd h
stopped-goal s m g (Err fault.NoSolution) h = absurd h
stopped-goal s m g (Err fault.RerunNonErased) h = tt
stopped-goal s m g (Err fault.OutOfMemory) h = tt
stopped-goal s m g (Err fault.NotForThisKind) h = tt

-- a verdict is as sound as the outcome
pub goal-verdict : (s : State) (m : TypingMode) (g : Goal Predicate) (o : Result Outcome Stop) (r : Result Certainty Fault) →
    IfOk o (Says (HoldsIn s m g) (IsRefutedIn s m g)) → IsVerdict o r → IsGoalAnswer s m g r
goal-verdict s m g (Ok outcome.Holds) r h v = subst (IsGoalAnswer s m g) (sym v) h
goal-verdict s m g (Ok outcome.Refuted) r h v = subst (IsGoalAnswer s m g) (sym v) h
goal-verdict s m g (Ok outcome.Undecided) r h v = subst (IsGoalAnswer s m g) (sym v) h
goal-verdict s m g (Err e) r h v = stopped-goal s m g r v

-- what an answer says does not depend on what changes
pub answer-before : (a b : State) (m : TypingMode) (g : Goal Predicate) (r : Result Certainty Fault) → ChangesRecords a b → IsGoalAnswer b m g r → IsGoalAnswer a m g r
answer-before a b m g (Ok certainty.Yes) e h = subst (λ (s : State). HoldsIn s m g) e h
answer-before a b m g (Ok certainty.Maybe) e h =
    (λ x. h.0 (subst (λ (s : State). HoldsIn s m g) (sym e) x), λ x. h.1 (subst (λ (s : State). IsRefutedIn s m g) (sym e) x))
answer-before a b m g (Err fault.NoSolution) e h = subst (λ (s : State). IsRefutedIn s m g) e h
answer-before a b m g (Err fault.RerunNonErased) e h = tt
answer-before a b m g (Err fault.OutOfMemory) e h = tt
answer-before a b m g (Err fault.NotForThisKind) e h = tt

-- a goal that holds isn't refuted
apart-as : (S : Setting) (n : ℕ) (p : Predicate) → GoalHolds (level S n) p → GoalRefuted (level S n) p → ⊥
apart-as S n (predicate.Trait q) h k = no_clause_refuted (level S n) (each_level_is_consistent S n) _ h k
apart-as S n (predicate.Projection q) h k = no_clause_refuted (level S n) (each_level_is_consistent S n) _ h k
apart-as S n (predicate.HostEffect q) h k = no_clause_refuted (level S n) (each_level_is_consistent S n) _ h k
apart-as S n (predicate.NormalizesTo q) h k = (each_level_is_consistent S n).no_term_refuted q.alias.kind _ h.0 h.2 k
apart-as S n predicate.Ambiguous h k = h

pub goal-apart : (s : State) (m : TypingMode) (g : Goal Predicate) → HoldsIn s m g → IsRefutedIn s m g → ⊥
goal-apart s m g h k = apart-as (setting_of s.tables m g.param_env.items) s.remaining_depth g.predicate h k

-- before a round nothing is settled
pub round-begins : (s : State) (m : TypingMode) (goals : List (GoalSource × Goal Predicate)) (places : List ℕ) → LeavesUndecided s m goals places places []
round-begins s m goals places = record {
  undecided = λ i p at c. absurd (omega (arith, c, count-none i));
  settled = λ i p at c l r. absurd (omega (arith, c, r));
  among = λ i c. absurd (omega (arith, c, count-none i));
}

-- a goal that holds
pub round-yes : (s : State) (m : TypingMode) (goals : List (GoalSource × Goal Predicate)) (places rest left : List ℕ) (x : ℕ) →
    ((p : GoalSource × Goal Predicate) → slice_get goals x ≡ Some p → HoldsIn s m p.1) → LeavesUndecided s m goals places (x ∷ rest) left → LeavesUndecided s m goals places rest left
round-yes s m goals places rest left x holds h = record {
  undecided = h.undecided;
  settled = λ i p at c l r. settled-one i p at c l r (same_place i x) refl;
  among = h.among;
} where
  settled-one : (i : ℕ) (p : GoalSource × Goal Predicate) → slice_get goals i ≡ Some p → 0 < count_of i places → count_of i left ≡ 0 → count_of i rest ≡ 0 →
      (n : ℕ) → same_place i x ≡ n → HoldsIn s m p.1
  settled-one i p at c l r zero e = h.settled i p at c l (count-one i x rest ∙ omega (arith, e, r))
  settled-one i p at c l r (suc n) e = holds p (ap (slice_get goals) (sym (same-is i x (omega (arith, e)))) ∙ at)

-- a goal that is undecided
pub round-maybe : (s : State) (m : TypingMode) (goals : List (GoalSource × Goal Predicate)) (places rest left after : List ℕ) (x : ℕ) → after ≡ left ++ x ∷ [] → 0 < count_of x places →
    ((p : GoalSource × Goal Predicate) → slice_get goals x ≡ Some p → (HoldsIn s m p.1 → ⊥) × (IsRefutedIn s m p.1 → ⊥)) →
    LeavesUndecided s m goals places (x ∷ rest) left → LeavesUndecided s m goals places rest after
round-maybe s m goals places rest left after x e listed neither h = record {
  undecided = λ i p at c. undecided-one i p at c (same_place i x) refl;
  settled = λ i p at c l r. h.settled i p at c (omega (arith, l, pushed i)) (omega (arith, l, r, pushed i, count-one i x rest));
  among = λ i c. among-one i c (same_place i x) refl;
} where
  pushed : (i : ℕ) → count_of i after ≡ count_of i left + same_place i x
  pushed i = ap (count_of i) e ∙ count-pushed i left x

  undecided-one : (i : ℕ) (p : GoalSource × Goal Predicate) → slice_get goals i ≡ Some p → 0 < count_of i after → (n : ℕ) → same_place i x ≡ n →
      (HoldsIn s m p.1 → ⊥) × (IsRefutedIn s m p.1 → ⊥)
  undecided-one i p at c zero f = h.undecided i p at (omega (arith, c, f, pushed i))
  undecided-one i p at c (suc n) f = neither p (ap (slice_get goals) (sym (same-is i x (omega (arith, f)))) ∙ at)

  among-one : (i : ℕ) → 0 < count_of i after → (n : ℕ) → same_place i x ≡ n → 0 < count_of i places
  among-one i c zero f = h.among i (omega (arith, c, f, pushed i))
  among-one i c (suc n) f = omega (arith, listed, ap (λ j. count_of j places) (same-is i x (omega (arith, f))))

-- where none is left, all hold
pub all-hold : (s : State) (m : TypingMode) (goals : List (GoalSource × Goal Predicate)) (places left : List ℕ) → left ≡ [] → LeavesUndecided s m goals places [] left → AllHoldAt s m goals places
all-hold s m goals places left e h i p at c = h.settled i p at c (ap (count_of i) e ∙ count-none i) (count-none i)

-- where one is left, not all hold, and none is refuted
goal-at : (goals : List (GoalSource × Goal Predicate)) (i : ℕ) → i < length goals → (p : GoalSource × Goal Predicate) × (slice_get goals i ≡ Some p)
goal-at [] i l = absurd (omega (arith, l))
goal-at (g ∷ gs) zero l = (g, refl)
goal-at (g ∷ gs) (suc i) l = goal-at gs i (omega (arith, l))

pub some-left : (s : State) (m : TypingMode) (goals : List (GoalSource × Goal Predicate)) (taken places left : List ℕ) (x : ℕ) → 0 < count_of x left → AreSplit (length goals) taken left →
    LeavesUndecided s m goals places [] left → (AllHoldAt s m goals places → ⊥) × (SomeRefutedAt s m goals places → ⊥)
some-left s m goals taken places left x l split h = (
  λ all. let at = goal-at goals x (is-below x (length goals) (omega (arith, l, split x))) in (h.undecided x at.0 at.1 l).0 (all x at.0 at.1 (h.among x l)),
  λ one. refuted one.0 one.1 one.2 one.3 one.4 (count_of one.0 left) refl,
) where
  refuted : (i : ℕ) (p : GoalSource × Goal Predicate) → slice_get goals i ≡ Some p → 0 < count_of i places → IsRefutedIn s m p.1 → (n : ℕ) → count_of i left ≡ n → ⊥
  refuted i p at c r zero e = goal-apart s m p.1 (h.settled i p at c e (count-none i)) r
  refuted i p at c r (suc n) e = (h.undecided i p at (omega (arith, e))).1 r

-- the goals that are pending are those that are listed
pub pending-listed : (s : State) (places : List ℕ) (i : ℕ) (p : GoalSource × Goal Predicate) → AreSplit (length s.goals) s.taken places → IsPending s i p → 0 < count_of i places
pending-listed s places i p split h = omega (arith, split i, uncounted s.taken i h.1, one-below i (length s.goals) (item-within s.goals i p h.0))

pub listed-pending : (s : State) (places : List ℕ) (i : ℕ) (p : GoalSource × Goal Predicate) → AreSplit (length s.goals) s.taken places → slice_get s.goals i ≡ Some p →
    0 < count_of i places → IsPending s i p
listed-pending s places i p split at l = (at, λ c. omega (arith, split i, contains-counted s.taken i c, one_below-once i (length s.goals), l))

pub closed-listed : (s : State) (places : List ℕ) → AreSplit (length s.goals) s.taken places → ArePendingClosed s → AreClosedAt s.goals places
closed-listed s places split closed i p at l = closed i p (listed-pending s places i p split at l)

pub pending-answer : (s : State) (m : TypingMode) (places : List ℕ) (r : Result Certainty Fault) → AreSplit (length s.goals) s.taken places → IsAnswerAt s m s.goals places r → IsPendingAnswer s m r
pending-answer s m places (Ok certainty.Yes) split h = λ i p q. h i p q.0 (pending-listed s places i p split q)
pending-answer s m places (Ok certainty.Maybe) split h = tt
pending-answer s m places (Err fault.NoSolution) split h = (h.0, h.1, listed-pending s places h.0 h.1 split h.2 h.3, h.4)
pending-answer s m places (Err fault.RerunNonErased) split h = tt
pending-answer s m places (Err fault.OutOfMemory) split h = tt
pending-answer s m places (Err fault.NotForThisKind) split h = tt

pub pending-open : (s : State) (m : TypingMode) (places : List ℕ) (r : Result Certainty Fault) → AreSplit (length s.goals) s.taken places → IsAnswerAt s m s.goals places r →
    LeavesOpen r → ArePendingUndecided s m
pending-open s m places (Ok certainty.Yes) split h o = absurd o
pending-open s m places (Ok certainty.Maybe) split h o = (
  λ all. h.0 (λ i p at l. all i p (listed-pending s places i p split at l)),
  λ one. h.1 (one.0, one.1, one.2.0, pending-listed s places one.0 one.1 split one.2, one.3),
)
pending-open s m places (Err f) split h o = absurd o
