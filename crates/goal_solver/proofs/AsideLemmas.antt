-- Goals that are set aside while they are evaluated, and then put back.
use Rattle.std.proofs.Common.{◌≡◌, ℕ, false, List, [], length, Result, Ok, Err, sym, ap, ◌∙◌, subst}
use Rattle.std.specs.Prelude.{OnOk, nat_lt, slice_get}
use Rattle.std.proofs.lemmas.Bool.{le-ltb}
use Rattle.goal_terms.specs.declared.answers.Certainty.{Certainty}
use Rattle.goal_terms.specs.declared.answers.Certainty.TheVariants as certainty
use Rattle.goal_terms.specs.declared.answers.GoalSource.{GoalSource}
use Rattle.goal_terms.specs.declared.modes.TypingMode.{TypingMode}
use Rattle.goal_terms.specs.declared.predicates.Goal.{Goal}
use Rattle.goal_terms.specs.declared.predicates.Predicate.{Predicate}
use Rattle.goal_kinds.specs.declared.faults.Fault.{Fault}
use Rattle.goal_kinds.specs.declared.faults.Fault.TheVariants as fault
use Rattle.goal_solver.specs.AddedGoals.{AllPendingTake, AllTakeAt, TakesIts, ArePendingClosed, ArePendingAnswerable, IsPendingAnswer, ArePendingUndecided, AreSplit, AreClosedAt, AreAnswerableAt, IsAnswerAt}
use Rattle.goal_solver.specs.Answers.{IsOwed, level_over}
use Rattle.goal_solver.specs.Relating.{LeavesOpen, SaysYes}
use Rattle.goal_solver.specs.State.{State}
use Rattle.goal_solver.proofs.AddedGoalLemmas.{closed-listed, listed-pending, pending-listed, pending-answer, pending-open}
use Rattle.goal_solver.proofs.NormalizingLemmas.{answerable-same, its-moved, keeps-same}
use Rattle.goal_solver.proofs.PlaceLemmas.{all-taken, count-none}

-- the goals that are pending are those that are listed
answerable-listed : (s t : State) (places : List ℕ) → t.tables ≡ s.tables → t.inference ≡ s.inference → AreSplit (length s.goals) s.taken places → ArePendingAnswerable s →
    AreAnswerableAt t s.goals places
answerable-listed s t places e f split ok = record {
  each = λ i p at l. answerable-same s t p.1.predicate p.1.param_env.items e (keeps-same s t f) (ok.each i p (listed-pending s places i p split at l));
  apart = λ i j p q x y at there l k. ok.apart i j p q x y (listed-pending s places i p split at l) (listed-pending s places j q split there k);
}

-- what is answered does not depend on which goals a context holds
answer-aside : (s : State) (gs : List (GoalSource × Goal Predicate)) (ts : List ℕ) (m : TypingMode) (places : List ℕ) (r : Result Certainty Fault) →
    IsAnswerAt (record s { goals = gs; taken = ts }) m s.goals places r → IsAnswerAt s m s.goals places r
answer-aside s gs ts m places (Ok certainty.Yes) h = h
answer-aside s gs ts m places (Ok certainty.Maybe) h = h
answer-aside s gs ts m places (Err fault.NoSolution) h = h
answer-aside s gs ts m places (Err fault.RerunNonErased) h = tt
answer-aside s gs ts m places (Err fault.OutOfMemory) h = tt
answer-aside s gs ts m places (Err fault.NotForThisKind) h = tt

answered : (o s x b : State) (gs hs : List (GoalSource × Goal Predicate)) (ts places : List ℕ) (m : TypingMode) (r : Result Certainty Fault) → o ≡ s → hs ≡ s.goals → x ≡ b →
    AreSplit (length s.goals) s.taken places → (IsOwed b m → AreAnswerableAt (record o { goals = gs; taken = ts }) hs places → IsAnswerAt (record o { goals = gs; taken = ts }) m hs places r) →
    IsOwed x m → ArePendingAnswerable s → IsAnswerAt s m s.goals places r
answered o s x b gs hs ts places m r e f g split answer owed closed =
    let listed : AreAnswerableAt (record o { goals = gs; taken = ts }) hs places =
    subst (λ (us : List (GoalSource × Goal Predicate)). AreAnswerableAt (record o { goals = gs; taken = ts }) us places) (sym f)
    (answerable-listed s (record o { goals = gs; taken = ts }) places (ap (λ (y : State). y.tables) e) (ap (λ (y : State). y.inference) e) split closed) in
    let found : IsAnswerAt (record o { goals = gs; taken = ts }) m hs places r = answer (subst (λ (y : State). IsOwed y m) g owed) listed in
    answer-aside s gs ts m places r
    (subst (λ (us : List (GoalSource × Goal Predicate)). IsAnswerAt (record s { goals = gs; taken = ts }) m us places r) f
    (subst (λ (y : State). IsAnswerAt (record y { goals = gs; taken = ts }) m hs places r) e found))

pub aside-sound : (o s x b : State) (gs hs : List (GoalSource × Goal Predicate)) (ts places : List ℕ) (m : TypingMode) (r : Result Certainty Fault) → o ≡ s → hs ≡ s.goals → x ≡ b →
    AreSplit (length s.goals) s.taken places → (IsOwed b m → AreAnswerableAt (record o { goals = gs; taken = ts }) hs places → IsAnswerAt (record o { goals = gs; taken = ts }) m hs places r) →
    IsOwed x m → ArePendingAnswerable s → IsPendingAnswer s m r
aside-sound o s x b gs hs ts places m r e f g split answer owed closed =
    pending-answer s m places r split (answered o s x b gs hs ts places m r e f g split answer owed closed)

pub aside-decided : (o s x b : State) (gs hs : List (GoalSource × Goal Predicate)) (ts places : List ℕ) (m : TypingMode) (r : Result Certainty Fault) → o ≡ s → hs ≡ s.goals → x ≡ b →
    AreSplit (length s.goals) s.taken places → (IsOwed b m → AreAnswerableAt (record o { goals = gs; taken = ts }) hs places → IsAnswerAt (record o { goals = gs; taken = ts }) m hs places r) →
    IsOwed x m → ArePendingAnswerable s → LeavesOpen r → ArePendingUndecided s m
aside-decided o s x b gs hs ts places m r e f g split answer owed closed open_ =
    pending-open s m places r split (answered o s x b gs hs ts places m r e f g split answer owed closed) open_

-- closed goals bind nothing
kept : (r : Result Certainty Fault) (P Q : Type 0) → (P → Q) → OnOk r P → OnOk r Q
kept (Ok a) P Q h p = h p
kept (Err a) P Q h p = tt

pub aside-closed : (o s x b : State) (hs : List (GoalSource × Goal Predicate)) (places : List ℕ) (r : Result Certainty Fault) → o ≡ s → hs ≡ s.goals → x ≡ b →
    AreSplit (length s.goals) s.taken places → (AreClosedAt hs places → OnOk r (b.inference ≡ o.inference)) → ArePendingClosed s → OnOk r (x.inference ≡ s.inference)
aside-closed o s x b hs places r e f g split h closed =
    kept r (b.inference ≡ o.inference) (x.inference ≡ s.inference) (λ i. ap (λ (y : State). y.inference) g ∙ i ∙ ap (λ (y : State). y.inference) e)
    (h (subst (λ (us : List (GoalSource × Goal Predicate)). AreClosedAt us places) (sym f) (closed-listed s places split closed)))

-- a yes leaves none
pub aside-taken : (hs gs : List (GoalSource × Goal Predicate)) (taken : List ℕ) (r : Result Certainty Fault) → hs ≡ gs →
    ((rest : List ℕ) × AreSplit (length hs) taken rest × (SaysYes r → rest ≡ [])) → SaysYes r → nat_lt (length taken) (length gs) ≡ false
aside-taken hs gs taken r e h says =
    subst (λ (us : List (GoalSource × Goal Predicate)). nat_lt (length taken) (length us) ≡ false) e (le-ltb (length taken) (length hs) (all-taken (length hs) taken h.0 (h.2 says) h.1))

-- after a yes the variables of those that were pending are bound to terms of their aliases
pub aside-given : (o s x b y : State) (gs hs : List (GoalSource × Goal Predicate)) (ts places : List ℕ) (m : TypingMode) (r : Result Certainty Fault) → o ≡ s → hs ≡ s.goals → x ≡ b →
    y.terms ≡ x.terms → y.inference ≡ x.inference → AreSplit (length s.goals) s.taken places →
    (IsOwed b m → AreAnswerableAt (record o { goals = gs; taken = ts }) hs places → SaysYes r → AllTakeAt (record o { goals = gs; taken = ts }) m hs places [] b) →
    IsOwed x m → ArePendingAnswerable s → SaysYes r → AllPendingTake s m y
aside-given o s x b y gs hs ts places m r e f g h k split takes owed closed says i p at =
    let listed : AreAnswerableAt (record o { goals = gs; taken = ts }) hs places =
    subst (λ (us : List (GoalSource × Goal Predicate)). AreAnswerableAt (record o { goals = gs; taken = ts }) us places) (sym f)
    (answerable-listed s (record o { goals = gs; taken = ts }) places (ap (λ (z : State). z.tables) e) (ap (λ (z : State). z.inference) e) split closed) in
    its-moved (level_over s m p.1.param_env.items) p.1.predicate b y (h ∙ ap (λ (z : State). z.terms) g) (k ∙ ap (λ (z : State). z.inference) g)
    (subst (λ (z : State). TakesIts (level_over (record z { goals = gs; taken = ts }) m p.1.param_env.items) p.1.predicate b) e
    (takes (subst (λ (z : State). IsOwed z m) g owed) listed says i p (ap (λ (us : List (GoalSource × Goal Predicate)). slice_get us i) f ∙ at.0) (pending-listed s places i p split at) (count-none i)))
