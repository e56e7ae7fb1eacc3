-- What the refusal of a list of entries with inference variables rests on.
use Rattle.std.proofs.Common.{◌≡◌, ◌⊎◌, ℕ, zero, suc, ◌+◌, ◌<◌, ◌≤◌, arith, List, [], ◌∷◌, ◌++◌, length, take, drop, get_or, refl, sym, ap, ◌∙◌, subst, inl, inr}
use Rattle.std.proofs.lemmas.List.{take-append-drop, drop_more}
use Rattle.std.specs.Global.{Global}
use Rattle.std.specs.Prelude.{Vec, Result, Ok, Err, IfErr, IsErrAnd, OnErr}
use Rattle.goal_terms.specs.Tree.{Tree}
use Rattle.goal_terms.specs.TreeOf.{trees_of, tree_of_term}
use Rattle.goal_terms.specs.declared.answers.Certainty.{Certainty}
use Rattle.goal_terms.specs.declared.answers.OpaqueTypeKey.{OpaqueTypeKey}
use Rattle.goal_terms.specs.declared.answers.Response.{Response}
use Rattle.goal_terms.specs.declared.answers.GoalSource.{GoalSource}
use Rattle.goal_terms.specs.declared.modes.TypingMode.{TypingMode}
use Rattle.goal_terms.specs.declared.predicates.Clause.{Clause}
use Rattle.goal_terms.specs.declared.predicates.Goal.{Goal}
use Rattle.goal_terms.specs.declared.predicates.Predicate.{Predicate}
use Rattle.goal_terms.specs.declared.terms.GenericArg.{GenericArg}
use Rattle.goal_terms.specs.declared.terms.Term.{Term}
use Rattle.goal_kinds.specs.declared.faults.Fault.{Fault}
use Rattle.goal_kinds.specs.declared.faults.Fault.TheVariants as fault
use Rattle.goal_lists.specs.declared.lists.FirstUse.{FirstUse}
use Rattle.goal_kinds.specs.declared.rules.RuleArguments.{RuleArguments}
use Rattle.goal_kinds.specs.declared.rules.RuleEntry.{RuleEntry}
use Rattle.goal_kinds.specs.declared.rules.RuleEntry.TheVariants as entry
use Rattle.goal_kinds.specs.declared.rules.RuleTerm.{RuleTerm}
use Rattle.goal_solver.specs.AddedGoals.{IsClosedGoal, IsRefutedIn, IsGoalAnswer, count_of, AreSplit}
use Rattle.goal_solver.specs.Answers.{IsOwed}
use Rattle.goal_solver.specs.Equating.{IsEquated, equation}
use Rattle.goal_solver.specs.GoingBack.{BeginsWith, GoesBack, restored, begun}
use Rattle.goal_solver.specs.OpenRuns.{OpenProgress, open_start, RunsThrough}
use Rattle.goal_solver.specs.Refusals.{WhenRefused, RefusesGoal, RefusesListed, RefusesOne, RefusesEqual, RefusesPending, RefusesArguments, RefusesTerm, RefusesHidden, StepRefused, StopsAtEntry, StopsSomewhere, IsRefusedOpen}
use Rattle.goal_solver.specs.Relating.{ChangesRecords, SaysYes, Refuses}
use Rattle.goal_solver.specs.State.{State}
use Rattle.goal_solver.proofs.AddedGoalLemmas.{listed-pending, restored-owed}

-- where only memory is refused, there is no other refusal
pub memory-only : {T : Type 0} (P : Type 0) (r : Result T Fault) → IfErr r (λ f. f ≡ fault.OutOfMemory) → WhenRefused r P
memory-only P (Ok x) h = tt
memory-only P (Err f) h = λ is. absurd (apart f h is) where
  apart : (g : Fault) → g ≡ fault.OutOfMemory → g ≡ fault.NoSolution → ⊥
  apart g a b = absurd (cc)

-- a fault that is handed on
pub refused-on : {T : Type 0} (P : Type 0) (r : Result T Fault) (e : Fault) → IsErrAnd r (λ f. f ≡ e) → (e ≡ fault.NoSolution → P) → WhenRefused r P
refused-on P (Ok x) e h p = absurd h
refused-on P (Err f) e h p = λ is. p (sym h ∙ is)

-- what a refusal rests on, in other words
pub refused-map : {T P Q : Type 0} (r : Result T Fault) → (P → Q) → WhenRefused r P → WhenRefused r Q
refused-map (Ok x) f h = tt
refused-map (Err e) f h = λ is. f (h is)

-- a refusal of two lists of terms
pub equal-refused : (s u : State) (env : List Clause) (ts us : List Tree) (r : Result Certainty Fault) → IsEquated s u (equation env ts us) r → OnErr r (u ≡ restored s u) → GoesBack s u →
    WhenRefused r (RefusesEqual env ts us s u)
equal-refused s u env ts us (Ok c) h e b = tt
equal-refused s u env ts us (Err f) h e b = λ is. record { equated = subst (λ (g : Fault). IsEquated s u (equation env ts us) (Err g)) is h; undone = e; back = b }

-- what is answered where a run is stopped is no refusal
pub stopped-never : (P : Type 0) (r : Result Certainty Fault) → (SaysYes r ⊎ Refuses r → ⊥) → WhenRefused r P
stopped-never P (Ok c) h = tt
stopped-never P (Err fault.NoSolution) h = absurd (h (inr tt))
stopped-never P (Err fault.RerunNonErased) h = λ is. absurd (cc)
stopped-never P (Err fault.OutOfMemory) h = λ is. absurd (cc)
stopped-never P (Err fault.NotForThisKind) h = λ is. absurd (cc)

-- a goal that is refused
pub goal-refused : (s z : State) (g : Goal Predicate) (r : Result Certainty Fault) → ((m : TypingMode) → IsOwed z m → IsClosedGoal g.predicate g.param_env.items → IsGoalAnswer s m g r) →
    WhenRefused r (RefusesGoal s z g)
goal-refused s z g (Ok c) h = tt
goal-refused s z g (Err f) h = λ is. record { refuted = λ m owed closed. subst (λ (x : Fault). IsGoalAnswer s m g (Err x)) is (h m owed closed) }

-- one that isn't closed
pub open-goal-refused : (s z : State) (g : Goal Predicate) (r : Result Certainty Fault) → (IsClosedGoal g.predicate g.param_env.items → ⊥) → WhenRefused r (RefusesGoal s z g)
open-goal-refused s z g (Ok c) n = tt
open-goal-refused s z g (Err f) n = λ is. record { refuted = λ m owed closed. absurd (n closed) }

-- one that is refused later, after others
pub refuses-later : (a b z : State) (g : Goal Predicate) → ChangesRecords a b → RefusesGoal b z g → RefusesGoal a z g
refuses-later a b z g e h = record { refuted = λ m owed closed. subst (λ (s : State). IsRefutedIn s m g) e (h.refuted m owed closed) }

-- what a place counts in the beginning of a list
count-taken : (i n : ℕ) (xs : List ℕ) → count_of i (take n xs) ≤ count_of i xs
unfolding count_of
count-taken i zero xs = omega arith
count-taken i (suc n) [] = omega arith
count-taken i (suc n) (x ∷ xs) = omega (arith, count-taken i n xs)

count-begun : (i : ℕ) (whole start : List ℕ) → BeginsWith whole start → count_of i start ≤ count_of i whole
count-begun i whole start e = omega (arith, ap (count_of i) e, count-taken i (length start) whole)

-- a later round goes over some of the places
pub refuses-among : (a b z : State) (goals : List (GoalSource × Goal Predicate)) (taken now places pending : List ℕ) → ChangesRecords a b → AreSplit (length goals) taken places →
    AreSplit (length goals) now pending → BeginsWith now taken → RefusesListed b z goals pending → RefusesListed a z goals places
refuses-among a b z goals taken now places pending e before after begins h =
    (h.0, h.1, h.2, omega (arith, h.3, before h.0, after h.0, count-begun h.0 now taken begins), refuses-later a b z h.1.1 e h.4)

-- goals that were set aside, and put back then
refuses-pending : (s b y : State) (gs : List (GoalSource × Goal Predicate)) (ts places : List ℕ) → y.typing_mode ≡ b.typing_mode → y.accesses ≡ b.accesses →
    AreSplit (length s.goals) s.taken places → RefusesListed (record s { goals = gs; taken = ts }) b s.goals places → RefusesOne s y
refuses-pending s b y gs ts places e f split h = (
  h.0,
  h.1,
  listed-pending s places h.0 h.1 split h.2 h.3,
  record { refuted = λ m owed closed. h.4.refuted m (elim owed [ inl k ↦ inl (sym e ∙ k) | inr k ↦ inr (sym e ∙ k.0, k.1, sym f ∙ k.2) ]) closed },
)

pub aside-refused : (o s b y : State) (gs hs : List (GoalSource × Goal Predicate)) (ts places : List ℕ) (r : Result Certainty Fault) → o ≡ s → hs ≡ s.goals →
    y.typing_mode ≡ b.typing_mode → y.accesses ≡ b.accesses → AreSplit (length s.goals) s.taken places →
    WhenRefused r (RefusesListed (record o { goals = gs; taken = ts }) b hs places) → WhenRefused r (RefusesOne s y)
aside-refused o s b y gs hs ts places r e f k l split h =
    refused-map r
    (λ j. refuses-pending s b y gs ts places k l split
    (subst (λ (us : List (GoalSource × Goal Predicate)). RefusesListed (record s { goals = gs; taken = ts }) b us places) f
    (subst (λ (z : State). RefusesListed (record z { goals = gs; taken = ts }) b hs places) e j)))
    h

-- after a rollback
pub restored-refused : (s b z : State) (r : Result Certainty Fault) → z ≡ restored s b → GoesBack s b → WhenRefused r (RefusesOne s b) → WhenRefused r (RefusesOne s z)
restored-refused s b z r e g h =
    refused-map r
    (λ k. (k.0, k.1, k.2, record { refuted = λ m owed closed. k.3.refuted m (restored-owed s b z m e g owed) closed }))
    h

-- a refusal of the goals that are pending
pub pending-refused : (s u : State) → RefusesOne s u → u ≡ restored s u → GoesBack s u → RefusesPending s u
pending-refused s u h e b = record { one = h; undone = e; back = b }

-- the steps that are refused, by the entries
pub arguments-refused : (env : List Clause) (e : RuleEntry) (a : RuleArguments) (s : State) (p : OpenProgress) (u : State) → e ≡ entry.Arguments a → RefusesArguments env p.named a s u →
    StepRefused env e s p u
unfolding StepRefused
arguments-refused env e a s p u is h = subst (λ x. StepRefused env x s p u) (sym is) h

pub equation-refused : (env : List Clause) (e : RuleEntry) (ls rs : Vec GenericArg Global) (xs ys : List GenericArg) (s : State) (p : OpenProgress) (u : State) → e ≡ entry.Equation ls rs →
    xs ≡ ls.items → ys ≡ rs.items → RefusesEqual env (trees_of xs) (trees_of ys) s u → StepRefused env e s p u
unfolding StepRefused
equation-refused env e ls rs xs ys s p u is left right h =
    subst (λ x. StepRefused env x s p u) (sym is)
    (subst (λ x. RefusesEqual env (trees_of x) (trees_of rs.items) s u) left (subst (λ y. RefusesEqual env (trees_of xs) (trees_of y) s u) right h))

pub term-refused : (env : List Clause) (e : RuleEntry) (v : Term) (t : RuleTerm) (s : State) (p : OpenProgress) (u : State) → e ≡ entry.Term v t →
    RefusesTerm env p.named (tree_of_term v) t s u → StepRefused env e s p u
unfolding StepRefused
term-refused env e v t s p u is h = subst (λ x. StepRefused env x s p u) (sym is) h

pub hidden-refused : (env : List Clause) (e : RuleEntry) (v : Term) (k : OpaqueTypeKey) (f : FirstUse) (s : State) (p : OpenProgress) (u : State) → e ≡ entry.HiddenType v k f →
    RefusesHidden env v k f s u → StepRefused env e s p u
unfolding StepRefused
hidden-refused env e v k f s p u is h = subst (λ x. StepRefused env x s p u) (sym is) h

pub evaluation-refused : (env : List Clause) (e : RuleEntry) (s : State) (p : OpenProgress) (u : State) → e ≡ entry.Evaluation → RefusesPending s u → StepRefused env e s p u
unfolding StepRefused
evaluation-refused env e s p u is h = subst (λ x. StepRefused env x s p u) (sym is) h

pub refusal-refused : (env : List Clause) (e : RuleEntry) (s : State) (p : OpenProgress) → e ≡ entry.Refused → StepRefused env e s p s
unfolding StepRefused
refusal-refused env e s p is = subst (λ x. StepRefused env x s p s) (sym is) refl

-- a list whose steps are taken up to one that is refused
pub stops-at : (env : List Clause) (es : List RuleEntry) (i : ℕ) (e : RuleEntry) (s u : State) (q : OpenProgress) (z : State) → i < length es → e ≡ get_or es i e →
    RunsThrough env (take i es) s open_start u q → StepRefused env e u q z → StopsAtEntry env es s z
stops-at env es i e s u q z l at h step = record {
  before = take i es;
  at = e;
  behind = drop (i + 1) es;
  split = sym (take-append-drop i es) ∙ ap (λ ys. take i es ++ ys) (drop_more es i e l ∙ ap (λ x. x ∷ drop (i + 1) es) (sym at));
  last = u;
  progress = q;
  through = h;
  refused = step;
}

-- a closing evaluation that is refused
pub stops-last : (env : List Clause) (es : List RuleEntry) (s u z : State) (c : Certainty) → (p : OpenProgress) × RunsThrough env es s open_start u p × (p.certainty ≡ c) →
    RefusesPending u z → StopsSomewhere env es s z
stops-last env es s u z c h refused = inr (record { last = u; progress = h.0; through = h.1; refused = refused })

-- what was refused in a trial
pub open-refused : (env : List Clause) (es : List RuleEntry) (s b a z : State) (r : Result Response Fault) → b ≡ begun s → z ≡ restored s a →
    WhenRefused r (StopsSomewhere env es b a) → WhenRefused r (IsRefusedOpen env es s z)
open-refused env es s b a z r began undone h =
    refused-map r (λ x. record { stopped = a; stops = subst (λ (y : State). StopsSomewhere env es y a) began x; back = undone }) h
