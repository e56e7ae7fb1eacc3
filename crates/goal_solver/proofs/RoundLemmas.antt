-- The steps of a round over the goals that were added.
use Rattle.std.proofs.Common.{◌≡◌, inl, inr, ℕ, zero, suc, ◌+◌, ◌<◌, ◌≤◌, ◌==◌, Bool, true, false, List, [], ◌∷◌, ◌++◌, length, get_or, take, drop, Some, Result, Ok, Err, refl, sym, ap, ◌∙◌, subst, arith}
use Rattle.std.specs.Prelude.{IsErrAnd, slice_get}
use Rattle.std.proofs.lemmas.List.{append-nil, drop_all, drop_more}
use Rattle.std.proofs.Math.Seq.{take-append_seam}
use Rattle.goal_terms.specs.Tree.{variable}
use Rattle.goal_terms.specs.TreeOf.{tree_of_term, is_type_kind}
use Rattle.goal_terms.specs.declared.answers.Certainty.{Certainty}
use Rattle.goal_terms.specs.declared.answers.Certainty.TheVariants as certainty
use Rattle.goal_terms.specs.declared.answers.GoalSource.{GoalSource}
use Rattle.goal_terms.specs.declared.modes.TypingMode.{TypingMode}
use Rattle.goal_terms.specs.declared.predicates.Goal.{Goal}
use Rattle.goal_terms.specs.declared.predicates.NormalizesTo.{NormalizesTo}
use Rattle.goal_terms.specs.declared.predicates.Predicate.{Predicate}
use Rattle.goal_terms.specs.declared.predicates.Predicate.TheVariants as predicate
use Rattle.goal_infer.specs.Inference.{Inference}
use Rattle.goal_lists.specs.Level.{Level}
use Rattle.goal_kinds.specs.declared.faults.Fault.{Fault}
use Rattle.goal_kinds.specs.declared.faults.Fault.TheVariants as fault
use Rattle.goal_solver.specs.AddedGoals.{AllTakeAt, TakesIts, HoldsIn, IsRefutedIn, IsAnswerable, AreAnswerableAt, BindsItsOwn, BindsFor, expected_in, IsGoalAnswer, count_of, AreSplit, AllHoldAt, SomeRefutedAt, LeavesUndecided, IsListed, IsRefusalAt, IsAnswerAt, IsGoneOver}
use Rattle.goal_solver.specs.Answers.{level_over}
use Rattle.goal_solver.specs.GoingBack.{BeginsWith, GoesBack, lengths_of}
use Rattle.goal_solver.specs.Normalizing.{KeepsOthers}
use Rattle.goal_solver.specs.OpenForms.{taking}
use Rattle.goal_solver.specs.Relating.{ChangesRecords}
use Rattle.goal_solver.specs.State.{State}
use Rattle.goal_solver.proofs.AddedGoalLemmas.{answer-before, round-yes, round-maybe, all-hold, some-left}
use Rattle.goal_solver.proofs.GoingBackLemmas.{begins-through}
use Rattle.goal_eval.proofs.ProjectionGroupLemmas.{no_args, some_args}
use Rattle.goal_solver.proofs.PlaceLemmas.{by-zero, count-at, count-joined, count-none, count-one, is-below, one_below-once, same-is, same-itself, some-counted, split-taken, split-left}
use Rattle.goal_solver.proofs.NormalizingLemmas.{answerable-same, answerable-others, holds-takes, its-later, one-variable}
use Rattle.goal_solver.proofs.StoredLemmas.{some-is}

-- what stands at a place of a list
pub read-at : {A : Type 0} (xs : List A) (i : ℕ) (d : A) → i < length xs → slice_get xs i ≡ Some (get_or xs i d)
read-at [] i d l = absurd (omega (arith, l))
read-at (x ∷ xs) zero d l = refl
read-at (x ∷ xs) (suc i) d l = read-at xs i d (omega (arith, l))

-- the next place of a round, which is listed and has a goal
pub next-place : (places : List ℕ) (i x : ℕ) → i < length places → x ≡ get_or places i 0 → drop i places ≡ x ∷ drop (i + 1) places
next-place places i x l e = drop_more places i 0 l ∙ ap (λ y. y ∷ drop (i + 1) places) (sym e)

pub next-listed : (places : List ℕ) (i x : ℕ) → i < length places → x ≡ get_or places i 0 → 0 < count_of x places
next-listed places i x l e = count-at places i x (read-at places i 0 l ∙ ap Some (sym e))

pub next-within : (n : ℕ) (taken places : List ℕ) (i x : ℕ) → i < length places → x ≡ get_or places i 0 → AreSplit n taken places → x < n
next-within n taken places i x l e split = is-below x n (omega (arith, split x, next-listed places i x l e))

-- what is answered to the goal there
next-answer : (old now : State) (m : TypingMode) (goals : List (GoalSource × Goal Predicate)) (x : ℕ) (d p : GoalSource × Goal Predicate) (r : Result Certainty Fault) →
    slice_get goals x ≡ Some d → slice_get goals x ≡ Some p → ChangesRecords old now → IsGoalAnswer now m d.1 r → IsGoalAnswer old m p.1 r
next-answer old now m goals x d p r read at alone answer =
    subst (λ (q : GoalSource × Goal Predicate). IsGoalAnswer old m q.1 r) (some-is d p (sym read ∙ at)) (answer-before old now m d.1 r alone answer)

next-yes : (old now : State) (m : TypingMode) (goals : List (GoalSource × Goal Predicate)) (places left : List ℕ) (i x : ℕ) (d : GoalSource × Goal Predicate) →
    i < length places → x ≡ get_or places i 0 → slice_get goals x ≡ Some d → ChangesRecords old now → LeavesUndecided old m goals places (drop i places) left →
    IsGoalAnswer now m d.1 (Ok certainty.Yes) → LeavesUndecided old m goals places (drop (i + 1) places) left
next-yes old now m goals places left i x d l e read alone says answer =
    round-yes old m goals places (drop (i + 1) places) left x
    (λ p at. next-answer old now m goals x d p (Ok certainty.Yes) read at alone answer)
    (subst (λ zs. LeavesUndecided old m goals places zs left) (next-place places i x l e) says)

next-maybe : (old now : State) (m : TypingMode) (goals : List (GoalSource × Goal Predicate)) (places left after : List ℕ) (i x : ℕ) (d : GoalSource × Goal Predicate) →
    i < length places → x ≡ get_or places i 0 → slice_get goals x ≡ Some d → after ≡ left ++ x ∷ [] → ChangesRecords old now → LeavesUndecided old m goals places (drop i places) left →
    IsGoalAnswer now m d.1 (Ok certainty.Maybe) → LeavesUndecided old m goals places (drop (i + 1) places) after
next-maybe old now m goals places left after i x d l e read pushed alone says answer =
    round-maybe old m goals places (drop (i + 1) places) left after x pushed (next-listed places i x l e)
    (λ p at. next-answer old now m goals x d p (Ok certainty.Maybe) read at alone answer)
    (subst (λ zs. LeavesUndecided old m goals places zs left) (next-place places i x l e) says)

pub next-fault : (old now : State) (m : TypingMode) (goals : List (GoalSource × Goal Predicate)) (places : List ℕ) (i x : ℕ) (d : GoalSource × Goal Predicate) (f : Fault) →
    i < length places → x ≡ get_or places i 0 → slice_get goals x ≡ Some d → ChangesRecords old now → IsGoalAnswer now m d.1 (Err f) → IsRefusalAt old m goals places f
next-fault old now m goals places i x d fault.NoSolution l e read alone answer =
    (x, d, read, next-listed places i x l e, next-answer old now m goals x d d (Err fault.NoSolution) read read alone answer)
next-fault old now m goals places i x d fault.RerunNonErased l e read alone answer = tt
next-fault old now m goals places i x d fault.OutOfMemory l e read alone answer = tt
next-fault old now m goals places i x d fault.NotForThisKind l e read alone answer = tt

next-taken : (n i x : ℕ) (places taken after left : List ℕ) → i < length places → x ≡ get_or places i 0 → after ≡ taken ++ x ∷ [] →
    AreSplit n taken (left ++ drop i places) → AreSplit n after (left ++ drop (i + 1) places)
next-taken n i x places taken after left l e pushed split =
    split-taken n x taken after left (drop (i + 1) places) pushed (subst (λ zs. AreSplit n taken (left ++ zs)) (next-place places i x l e) split)

next-left : (n i x : ℕ) (places taken left after : List ℕ) → i < length places → x ≡ get_or places i 0 → after ≡ left ++ x ∷ [] →
    AreSplit n taken (left ++ drop i places) → AreSplit n taken (after ++ drop (i + 1) places)
next-left n i x places taken left after l e pushed split =
    split-left n x taken left after (drop (i + 1) places) pushed (subst (λ zs. AreSplit n taken (left ++ zs)) (next-place places i x l e) split)

-- the next goal holds, or is undecided
pub next-says : (old now : State) (m : TypingMode) (goals : List (GoalSource × Goal Predicate)) (places taken left taken_then left_then : List ℕ) (i x : ℕ) (d : GoalSource × Goal Predicate) (a : Certainty) →
    i < length places → x ≡ get_or places i 0 → slice_get goals x ≡ Some d → ChangesRecords old now → IsListed a x taken left taken_then left_then →
    LeavesUndecided old m goals places (drop i places) left → IsGoalAnswer now m d.1 (Ok a) → LeavesUndecided old m goals places (drop (i + 1) places) left_then
next-says old now m goals places taken left taken_then left_then i x d certainty.Yes l e read alone listed says answer =
    subst (LeavesUndecided old m goals places (drop (i + 1) places)) (sym listed.1) (next-yes old now m goals places left i x d l e read alone says answer)
next-says old now m goals places taken left taken_then left_then i x d certainty.Maybe l e read alone listed says answer =
    next-maybe old now m goals places left left_then i x d l e read listed.1 alone says answer

-- it is answered exactly, as one of those that wait
pub next-waits : (places left : List ℕ) (i x : ℕ) → i < length places → x ≡ get_or places i 0 → 0 < count_of x (left ++ drop i places)
next-waits places left i x l e =
    omega (arith, count-joined x left (drop i places), ap (count_of x) (next-place places i x l e), count-one x x (drop (i + 1) places), same-itself x)

pub next-answerable : (now : State) (goals : List (GoalSource × Goal Predicate)) (places left : List ℕ) (i x : ℕ) (d : GoalSource × Goal Predicate) → i < length places → x ≡ get_or places i 0 →
    slice_get goals x ≡ Some d → AreAnswerableAt now goals (left ++ drop i places) → IsAnswerable now d.1.predicate d.1.param_env.items
next-answerable now goals places left i x d l e read ok = ok.each x d read (next-waits places left i x l e)

-- those that wait then wait now
later-waits : (i x : ℕ) (left rest left_then taken taken_then : List ℕ) (a : Certainty) → IsListed a x taken left taken_then left_then →
    0 < count_of i (left_then ++ rest) → 0 < count_of i (left ++ x ∷ rest)
later-waits i x left rest left_then taken taken_then certainty.Yes listed h =
    omega (arith, h, ap (λ zs. count_of i (zs ++ rest)) listed.1, count-joined i left rest, count-joined i left (x ∷ rest), count-one i x rest)
later-waits i x left rest left_then taken taken_then certainty.Maybe listed h =
    omega (
      arith,
      h,
      ap (λ zs. count_of i (zs ++ rest)) listed.1,
      count-joined i (left ++ x ∷ []) rest,
      count-joined i left (x ∷ []),
      count-one i x [],
      count-none i,
      count-joined i left (x ∷ rest),
      count-one i x rest,
    )

-- the one that held doesn't wait any more
gone : (n x : ℕ) (left rest taken : List ℕ) → AreSplit n taken (left ++ x ∷ rest) → count_of x (left ++ rest) ≡ 0
gone n x left rest taken split =
    omega (arith, split x, one_below-once x n, count-joined x left (x ∷ rest), count-one x x rest, same-itself x, count-joined x left rest)

-- a goal that gave its variable a term leaves the others as they were
waits-others : (now new : State) (goals : List (GoalSource × Goal Predicate)) (n i x : ℕ) (d p : GoalSource × Goal Predicate) (left rest taken : List ℕ) → new.tables ≡ now.tables →
    slice_get goals x ≡ Some d → slice_get goals i ≡ Some p → AreSplit n taken (left ++ x ∷ rest) → 0 < count_of i (left ++ rest) → 0 < count_of i (left ++ x ∷ rest) → 0 < count_of x (left ++ x ∷ rest) →
    AreAnswerableAt now goals (left ++ x ∷ rest) → (q : NormalizesTo) → d.1.predicate ≡ predicate.NormalizesTo q →
    (m : ℕ) → tree_of_term q.term ≡ variable (taking (is_type_kind q.alias.kind) m) → KeepsOthers m now new → IsAnswerable new p.1.predicate p.1.param_env.items
waits-others now new goals n i x d p left rest taken e read at split waits waited here ok q is m expects kept =
    answerable-others now new p.1.predicate p.1.param_env.items m e kept other (ok.each i p at waited) where
      other : (r : NormalizesTo) → p.1.predicate ≡ predicate.NormalizesTo r → tree_of_term r.term ≡ variable (taking (is_type_kind r.alias.kind) m) → ⊥
      other r of same =
          let one : i ≡ x =
          ok.apart i x p d r.term q.term at read waited here (ap expected_in of) (ap expected_in is)
          (one-variable now r q p.1.param_env.items d.1.param_env.items m
          (subst (λ (z : Predicate). IsAnswerable now z p.1.param_env.items) of (ok.each i p at waited))
          (subst (λ (z : Predicate). IsAnswerable now z d.1.param_env.items) is (ok.each x d read here)) same expects) in
          absurd (omega (arith, waits, ap (λ j. count_of j (left ++ rest)) one, gone n x left rest taken split))

-- so all that wait then are answered exactly
held-waits : (now new : State) (goals : List (GoalSource × Goal Predicate)) (n i x : ℕ) (d p : GoalSource × Goal Predicate) (left rest taken : List ℕ) → new.tables ≡ now.tables →
    slice_get goals x ≡ Some d → slice_get goals i ≡ Some p → AreSplit n taken (left ++ x ∷ rest) → 0 < count_of i (left ++ rest) → 0 < count_of i (left ++ x ∷ rest) → 0 < count_of x (left ++ x ∷ rest) →
    AreAnswerableAt now goals (left ++ x ∷ rest) → (L : Level) (z : Predicate) → d.1.predicate ≡ z → BindsItsOwn L z now new → IsAnswerable new p.1.predicate p.1.param_env.items
held-waits now new goals n i x d p left rest taken e read at split waits waited here ok L (predicate.Trait q) is kept =
    answerable-same now new p.1.predicate p.1.param_env.items e kept (ok.each i p at waited)
held-waits now new goals n i x d p left rest taken e read at split waits waited here ok L (predicate.Projection q) is kept =
    answerable-same now new p.1.predicate p.1.param_env.items e kept (ok.each i p at waited)
held-waits now new goals n i x d p left rest taken e read at split waits waited here ok L (predicate.HostEffect q) is kept =
    answerable-same now new p.1.predicate p.1.param_env.items e kept (ok.each i p at waited)
held-waits now new goals n i x d p left rest taken e read at split waits waited here ok L (predicate.NormalizesTo q) is kept =
    waits-others now new goals n i x d p left rest taken e read at split waits waited here ok q is kept.number kept.expects kept.others
held-waits now new goals n i x d p left rest taken e read at split waits waited here ok L predicate.Ambiguous is kept =
    answerable-same now new p.1.predicate p.1.param_env.items e kept (ok.each i p at waited)

each-waits : (now new : State) (goals : List (GoalSource × Goal Predicate)) (n i x : ℕ) (d p : GoalSource × Goal Predicate) (left rest left_then taken taken_then : List ℕ) (a : Certainty) →
    new.tables ≡ now.tables → slice_get goals x ≡ Some d → slice_get goals i ≡ Some p → AreSplit n taken (left ++ x ∷ rest) → IsListed a x taken left taken_then left_then →
    0 < count_of i (left_then ++ rest) → 0 < count_of x (left ++ x ∷ rest) → AreAnswerableAt now goals (left ++ x ∷ rest) → (L : Level) → BindsFor L d.1.predicate (Ok a) now new →
    IsAnswerable new p.1.predicate p.1.param_env.items
each-waits now new goals n i x d p left rest left_then taken taken_then certainty.Yes e read at split listed waits here ok L binds =
    held-waits now new goals n i x d p left rest taken e read at split (omega (arith, waits, ap (λ zs. count_of i (zs ++ rest)) listed.1))
    (later-waits i x left rest left_then taken taken_then certainty.Yes listed waits) here ok L d.1.predicate refl binds
each-waits now new goals n i x d p left rest left_then taken taken_then certainty.Maybe e read at split listed waits here ok L binds =
    answerable-same now new p.1.predicate p.1.param_env.items e binds (ok.each i p at (later-waits i x left rest left_then taken taken_then certainty.Maybe listed waits))

pub next-waiting : (now new : State) (goals : List (GoalSource × Goal Predicate)) (n i x : ℕ) (d : GoalSource × Goal Predicate) (places left left_then taken taken_then : List ℕ) (a : Certainty) →
    i < length places → x ≡ get_or places i 0 → slice_get goals x ≡ Some d → new.tables ≡ now.tables → IsListed a x taken left taken_then left_then → AreSplit n taken (left ++ drop i places) →
    AreAnswerableAt now goals (left ++ drop i places) → (L : Level) → BindsFor L d.1.predicate (Ok a) now new → AreAnswerableAt new goals (left_then ++ drop (i + 1) places)
next-waiting now new goals n i x d places left left_then taken taken_then a l e read same listed split ok L binds =
    let rest : List ℕ = drop (i + 1) places in
    let parted : AreSplit n taken (left ++ x ∷ rest) = subst (λ zs. AreSplit n taken (left ++ zs)) (next-place places i x l e) split in
    let good : AreAnswerableAt now goals (left ++ x ∷ rest) = subst (λ zs. AreAnswerableAt now goals (left ++ zs)) (next-place places i x l e) ok in
    let here : 0 < count_of x (left ++ x ∷ rest) = omega (arith, count-joined x left (x ∷ rest), count-one x x rest, same-itself x) in
    record {
      each = λ j p at waits. each-waits now new goals n j x d p left rest left_then taken taken_then a same read at parted listed waits here good L binds;
      apart = λ j k p q y z at there w v.
          good.apart j k p q y z at there (later-waits j x left rest left_then taken taken_then a listed w) (later-waits k x left rest left_then taken taken_then a listed v);
    }

-- what is said at a level doesn't depend on what changes
its-level : (old now new : State) (m : TypingMode) (g : Goal Predicate) → ChangesRecords old now → TakesIts (level_over now m g.param_env.items) g.predicate new →
    TakesIts (level_over old m g.param_env.items) g.predicate new
its-level old now new m g e h = subst (λ (s : State). TakesIts (level_over s m g.param_env.items) g.predicate new) e h

-- the variables of the goals that don't wait any more are bound to terms of their aliases
module _ (old now new : State) (m : TypingMode) (goals : List (GoalSource × Goal Predicate)) (x : ℕ) (d : GoalSource × Goal Predicate) (places left rest left_then taken taken_then : List ℕ)
    (read : slice_get goals x ≡ Some d) (alone : ChangesRecords old now) (back : GoesBack now new) (takes : AllTakeAt old m goals places (left ++ x ∷ rest) now) where
  takes-here : (a : Certainty) → IsListed a x taken left taken_then left_then → BindsFor (level_over now m d.1.param_env.items) d.1.predicate (Ok a) now new →
      (j : ℕ) (p : GoalSource × Goal Predicate) → slice_get goals j ≡ Some p → count_of j (left_then ++ rest) ≡ 0 → 0 < count_of j (left ++ x ∷ rest) →
      TakesIts (level_over old m p.1.param_env.items) p.1.predicate new
  takes-here certainty.Yes listed binds j p at gone waits =
      let one : j ≡ x =
      same-is j x (omega (arith, waits, gone, ap (λ zs. count_of j (zs ++ rest)) listed.1, count-joined j left rest, count-joined j left (x ∷ rest), count-one j x rest)) in
      subst (λ (q : GoalSource × Goal Predicate). TakesIts (level_over old m q.1.param_env.items) q.1.predicate new) (some-is d p (sym read ∙ ap (slice_get goals) (sym one) ∙ at))
      (its-level old now new m d.1 alone (holds-takes (level_over now m d.1.param_env.items) d.1.predicate now new binds))
  takes-here certainty.Maybe listed binds j p at gone waits =
      absurd (omega (
        arith,
        waits,
        gone,
        ap (λ zs. count_of j (zs ++ rest)) listed.1,
        count-joined j (left ++ x ∷ []) rest,
        count-joined j left (x ∷ []),
        count-one j x [],
        count-none j,
        count-joined j left (x ∷ rest),
        count-one j x rest,
      ))

  takes-then : (a : Certainty) → IsListed a x taken left taken_then left_then → BindsFor (level_over now m d.1.param_env.items) d.1.predicate (Ok a) now new →
      AllTakeAt old m goals places (left_then ++ rest) new
  takes-then a listed binds j p at among gone = by-zero (count_of j (left ++ x ∷ rest)) _
      (λ e. its-later (level_over old m p.1.param_env.items) p.1.predicate now new back (takes j p at among e))
      (λ waits. takes-here a listed binds j p at gone waits)

pub next-takes : (old now new : State) (m : TypingMode) (goals : List (GoalSource × Goal Predicate)) (i x : ℕ) (d : GoalSource × Goal Predicate) (places left left_then taken taken_then : List ℕ) (a : Certainty) →
    i < length places → x ≡ get_or places i 0 → slice_get goals x ≡ Some d → ChangesRecords old now → GoesBack now new → IsListed a x taken left taken_then left_then →
    AllTakeAt old m goals places (left ++ drop i places) now → BindsFor (level_over now m d.1.param_env.items) d.1.predicate (Ok a) now new →
    AllTakeAt old m goals places (left_then ++ drop (i + 1) places) new
next-takes old now new m goals i x d places left left_then taken taken_then a l e read alone back listed takes binds =
    takes-then old now new m goals x d places left (drop (i + 1) places) left_then taken taken_then read alone back
    (subst (λ zs. AllTakeAt old m goals places (left ++ zs) now) (next-place places i x l e) takes) a listed binds

pub ends-taking : (old now : State) (m : TypingMode) (goals : List (GoalSource × Goal Predicate)) (places left : List ℕ) (i : ℕ) → length places ≤ i →
    AllTakeAt old m goals places (left ++ drop i places) now → AllTakeAt old m goals places left now
ends-taking old now m goals places left i l =
    subst (λ zs. AllTakeAt old m goals places zs now) (ap (λ zs. left ++ zs) (drop_all i places l) ∙ append-nil left)

-- before a round all wait
pub takes-none : (s now : State) (m : TypingMode) (goals : List (GoalSource × Goal Predicate)) (places : List ℕ) → AllTakeAt s m goals places places now
takes-none s now m goals places i p at l r = absurd (omega (arith, l, r))

-- rounds one after the other
pub takes-over : (old now new : State) (m : TypingMode) (goals : List (GoalSource × Goal Predicate)) (places pending left : List ℕ) → ChangesRecords old now → GoesBack now new →
    AllTakeAt old m goals places pending now → AllTakeAt now m goals pending left new → AllTakeAt old m goals places left new
takes-over old now new m goals places pending left alone back before round i p at l r = by-zero (count_of i pending) _
    (λ e. its-later (level_over old m p.1.param_env.items) p.1.predicate now new back (before i p at l e))
    (λ waits. its-level old now new m p.1 alone (round i p at waits r))

-- after the last place those that are left wait
pub ends-waiting : (s : State) (goals : List (GoalSource × Goal Predicate)) (places left : List ℕ) (i : ℕ) → length places ≤ i →
    AreAnswerableAt s goals (left ++ drop i places) → AreAnswerableAt s goals left
ends-waiting s goals places left i l = subst (AreAnswerableAt s goals) (ap (λ zs. left ++ zs) (drop_all i places l) ∙ append-nil left)

pub next-split : (n i x : ℕ) (places taken left taken_then left_then : List ℕ) (a : Certainty) → i < length places → x ≡ get_or places i 0 → IsListed a x taken left taken_then left_then →
    AreSplit n taken (left ++ drop i places) → AreSplit n taken_then (left_then ++ drop (i + 1) places)
next-split n i x places taken left taken_then left_then certainty.Yes l e listed split =
    subst (λ zs. AreSplit n taken_then (zs ++ drop (i + 1) places)) (sym listed.1) (next-taken n i x places taken taken_then left l e listed.0 split)
next-split n i x places taken left taken_then left_then certainty.Maybe l e listed split =
    subst (λ zs. AreSplit n zs (left_then ++ drop (i + 1) places)) (sym listed.0) (next-left n i x places taken left left_then l e listed.1 split)

pub next-begins : (start taken left taken_then left_then : List ℕ) (x : ℕ) (a : Certainty) → IsListed a x taken left taken_then left_then → BeginsWith taken start → BeginsWith taken_then start
next-begins start taken left taken_then left_then x certainty.Yes listed h =
    begins-through start taken taken_then h (ap (take (length taken)) listed.0 ∙ take-append_seam taken (x ∷ []))
next-begins start taken left taken_then left_then x certainty.Maybe listed h = ap (take (length start)) listed.0 ∙ h

-- after the last place
pub ends-says : (s : State) (m : TypingMode) (goals : List (GoalSource × Goal Predicate)) (places left : List ℕ) (i : ℕ) → length places ≤ i →
    LeavesUndecided s m goals places (drop i places) left → LeavesUndecided s m goals places [] left
ends-says s m goals places left i l h = subst (λ zs. LeavesUndecided s m goals places zs left) (drop_all i places l) h

pub ends-split : (n i : ℕ) (places taken left : List ℕ) → length places ≤ i → AreSplit n taken (left ++ drop i places) → AreSplit n taken left
ends-split n i places taken left l split = subst (AreSplit n taken) (ap (λ zs. left ++ zs) (drop_all i places l) ∙ append-nil left) split

-- whether places are left
no-places : (xs : List ℕ) → length xs ≡ 0 → xs ≡ []
no-places [] e = refl
no-places (x ∷ xs) e = absurd (omega (arith, e))

pub left-none : (n : ℕ) (b : Bool) (xs : List ℕ) → n ≡ length xs → b ≡ (n == 0) → b ≡ true → xs ≡ []
left-none n b xs l e f = no-places xs (no_args xs b (e ∙ ap (λ k. k == 0) l) f)

pub left-some : (n : ℕ) (b : Bool) (xs : List ℕ) → n ≡ length xs → b ≡ (n == 0) → b ≡ false → 0 < length xs
left-some n b xs l e f = some_args xs b (e ∙ ap (λ k. k == 0) l) f

-- a fault that is handed on
pub handed-on : {T : Type 0} (r : Result T Fault) (e : Fault) (P : Result T Fault → Type 0) → IsErrAnd r (λ f. f ≡ e) → P (Err e) → P r
handed-on (Ok x) e P h p = absurd h
handed-on (Err f) e P h p = subst (λ g. P (Err g)) (sym h) p

-- a round in which nothing was bound leaves the lengths
pub same-lengths : (a b : State) → ChangesRecords a b → b.inference ≡ a.inference → lengths_of b ≡ lengths_of a
same-lengths a b e f = ap lengths_of e ∙ ap (λ (i : Inference). lengths_of (record a { inference = i })) f

-- rounds one after the other: what a later one leaves undecided is so, and the others hold
pub rounds-through : (s : State) (m : TypingMode) (goals : List (GoalSource × Goal Predicate)) (places pending left : List ℕ) → LeavesUndecided s m goals places [] pending →
    LeavesUndecided s m goals pending [] left → LeavesUndecided s m goals places [] left
rounds-through s m goals places pending left f g = record {
  undecided = g.undecided;
  settled = λ i p at c l r. settled-one i p at c l r (count_of i pending) refl;
  among = λ i c. f.among i (g.among i c);
} where
  settled-one : (i : ℕ) (p : GoalSource × Goal Predicate) → slice_get goals i ≡ Some p → 0 < count_of i places → count_of i left ≡ 0 → count_of i [] ≡ 0 →
      (n : ℕ) → count_of i pending ≡ n → HoldsIn s m p.1
  settled-one i p at c l r zero e = f.settled i p at c e r
  settled-one i p at c l r (suc n) e = g.settled i p at (omega (arith, e)) l r

-- which goals hold and are refuted does not depend on what changes
left-before : (old now : State) (m : TypingMode) (goals : List (GoalSource × Goal Predicate)) (places left : List ℕ) → ChangesRecords old now →
    LeavesUndecided now m goals places [] left → LeavesUndecided old m goals places [] left
left-before old now m goals places left e h = record {
  undecided = λ i p at c. (
    λ x. (h.undecided i p at c).0 (subst (λ (s : State). HoldsIn s m p.1) (sym e) x),
    λ x. (h.undecided i p at c).1 (subst (λ (s : State). IsRefutedIn s m p.1) (sym e) x),
  );
  settled = λ i p at c l r. subst (λ (s : State). HoldsIn s m p.1) e (h.settled i p at c l r);
  among = h.among;
}

-- what a round leaves undecided
pub gone-over : (old now : State) (m : TypingMode) (goals : List (GoalSource × Goal Predicate)) (places pending left : List ℕ) (round : ℕ) → ChangesRecords old now →
    IsGoneOver old m goals places pending round → LeavesUndecided now m goals pending [] left → LeavesUndecided old m goals places [] left
gone-over old now m goals places pending left round alone (inl first) h =
    subst (λ zs. LeavesUndecided old m goals zs [] left) first.1 (left-before old now m goals pending left alone h)
gone-over old now m goals places pending left round alone (inr later) h = rounds-through old m goals places pending left later.0 (left-before old now m goals pending left alone h)

pub over-done : (old : State) (m : TypingMode) (goals : List (GoalSource × Goal Predicate)) (places left : List ℕ) → left ≡ [] → LeavesUndecided old m goals places [] left → AllHoldAt old m goals places
over-done old m goals places left none h = all-hold old m goals places left none h

pub over-open : (old : State) (m : TypingMode) (goals : List (GoalSource × Goal Predicate)) (taken places left : List ℕ) → 0 < length left → AreSplit (length goals) taken left →
    LeavesUndecided old m goals places [] left → (AllHoldAt old m goals places → ⊥) × (SomeRefutedAt old m goals places → ⊥)
over-open old m goals taken places left some split h = let x = some-counted left some in some-left old m goals taken places left x.0 x.1 split h

-- after all rounds some goals are left
pub over-last : (old : State) (m : TypingMode) (goals : List (GoalSource × Goal Predicate)) (taken places pending : List ℕ) (round : ℕ) → 0 < round → AreSplit (length goals) taken pending →
    IsGoneOver old m goals places pending round → (AllHoldAt old m goals places → ⊥) × (SomeRefutedAt old m goals places → ⊥)
over-last old m goals taken places pending round l split (inl first) = absurd (omega (arith, l, first.0))
over-last old m goals taken places pending round l split (inr later) = over-open old m goals taken places pending later.1 split later.0

-- a refusal of a later round is one of all
refused-among : (old : State) (m : TypingMode) (goals : List (GoalSource × Goal Predicate)) (places pending : List ℕ) (round : ℕ) → IsGoneOver old m goals places pending round →
    SomeRefutedAt old m goals pending → SomeRefutedAt old m goals places
refused-among old m goals places pending round (inl first) h = subst (λ zs. SomeRefutedAt old m goals zs) first.1 h
refused-among old m goals places pending round (inr later) h = (h.0, h.1, h.2, later.0.among h.0 h.3, h.4)

pub over-fault : (old now : State) (m : TypingMode) (goals : List (GoalSource × Goal Predicate)) (places pending : List ℕ) (round : ℕ) (f : Fault) → ChangesRecords old now →
    IsGoneOver old m goals places pending round → IsRefusalAt now m goals pending f → IsAnswerAt old m goals places (Err f)
over-fault old now m goals places pending round fault.NoSolution alone over h =
    refused-among old m goals places pending round over (subst (λ (s : State). SomeRefutedAt s m goals pending) alone h)
over-fault old now m goals places pending round fault.RerunNonErased alone over h = tt
over-fault old now m goals places pending round fault.OutOfMemory alone over h = tt
over-fault old now m goals places pending round fault.NotForThisKind alone over h = tt
