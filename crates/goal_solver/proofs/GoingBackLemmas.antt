-- Going back composes, and what a rollback gives.
use Rattle.std.proofs.Common.{◌≡◌, ℕ, zero, suc, ◌<◌, ◌≤◌, List, [], ◌∷◌, ◌++◌, length, take, drop, refl, sym, ap, ◌∙◌, subst, arith, le_refl, le_trans}
use Rattle.std.proofs.lemmas.List.{length-take, take-take}
use Rattle.std.proofs.Math.Seq.{take-length, take-append_seam}
use Rattle.goal_terms.specs.Tree.{Tree}
use Rattle.goal_interner.specs.TableMeaning.{Keeps}
use Rattle.goal_terms.specs.declared.answers.DelayedFault.{DelayedFault}
use Rattle.goal_terms.specs.declared.answers.GoalSource.{GoalSource}
use Rattle.goal_terms.specs.declared.answers.OpaqueAccess.{OpaqueAccess}
use Rattle.goal_terms.specs.declared.answers.OpaqueTypeKey.{OpaqueTypeKey}
use Rattle.goal_terms.specs.declared.answers.VarKind.{VarKind}
use Rattle.goal_terms.specs.declared.predicates.Goal.{Goal}
use Rattle.goal_terms.specs.declared.predicates.Predicate.{Predicate}
use Rattle.goal_terms.specs.declared.terms.Ty.{Ty}
use Rattle.goal_infer.specs.Inference as inference
use Rattle.goal_infer.specs.Inference.{Inference, rolled_back}
use Rattle.goal_infer.specs.Resolution.{IsSolved}
use Rattle.goal_infer.specs.Undo.{unbound_at, unbound}
use Rattle.goal_infer.specs.declared.state.Snapshot as lengths
use Rattle.goal_infer.specs.declared.undo.InferVariable.{InferVariable}
use Rattle.goal_infer.proofs.SolvedLemmas.{solved-kept}
use Rattle.goal_infer.proofs.UndoLemmas.{goes_back-same as inference_goes_back-same}
use Rattle.goal_infer.proofs.GoesBackLemmas.{goes_back-through as inference_goes_back-through}
use Rattle.goal_solver.specs.Added.{with_goals}
use Rattle.goal_solver.specs.GoingBack.{BeginsWith, GoesBack, lengths_of, restored, begun}
use Rattle.goal_solver.specs.State.{State, AreTaken, IsValid, kinds_in}
use Rattle.goal_solver.specs.declared.context.Snapshot.{Snapshot}

-- a table of terms keeps its own terms, and those of a table whose terms it keeps
keeps-same : (ts : List Tree) → Keeps ts ts
keeps-same ts = record { longer = le_refl _; same = λ id h. refl }

keeps-through : (ts us vs : List Tree) → Keeps ts us → Keeps us vs → Keeps ts vs
keeps-through ts us vs g h = record {
  longer = le_trans g.longer h.longer;
  same = λ id e. h.same id (omega (arith, e, g.longer)) ∙ g.same id e;
}

-- a list's beginning is no longer than the list
beginning-shorter : {A : Type 0} (xs ys : List A) → BeginsWith ys xs → length xs ≤ length ys
beginning-shorter xs ys e = omega (arith, ap length e, length-take (length xs) ys)

-- a beginning of a beginning is one
pub begins-through : {A : Type 0} (xs ys zs : List A) → BeginsWith ys xs → BeginsWith zs ys → BeginsWith zs xs
begins-through xs ys zs e h =
    sym (take-take (length xs) (length ys) zs (beginning-shorter xs ys e)) ∙ ap (take (length xs)) h ∙ e

-- a context goes back to itself
pub goes_back-same : (s : State) → GoesBack s s
goes_back-same s = record {
  tables = refl;
  typing_mode = refl;
  remaining_depth = refl;
  stop_on_rerun = refl;
  terms = keeps-same s.terms;
  inference = inference_goes_back-same s.inference;
  goals = take-length s.goals;
  taken = take-length s.taken;
  storage = take-length s.storage;
  accesses = take-length s.accesses;
  delayed_faults = take-length s.delayed_faults;
  mark = refl;
}

pub goes_back-when_same : (s z : State) → z ≡ s → GoesBack s z
goes_back-when_same s z e = subst (GoesBack s) (sym e) (goes_back-same s)

-- what goes back to a context that goes back to another goes back to that
pub goes_back-through : (a b c : State) → GoesBack a b → GoesBack b c → GoesBack a c
goes_back-through a b c g h = record {
  tables = h.tables ∙ g.tables;
  typing_mode = h.typing_mode ∙ g.typing_mode;
  remaining_depth = h.remaining_depth ∙ g.remaining_depth;
  stop_on_rerun = h.stop_on_rerun ∙ g.stop_on_rerun;
  terms = keeps-through a.terms b.terms c.terms g.terms h.terms;
  inference = inference_goes_back-through a.inference b.inference c.inference g.inference h.inference;
  goals = begins-through a.goals b.goals c.goals g.goals h.goals;
  taken = begins-through a.taken b.taken c.taken g.taken h.taken;
  storage = begins-through a.storage b.storage c.storage g.storage h.storage;
  accesses = begins-through a.accesses b.accesses c.accesses g.accesses h.accesses;
  delayed_faults = begins-through a.delayed_faults b.delayed_faults c.delayed_faults g.delayed_faults h.delayed_faults;
  mark = h.mark ∙ g.mark;
}

-- a restored context goes back to the one that was restored
pub goes_back-restored : (a b : State) → GoesBack a b → GoesBack a (restored a b)
goes_back-restored a b g = record {
  tables = refl;
  typing_mode = refl;
  remaining_depth = refl;
  stop_on_rerun = refl;
  terms = g.terms;
  inference = inference_goes_back-same a.inference;
  goals = take-length a.goals;
  taken = take-length a.taken;
  storage = take-length a.storage;
  accesses = g.accesses;
  delayed_faults = g.delayed_faults;
  mark = refl;
}

-- so does one that was restored from within a trial
pub goes_back-tried : (a b : State) → GoesBack (begun a) b → GoesBack a (restored a b)
goes_back-tried a b g =
    let back = goes_back-restored (begun a) b g in
    record {
      tables = refl;
      typing_mode = refl;
      remaining_depth = refl;
      stop_on_rerun = refl;
      terms = back.terms;
      inference = back.inference;
      goals = back.goals;
      taken = back.taken;
      storage = back.storage;
      accesses = back.accesses;
      delayed_faults = back.delayed_faults;
      mark = refl;
    }

-- a context whose lists were lengthened goes back
goes_back-lists : (s : State) (gs : List (GoalSource × Goal Predicate)) (es : List (OpaqueTypeKey × Ty)) (xs : List OpaqueAccess) (fs : List DelayedFault) →
    BeginsWith gs s.goals → BeginsWith es s.storage → BeginsWith xs s.accesses → BeginsWith fs s.delayed_faults →
    GoesBack s (record s { goals = gs; storage = es; accesses = xs; delayed_faults = fs })
goes_back-lists s gs es xs fs a b c d = record {
  tables = refl;
  typing_mode = refl;
  remaining_depth = refl;
  stop_on_rerun = refl;
  terms = keeps-same s.terms;
  inference = inference_goes_back-same s.inference;
  goals = a;
  taken = take-length s.taken;
  storage = b;
  accesses = c;
  delayed_faults = d;
  mark = refl;
}

pub goes_back-when_goals : (s z : State) (gs : List (GoalSource × Goal Predicate)) → z ≡ with_goals gs s → GoesBack s z
goes_back-when_goals s z gs e =
    subst (GoesBack s) (sym e)
    (goes_back-lists s (s.goals ++ gs) s.storage s.accesses s.delayed_faults
    (take-append_seam s.goals gs) (take-length s.storage) (take-length s.accesses) (take-length s.delayed_faults))

pub goes_back-when_entry : (s z : State) (e : OpaqueTypeKey × Ty) → z ≡ record s { storage = s.storage ++ e ∷ [] } → GoesBack s z
goes_back-when_entry s z e h =
    subst (GoesBack s) (sym h)
    (goes_back-lists s s.goals (s.storage ++ e ∷ []) s.accesses s.delayed_faults
    (take-length s.goals) (take-append_seam s.storage (e ∷ [])) (take-length s.accesses) (take-length s.delayed_faults))

-- so does one with more accesses, or more delayed faults, alone
pub goes_back-accesses : (s z : State) → z ≡ record s { accesses = z.accesses } → BeginsWith z.accesses s.accesses → GoesBack s z
goes_back-accesses s z e b =
    subst (GoesBack s) (sym e)
    (goes_back-lists s s.goals s.storage z.accesses s.delayed_faults
    (take-length s.goals) (take-length s.storage) b (take-length s.delayed_faults))

pub goes_back-faults : (s z : State) → z ≡ record s { delayed_faults = z.delayed_faults } → BeginsWith z.delayed_faults s.delayed_faults → GoesBack s z
goes_back-faults s z e b =
    subst (GoesBack s) (sym e)
    (goes_back-lists s s.goals s.storage s.accesses z.delayed_faults
    (take-length s.goals) (take-length s.storage) (take-length s.accesses) b)

-- taking bindings away changes no kind
kinds-unbound_at : (n : ℕ) (vs : List InferVariable) → kinds_in (unbound_at n vs) ≡ kinds_in vs
unfolding unbound_at
kinds-unbound_at n [] = refl
kinds-unbound_at zero (v ∷ vs) = refl
kinds-unbound_at (suc n) (v ∷ vs) = ap (λ ks. v.kind ∷ ks) (kinds-unbound_at n vs)

kinds-unbound : (ns : List ℕ) (vs : List InferVariable) → kinds_in (unbound ns vs) ≡ kinds_in vs
unfolding unbound
kinds-unbound [] vs = refl
kinds-unbound (n ∷ ns) vs = kinds-unbound ns (unbound_at n vs) ∙ kinds-unbound_at n vs

-- kinds are cut with their variables
kinds-cut : (n : ℕ) (vs : List InferVariable) → take (length (take n vs)) (kinds_in vs) ≡ kinds_in (take n vs)
kinds-cut zero vs = refl
kinds-cut (suc n) [] = refl
kinds-cut (suc n) (v ∷ vs) = ap (λ ks. v.kind ∷ ks) (kinds-cut n vs)

-- so they are in step after a rollback
pub kinds-rolled_back : (s z : Inference) (to : lengths.Snapshot) (n : ℕ) (ks ms : List VarKind) →
    z ≡ rolled_back to s → n ≡ length z.variables → ms ≡ take n ks → ks ≡ kinds_in s.variables → ms ≡ kinds_in z.variables
kinds-rolled_back s z to n ks ms e h p q =
    let us : List InferVariable = unbound (drop to.trail s.trail) s.variables in
    let vs : z.variables ≡ take to.variables us = ap (λ (i : Inference). i.variables) e in
    p ∙ ap (λ k. take k ks) (h ∙ ap length vs)
    ∙ ap (take (length (take to.variables us))) (q ∙ sym (kinds-unbound (drop to.trail s.trail) s.variables))
    ∙ kinds-cut to.variables us ∙ ap kinds_in (sym vs)

-- and no more of them
pub cut-shorter : {A : Type 0} (n b : ℕ) (ks ms : List A) → ms ≡ take n ks → length ks < b → length ms < b
cut-shorter n b ks ms e h = omega (arith, ap length e, length-take n ks, h)

-- a context that a rollback restores is solved, over the terms that there are then
pub solved-restored : (s before : State) (to : Snapshot) (z : Inference) → to ≡ lengths_of before → GoesBack before s → IsValid before →
    ((i : Inference) → to.inference ≡ inference.lengths_of i → inference.GoesBack i s.inference → z ≡ i) → IsSolved s.terms z
solved-restored s before to z e g v restored =
    subst (IsSolved s.terms) (sym (restored before.inference (ap (λ (t : Snapshot). t.inference) e) g.inference))
    (solved-kept before.terms s.terms before.inference g.terms v.solved)

-- and the goals that were taken out are some of those that there are
pub taken-restored : (s before : State) (to : Snapshot) (gs : List (GoalSource × Goal Predicate)) (ns : List ℕ) → to ≡ lengths_of before → GoesBack before s → IsValid before →
    gs ≡ take to.goals s.goals → ns ≡ take to.taken s.taken → AreTaken gs ns
taken-restored s before to gs ns e g v p q =
    subst (λ z. AreTaken z ns) (sym (p ∙ ap (λ (t : Snapshot). take t.goals s.goals) e ∙ g.goals))
    (subst (AreTaken before.goals) (sym (q ∙ ap (λ (t : Snapshot). take t.taken s.taken) e ∙ g.taken)) v.taken)

-- none is taken out of none
pub taken-none : AreTaken [] []
taken-none = record { within = λ k d l. absurd (omega arith); once = λ i j x y e. absurd (cc) }

-- what is so of a context is so where a trial begins
pub valid-begun : (s : State) → IsValid s → IsValid (begun s)
valid-begun s v = record { solved = v.solved; taken = v.taken }

-- a solved state is solved over more terms
pub solved-grown : (ts us : List Tree) (s : Inference) → Keeps ts us → IsSolved ts s → IsSolved us s
solved-grown = solved-kept

pub solved-grown_twice : (ts us vs : List Tree) (s : Inference) → Keeps ts us → Keeps us vs → IsSolved ts s → IsSolved vs s
solved-grown_twice ts us vs s g h solved = solved-kept us vs s h (solved-kept ts us s g solved)

-- so does a context with more terms, and another inference state that goes back to the one before
goes_back-with : (a : State) (U : List Tree) (i : Inference) → Keeps a.terms U → inference.GoesBack a.inference i → GoesBack a (record a { terms = U; inference = i })
goes_back-with a U i kept back =
    let same : GoesBack a a = goes_back-same a in
    record {
      tables = refl;
      typing_mode = refl;
      remaining_depth = refl;
      stop_on_rerun = refl;
      terms = kept;
      inference = back;
      goals = same.goals;
      taken = same.taken;
      storage = same.storage;
      accesses = same.accesses;
      delayed_faults = same.delayed_faults;
      mark = refl;
    }

pub goes_back-inferred : (a b : State) → b ≡ record a { terms = b.terms; inference = b.inference } → Keeps a.terms b.terms → inference.GoesBack a.inference b.inference → GoesBack a b
goes_back-inferred a b e kept back = subst (GoesBack a) (sym e) (goes_back-with a b.terms b.inference kept back)

-- one with more terms alone
pub goes_back-grown : (a b : State) → b ≡ record a { terms = b.terms } → Keeps a.terms b.terms → GoesBack a b
goes_back-grown a b e kept =
    let same : GoesBack a a = goes_back-same a in
    subst (GoesBack a) (sym e) (goes_back-with a b.terms a.inference kept same.inference)

-- and one with another inference state alone
pub goes_back-bound : (a b : State) → b ≡ record a { inference = b.inference } → inference.GoesBack a.inference b.inference → GoesBack a b
goes_back-bound a b e back =
    let same : GoesBack a a = goes_back-same a in
    subst (GoesBack a) (sym e) (goes_back-with a a.terms b.inference same.terms back)

pub goes_back-interned : (o s z : State) (U : List Tree) → o ≡ s → z ≡ record o { terms = U } → Keeps o.terms U → GoesBack s z
goes_back-interned o s z U e f kept =
    let same : GoesBack o o = goes_back-same o in
    subst (λ a. GoesBack a z) e (subst (GoesBack o) (sym f) (goes_back-with o U o.inference kept same.inference))
