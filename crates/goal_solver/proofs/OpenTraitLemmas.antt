-- Trait goals with inference variables that were added: what computing and applying their answers leaves.
use Rattle.std.proofs.Common.{◌≡◌, ◌<◌, ◌==◌, ℕ, Bool, true, List, [], ◌∷◌, length, take, Option, Some, None, Result, Ok, Err, refl, sym, ap, subst, ◌∙◌, arith}
use Rattle.std.specs.Prelude.{IfOk, IfSome}
use Rattle.goal_terms.specs.declared.answers.OpaqueAccess.{OpaqueAccess}
use Rattle.goal_terms.specs.declared.answers.Response.{Response}
use Rattle.goal_interner.specs.TableMeaning.{Keeps}
use Rattle.goal_terms.specs.Tree.{Tree}
use Rattle.goal_interner.specs.declared.term_nodes.TermId.{TermId}
use Rattle.goal_terms.specs.declared.terms.Term.{Term}
use Rattle.goal_tables.specs.declared.rows.Tables.{Tables}
use Rattle.goal_lists.specs.Interned.{IsIn}
use Rattle.goal_lists.proofs.InternedLemmas.{in-grown}
use Rattle.goal_kinds.specs.declared.faults.Fault.{Fault}
use Rattle.goal_kinds.specs.declared.faults.Fault.TheVariants as fault
use Rattle.goal_solver.specs.Accesses.{uncaused, uncaused_faults, RecordsCausedFaults}
use Rattle.goal_solver.specs.Binding.{AppliesAside, GetValues, with_equations}
use Rattle.goal_solver.specs.GoingBack.{BeginsWith, GoesBack, restored}
use Rattle.goal_solver.specs.Relating.{ChangesInference, ChangesRecords, IsFaultFor}
use Rattle.goal_solver.specs.State.{State}
use Rattle.goal_solver.specs.Variables.{with_variables}
use Rattle.goal_solver.proofs.AddedGoalLemmas.{inference-through}
use Rattle.goal_eval.proofs.ProjectionGroupLemmas.{no_args}

-- more terms are no other change
pub grown-records : (s a : State) → a ≡ record s { terms = a.terms } → ChangesRecords s a
grown-records s a e = e ∙ sym (ap (λ (x : State). record s { terms = a.terms; inference = x.inference; accesses = x.accesses; delayed_faults = x.delayed_faults }) e)

-- what is nothing where a claim holds is something only where it doesn't
apart : {A : Type 0} (x : A) → None ≡ Some x → ⊥
apart x e = cc

pub some-unless : {A : Type 0} (C : Type 0) (o : Option A) (x : A) → (C → o ≡ None) → o ≡ Some x → C → ⊥
some-unless C o x h is c = apart x (sym (h c) ∙ is)

-- what is restored has no other change
pub restored-records : (s b : State) → b ≡ restored s b → ChangesRecords s b
restored-records s b e =
    e ∙ sym (ap (λ (x : State). record s { terms = b.terms; inference = x.inference; accesses = b.accesses; delayed_faults = b.delayed_faults }) e)

-- delayed faults are let go of
pub let-go : (s b z : State) → ChangesRecords s b → z ≡ record b { delayed_faults = z.delayed_faults } → ChangesRecords s z
let-go s b z e f =
    let g : z ≡ record s { terms = b.terms; inference = b.inference; accesses = b.accesses; delayed_faults = z.delayed_faults } = f ∙ ap (λ (x : State). record x { delayed_faults = z.delayed_faults }) e in
    g ∙ sym (ap (λ (x : State). record s { terms = x.terms; inference = x.inference; accesses = x.accesses; delayed_faults = z.delayed_faults }) g)

let-go-begins : (s b z : State) (n : ℕ) → n ≡ length s.delayed_faults → GoesBack s b → take n z.delayed_faults ≡ take n b.delayed_faults → BeginsWith z.delayed_faults s.delayed_faults
let-go-begins s b z n e back kept =
    ap (λ k. take k z.delayed_faults) (sym e) ∙ kept ∙ ap (λ k. take k b.delayed_faults) e ∙ back.delayed_faults

pub let-go-back : (s b z : State) (n : ℕ) → n ≡ length s.delayed_faults → GoesBack s b → z ≡ record b { delayed_faults = z.delayed_faults } →
    take n z.delayed_faults ≡ take n b.delayed_faults → GoesBack s z
let-go-back s b z n count back e kept =
    let here : GoesBack s (record b { delayed_faults = z.delayed_faults }) = record {
      tables = back.tables;
      typing_mode = back.typing_mode;
      remaining_depth = back.remaining_depth;
      stop_on_rerun = back.stop_on_rerun;
      terms = back.terms;
      inference = back.inference;
      goals = back.goals;
      taken = back.taken;
      storage = back.storage;
      accesses = back.accesses;
      delayed_faults = let-go-begins s b z n count back kept;
      mark = back.mark;
    } in
    subst (GoesBack s) (sym e) here

-- those that stay and weren't there before have their cause
pub let-go-caused : (s b z : State) (n : ℕ) → n ≡ length s.delayed_faults → GoesBack s b → uncaused_faults z ≡ uncaused b.tables (take n b.delayed_faults) → RecordsCausedFaults s z
let-go-caused s b z n e back h =
    h ∙ ap (λ (t : Tables). uncaused t (take n b.delayed_faults)) back.tables ∙ ap (uncaused s.tables) (ap (λ k. take k b.delayed_faults) e ∙ back.delayed_faults)

pub let-go-fault : (T : Type 0) (s b z : State) (r : Result T Fault) → z ≡ record b { delayed_faults = z.delayed_faults } → IsFaultFor s b r → IsFaultFor s z r
let-go-fault T s b z (Ok x) e h = tt
let-go-fault T s b z (Err fault.NoSolution) e h = tt
let-go-fault T s b z (Err fault.RerunNonErased) e h = (h.0, subst (λ (xs : List OpaqueAccess). 0 < length xs) (sym (ap (λ (x : State). x.accesses) e)) h.1)
let-go-fault T s b z (Err fault.OutOfMemory) e h = tt
let-go-fault T s b z (Err fault.NotForThisKind) e h = h

-- more terms make no other fault
pub ended-fault : (T : Type 0) (s b z : State) (r : Result T Fault) → z ≡ record b { terms = z.terms } → IsFaultFor s b r → IsFaultFor s z r
ended-fault T s b z (Ok x) e h = tt
ended-fault T s b z (Err fault.NoSolution) e h = tt
ended-fault T s b z (Err fault.RerunNonErased) e h = (h.0, subst (λ (xs : List OpaqueAccess). 0 < length xs) (sym (ap (λ (x : State). x.accesses) e)) h.1)
ended-fault T s b z (Err fault.OutOfMemory) e h = tt
ended-fault T s b z (Err fault.NotForThisKind) e h = h

-- the number of a head form is in a table that has grown
pub form-grown : (T U : List Tree) (r : Result (Option TermId) Fault) → Keeps T U → IfOk r (λ o. IfSome o (IsIn T)) → IfOk r (λ o. IfSome o (IsIn U))
form-grown T U (Ok (Some id)) k h = in-grown T U k id h
form-grown T U (Ok None) k h = tt
form-grown T U (Err f) k h = tt

-- values that are given change inference state alone
given-alone : (s z : State) (ps : List (ℕ × Term)) → GetValues s z ps → ChangesInference s z
unfolding GetValues
given-alone s z [] h = h.0
given-alone s z (p ∷ ps) h = inference-through s h.1 z h.3.alone (given-alone h.1 z ps h.4)

-- an answer that is applied but for its hidden types changes records alone
pub aside-records : (s z : State) (q : Response) → AppliesAside s z q → ChangesRecords s z
aside-records s z q h =
    let valued : ChangesInference s h.valued = inference-through s (with_variables q.vars.items s) h.valued refl (given-alone (with_variables q.vars.items s) h.valued q.var_values.items h.values) in
    let all : ChangesInference s z =
    subst (ChangesInference s) (sym h.equated) (inference-through s h.valued (with_equations q.region_equations.items h.valued) valued refl) in
    all ∙ sym (ap (λ (x : State). record s { terms = z.terms; inference = z.inference; accesses = x.accesses; delayed_faults = x.delayed_faults }) all)

-- a list without elements
none-there : {A : Type 0} (xs : List A) → length xs ≡ 0 → xs ≡ []
none-there [] e = refl
none-there (x ∷ xs) e = absurd (omega (arith, e))

pub no-elements : {A : Type 0} (n : ℕ) (xs : List A) (b : Bool) → n ≡ length xs → b ≡ (n == 0) → b ≡ true → xs ≡ []
no-elements n xs b l e f = none-there xs (no_args xs b (e ∙ ap (λ k. k == 0) l) f)
