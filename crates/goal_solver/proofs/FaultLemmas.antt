-- The delayed faults that a call records have their cause in the tables.
use Rattle.std.proofs.Common.{◌≡◌, ◌⊎◌, ◌<◌, ℕ, true, false, Bool, List, [], ◌∷◌, ◌++◌, length, get_or, if◌then◌else◌, inl, inr, refl, sym, ap, ◌∙◌, subst, ⊎_elim}
use Rattle.std.specs.List.{All, Contains}
use Rattle.std.proofs.lemmas.List.Elements.{All-nil, All-cons, All-append, All-get_or, All-contains, All-weaker, Contains-append_left, Contains-append_right, Contains-push}
use Rattle.goal_terms.specs.declared.answers.DelayedFault.{DelayedFault}
use Rattle.goal_tables.specs.declared.rows.Tables.{Tables}
use Rattle.goal_lists.specs.Causes.{IsFaultCaused, has_fault_cause}
use Rattle.goal_solver.specs.Accesses.{uncaused, uncaused_faults, RecordsCausedFaults}
use Rattle.goal_eval.specs.Entering.{Enters, EntersAtMost}
use Rattle.goal_solver.specs.GoingBack.{GoesBack, restored}
use Rattle.goal_solver.specs.Relating.{ChangesInference}
use Rattle.goal_solver.specs.State.{State}

-- one that has its cause leaves the others as they are
pushed-uncaused : (t : Tables) (fs : List DelayedFault) (f : DelayedFault) → IsFaultCaused t f → uncaused t (fs ++ f ∷ []) ≡ uncaused t fs
unfolding uncaused IsFaultCaused
pushed-uncaused t [] f c = ap (λ (b : Bool). (if b then [] else f ∷ []) ++ []) c
pushed-uncaused t (x ∷ fs) f c = ap (λ ys. (if has_fault_cause t x then [] else x ∷ []) ++ ys) (pushed-uncaused t fs f c)

entered-uncaused : (t : Tables) (old new : List DelayedFault) (f : DelayedFault) → IsFaultCaused t f → Enters f old new → uncaused t new ≡ uncaused t old
entered-uncaused t old new f c e = ⊎_elim (λ h. ap (uncaused t) h.1) (λ h. subst (λ xs. uncaused t xs ≡ uncaused t old) (sym h.1) (pushed-uncaused t old f c)) e

pub fault-caused : (a b : State) (f : DelayedFault) → IsFaultCaused a.tables f → b ≡ record a { delayed_faults = b.delayed_faults } → EntersAtMost f a.delayed_faults b.delayed_faults → RecordsCausedFaults a b
fault-caused a b f c e h =
    ap (λ (s : State). uncaused s.tables b.delayed_faults) e ∙ ⊎_elim (λ k. ap (uncaused a.tables) k) (λ k. entered-uncaused a.tables a.delayed_faults b.delayed_faults f c k) h

-- the next of some faults
pub next-caused : (s a b : State) (fs : List DelayedFault) (i : ℕ) (d : DelayedFault) → i < length fs → GoesBack s a → b ≡ record a { delayed_faults = b.delayed_faults } →
    EntersAtMost (get_or fs i d) a.delayed_faults b.delayed_faults → (All (IsFaultCaused s.tables) fs → RecordsCausedFaults s a) → All (IsFaultCaused s.tables) fs → RecordsCausedFaults s b
next-caused s a b fs i d l back e enters h all =
    fault-caused a b (get_or fs i d) (subst (λ t. IsFaultCaused t (get_or fs i d)) (sym back.tables) (All-get_or (IsFaultCaused s.tables) fs i d l all)) e enters ∙ h all

-- what an evaluation met is recorded in the context that it is in
pub run-faults : (t : Tables) (v a b : State) (u : Tables) (old fs : List DelayedFault) → v ≡ a → u ≡ v.tables → old ≡ v.delayed_faults → t ≡ v.tables → All (IsFaultCaused t) fs →
    (All (IsFaultCaused u) fs → uncaused_faults b ≡ uncaused u old) → RecordsCausedFaults a b
run-faults t v a b u old fs same f g e caused h =
    h (subst (λ x. All (IsFaultCaused x) fs) (e ∙ sym f) caused) ∙ ap (λ x. uncaused x old) f ∙ ap (uncaused v.tables) g ∙ ap (λ (s : State). uncaused s.tables s.delayed_faults) same

-- nothing but terms, accesses and the like has come
pub accesses-faults : (a b : State) → b ≡ record a { accesses = b.accesses } → RecordsCausedFaults a b
accesses-faults a b e = ap (λ (s : State). uncaused s.tables s.delayed_faults) e

pub inferred-faults : (a b : State) → ChangesInference a b → RecordsCausedFaults a b
inferred-faults a b e = ap (λ (s : State). uncaused s.tables s.delayed_faults) e

-- what was recorded stays so where the rest is undone
pub undone-faults : (a b y : State) → GoesBack a b → RecordsCausedFaults a b → y ≡ restored a b → RecordsCausedFaults a y
undone-faults a b y back h undone = ap (λ (s : State). uncaused s.tables s.delayed_faults) undone ∙ ap (λ t. uncaused t b.delayed_faults) (sym back.tables) ∙ h

pub grown-faults : (a b : State) → b ≡ record a { terms = b.terms } → RecordsCausedFaults a b
grown-faults a b e = ap (λ (s : State). uncaused s.tables s.delayed_faults) e

-- a fault has its cause, or is one of those without
first-split : (t : Tables) (x : DelayedFault) (ys : List DelayedFault) (b : Bool) → has_fault_cause t x ≡ b → IsFaultCaused t x ⊎ Contains ((if b then [] else x ∷ []) ++ ys) x
unfolding IsFaultCaused
first-split t x ys true e = inl e
first-split t x ys false e = inr (Contains-append_left (x ∷ []) ys x (Contains-push [] x))

all-split : (t : Tables) (fs : List DelayedFault) → All (λ f. IsFaultCaused t f ⊎ Contains (uncaused t fs) f) fs
unfolding uncaused
all-split t [] = All-nil (λ f. IsFaultCaused t f ⊎ Contains [] f)
all-split t (x ∷ fs) =
    let here : List DelayedFault = if has_fault_cause t x then [] else x ∷ [] in
    All-cons (λ f. IsFaultCaused t f ⊎ Contains (here ++ uncaused t fs) f) x fs (first-split t x (uncaused t fs) (has_fault_cause t x) refl)
    (All-weaker (λ f. IsFaultCaused t f ⊎ Contains (uncaused t fs) f) (λ f. IsFaultCaused t f ⊎ Contains (here ++ uncaused t fs) f)
    (λ f h. ⊎_elim (λ k. inl k) (λ k. inr (Contains-append_right here (uncaused t fs) f k)) h) fs (all-split t fs))

-- and those without are among all
first-within : (x : DelayedFault) (fs : List DelayedFault) (b : Bool) → All (Contains (x ∷ fs)) (if b then [] else x ∷ [])
first-within x fs true = All-nil (Contains (x ∷ fs))
first-within x fs false = All-cons (Contains (x ∷ fs)) x [] (Contains-append_left (x ∷ []) fs x (Contains-push [] x)) (All-nil (Contains (x ∷ fs)))

all-within : (t : Tables) (fs : List DelayedFault) → All (Contains fs) (uncaused t fs)
unfolding uncaused
all-within t [] = All-nil (Contains [])
all-within t (x ∷ fs) =
    All-append (Contains (x ∷ fs)) (if has_fault_cause t x then [] else x ∷ []) (uncaused t fs) (first-within x fs (has_fault_cause t x))
    (All-weaker (Contains fs) (Contains (x ∷ fs)) (λ f h. Contains-append_right (x ∷ []) fs f h) (uncaused t fs) (all-within t fs))

-- so what has come has its cause
pub come-caused : (a b : State) → b.tables ≡ a.tables → RecordsCausedFaults a b → (f : DelayedFault) → Contains b.delayed_faults f → Contains a.delayed_faults f ⊎ IsFaultCaused a.tables f
come-caused a b e h f p =
    ⊎_elim (λ k. inr (subst (λ t. IsFaultCaused t f) e k))
    (λ k. inl (All-contains (Contains a.delayed_faults) (uncaused a.tables a.delayed_faults) f (all-within a.tables a.delayed_faults) (subst (λ xs. Contains xs f) h k)))
    (All-contains (λ x. IsFaultCaused b.tables x ⊎ Contains (uncaused b.tables b.delayed_faults) x) b.delayed_faults f (all-split b.tables b.delayed_faults) p)
