-- What the entries of a rule record.
use Rattle.std.proofs.Common.{◌≡◌, ◌<◌, ◌≤◌, ◌+◌, ◌⊎◌, ℕ, List, [], ◌∷◌, length, get_or, take, drop, inl, inr, sym, ap, ◌∙◌, subst, arith, ⊎_elim}
use Rattle.std.specs.List.{All, Contains}
use Rattle.std.proofs.lemmas.List.{take_all, take-append-drop}
use Rattle.std.proofs.lemmas.List.Elements.{All-more, All-weaker, Contains-push, Contains-push_cases, Contains-append_left, Contains-get_or}
use Rattle.goal_terms.specs.declared.answers.DelayedFault.{DelayedFault}
use Rattle.goal_kinds.specs.declared.rules.RuleEntry.{RuleEntry}
use Rattle.goal_kinds.specs.declared.rules.RuleEntry.TheVariants as entry
use Rattle.goal_lists.specs.Causes.{IsFaultCaused}
use Rattle.goal_solver.specs.Accesses.{RecordsCausedFaults}
use Rattle.goal_eval.specs.Entering.{Enters}
use Rattle.goal_solver.specs.GoingBack.{BeginsWith, GoesBack}
use Rattle.goal_solver.specs.RunRules.{to_record, IsRecorded, AreRecorded, AreListed}
use Rattle.goal_solver.specs.State.{State}
use Rattle.goal_solver.specs.declared.eval.run_rule.recorded.ToRecord.{ToRecord}
use Rattle.goal_solver.specs.declared.eval.run_rule.recorded.ToRecord.TheVariants as recorded
use Rattle.goal_solver.specs.Stored.{IsSet}
use Rattle.goal_solver.proofs.FaultLemmas.{come-caused}
use Rattle.goal_solver.proofs.StoredLemmas.{set-pushed}
use Rattle.std.proofs.Math.Seq.{take-append_seam}

-- a list begins with itself
same-begins : {A : Type 0} (start whole : List A) → whole ≡ start → BeginsWith whole start
same-begins start whole e = subst (λ xs. BeginsWith xs start) (sym e) (take_all (length start) start (omega arith))

-- what has entered a set stands there
pub entered-contains : {A : Type 0} (x : A) (old new : List A) → Enters x old new → Contains new x
entered-contains x old new h =
    ⊎_elim (λ p. subst (λ ys. Contains ys x) (sym p.1) p.0) (λ p. subst (λ ys. Contains ys x) (sym p.1) (Contains-push old x)) h

-- a set that something has entered is one, and begins with the one before
pub set-entered : {A : Type 0} (x : A) (old new : List A) → Enters x old new → IsSet old → IsSet new
set-entered x old new h s = ⊎_elim (λ p. subst IsSet (sym p.1) s) (λ p. set-pushed old new x p.1 p.0 s) h

pub begins-entered : {A : Type 0} (x : A) (old new : List A) → Enters x old new → BeginsWith new old
begins-entered x old new h =
    ⊎_elim (λ p. same-begins old new p.1) (λ p. subst (λ ys. BeginsWith ys old) (sym p.1) (take-append_seam old (x ∷ []))) h

-- what a list contains, a longer one does
begins-contains : {A : Type 0} (whole start : List A) (x : A) → BeginsWith whole start → Contains start x → Contains whole x
begins-contains whole start x b h =
    subst (λ ys. Contains ys x) (take-append-drop (length start) whole) (Contains-append_left (take (length start) whole) (drop (length start) whole) x (subst (λ ys. Contains ys x) (sym b) h))

-- nothing else stands in a list of one
none-contained : {A : Type 0} (x : A) (k : ℕ) → k < length {A = A} [] → ⊥
none-contained x k l = absurd (omega arith)

one-contained : {A : Type 0} (y x : A) → Contains (y ∷ []) x → y ≡ x
one-contained y x h = ⊎_elim (λ q. absurd (none-contained x q.0 q.1)) (λ q. q) (Contains-push_cases [] y x h)

-- what is recorded stays so
pub stays-recorded : (a b : State) → BeginsWith b.accesses a.accesses → BeginsWith b.delayed_faults a.delayed_faults → (e : RuleEntry) → IsRecorded a e → IsRecorded b e
stays-recorded a b x f (entry.Access y) h = begins-contains b.accesses a.accesses y x h
stays-recorded a b x f (entry.DelayedFault y) h = begins-contains b.delayed_faults a.delayed_faults y f h
stays-recorded a b x f (entry.Arguments y) h = tt
stays-recorded a b x f (entry.Equation y z) h = tt
stays-recorded a b x f (entry.Clause y z) h = tt
stays-recorded a b x f (entry.RowClauses y z) h = tt
stays-recorded a b x f (entry.RowConditions c y z) h = tt
stays-recorded a b x f (entry.Term y z) h = tt
stays-recorded a b x f entry.Evaluation h = tt
stays-recorded a b x f (entry.HiddenType y z w) h = tt
stays-recorded a b x f entry.Ambiguous h = tt
stays-recorded a b x f entry.Undecided h = tt
stays-recorded a b x f entry.Refused h = tt

-- the next entry
pub recorded-next : (a b c : State) (es : List RuleEntry) (i : ℕ) (e : RuleEntry) → GoesBack a b → GoesBack b c → i < length es → e ≡ get_or es i e →
    AreRecorded a (take i es) → IsRecorded b e → AreRecorded c (take (i + 1) es)
recorded-next a b c es i e g f l at before here =
    let stays : (x : RuleEntry) → IsRecorded b x → IsRecorded c x = stays-recorded b c f.accesses f.delayed_faults in
    All-more (IsRecorded c) es i e l
    (All-weaker (IsRecorded a) (IsRecorded c) (λ x h. stays x (stays-recorded a b g.accesses g.delayed_faults x h)) (take i es) before)
    (subst (IsRecorded c) at (stays e here))

-- after the last entry
pub recorded-end : (a : State) (es : List RuleEntry) (i : ℕ) → length es ≤ i → AreRecorded a (take i es) → AreRecorded a es
recorded-end a es i l h = subst (AreRecorded a) (take_all i es l) h

-- a fault that one entry names
pub one-listed : (a b : State) (e : RuleEntry) (g : DelayedFault) → e ≡ entry.DelayedFault g → ((f : DelayedFault) → Contains b.delayed_faults f → Contains a.delayed_faults f ⊎ (g ≡ f)) → AreListed (e ∷ []) a b
unfolding AreListed
one-listed a b e g is h f p = ⊎_elim inl (λ q. inr (inl (subst (Contains (e ∷ [])) (is ∙ ap entry.DelayedFault q) (Contains-push [] e)))) (h f p)

-- only one entry says to record a fault
only-fault : (e : RuleEntry) (f : DelayedFault) → to_record e ≡ recorded.DelayedFault f → e ≡ entry.DelayedFault f
only-fault (entry.Access y) f h = cc
only-fault (entry.DelayedFault y) f h = cc
only-fault (entry.Arguments y) f h = cc
only-fault (entry.Equation y z) f h = cc
only-fault (entry.Clause y z) f h = cc
only-fault (entry.RowClauses y z) f h = cc
only-fault (entry.RowConditions c y z) f h = cc
only-fault (entry.Term y z) f h = cc
only-fault entry.Evaluation f h = cc
only-fault (entry.HiddenType y z w) f h = cc
only-fault entry.Ambiguous f h = cc
only-fault entry.Undecided f h = cc
only-fault entry.Refused f h = cc

-- the faults that one entry names
pub entry-listed : (a b : State) (e : RuleEntry) (x : ToRecord) → x ≡ to_record e →
    ((f : DelayedFault) → Contains b.delayed_faults f → Contains a.delayed_faults f ⊎ (x ≡ recorded.DelayedFault f)) → AreListed (e ∷ []) a b
unfolding AreListed
entry-listed a b e x is h f p =
    ⊎_elim inl (λ q. inr (inl (subst (Contains (e ∷ [])) (only-fault e f (sym is ∙ q)) (Contains-push [] e)))) (h f p)

-- no fault has come
pub none-listed : (a b : State) (es : List RuleEntry) → b.delayed_faults ≡ a.delayed_faults → AreListed es a b
unfolding AreListed
none-listed a b es e f p = inl (subst (λ xs. Contains xs f) e p)

-- one entry more
pub listed-next : (s a b : State) (es : List RuleEntry) (i : ℕ) (e : RuleEntry) → i < length es → e ≡ get_or es i e → GoesBack s a → AreListed es s a → AreListed (e ∷ []) a b → AreListed es s b
unfolding AreListed
listed-next s a b es i e l at back before here f p =
    ⊎_elim (before f)
    (λ q. inr (⊎_elim (λ k. inl (subst (Contains es) (sym at ∙ one-contained e (entry.DelayedFault f) k) (Contains-get_or es i e l))) (λ k. inr (subst (λ t. IsFaultCaused t f) back.tables k)) q)) (here f p)

-- what has its cause is named by none
pub listed-caused : (s a b : State) (es : List RuleEntry) → GoesBack s a → b.tables ≡ a.tables → RecordsCausedFaults a b → AreListed es s a → AreListed es s b
unfolding AreListed
listed-caused s a b es back e faults h f p = ⊎_elim (h f) (λ k. inr (inr (subst (λ t. IsFaultCaused t f) back.tables k))) (come-caused a b e faults f p)

pub step-caused : (a b : State) (es : List RuleEntry) → GoesBack a b → RecordsCausedFaults a b → AreListed es a b
unfolding AreListed
step-caused a b es back faults f p = ⊎_elim inl (λ k. inr (inr k)) (come-caused a b back.tables faults f p)

pub ruleset stepping = (step-caused)

-- no other fault names none
pub listed-kept : (s a b : State) (es : List RuleEntry) → b.delayed_faults ≡ a.delayed_faults → AreListed es s a → AreListed es s b
unfolding AreListed
listed-kept s a b es e h f p = h f (subst (λ xs. Contains xs f) e p)

-- of two runs after one another each names its own
pub listed-through : (s a b : State) (es : List RuleEntry) → GoesBack s a → AreListed es s a → AreListed es a b → AreListed es s b
unfolding AreListed
listed-through s a b es back before here f p =
    ⊎_elim (before f) (λ q. inr (⊎_elim inl (λ k. inr (subst (λ t. IsFaultCaused t f) back.tables k)) q)) (here f p)

-- a context that has more delayed faults, and then more still
pub faults-alone : (a b c : State) → b ≡ record a { delayed_faults = b.delayed_faults } → c ≡ record b { delayed_faults = c.delayed_faults } → c ≡ record a { delayed_faults = c.delayed_faults }
faults-alone a b c e f = f ∙ ap (λ (s : State). record s { delayed_faults = c.delayed_faults }) e

-- the next of the faults that are recorded
pub contained-next : (a b : State) (fs : List DelayedFault) (i : ℕ) (d : DelayedFault) → GoesBack a b → i < length fs →
    All (Contains a.delayed_faults) (take i fs) → Contains b.delayed_faults (get_or fs i d) → All (Contains b.delayed_faults) (take (i + 1) fs)
contained-next a b fs i d g l before here =
    All-more (Contains b.delayed_faults) fs i d l
    (All-weaker (Contains a.delayed_faults) (Contains b.delayed_faults) (λ x h. begins-contains b.delayed_faults a.delayed_faults x g.delayed_faults h) (take i fs) before) here

-- after the last one
pub contained-end : (a : State) (fs : List DelayedFault) (i : ℕ) → length fs ≤ i → All (Contains a.delayed_faults) (take i fs) → All (Contains a.delayed_faults) fs
contained-end a fs i l h = subst (All (Contains a.delayed_faults)) (take_all i fs l) h
