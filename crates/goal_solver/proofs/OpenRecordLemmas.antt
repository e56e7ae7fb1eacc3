-- What the steps of lists of entries with inference variables record.
use Rattle.std.proofs.Common.{◌≡◌, ◌<◌, ◌+◌, ℕ, List, length, take, get_or, refl, sym, ap, ◌∙◌, subst, ⊎_elim}
use Rattle.std.specs.Prelude.{Result, Ok, Err}
use Rattle.std.proofs.Math.Seq.{take-length}
use Rattle.std.proofs.lemmas.List.Elements.{All-weaker}
use Rattle.goal_terms.specs.declared.answers.Certainty.{Certainty}
use Rattle.goal_terms.specs.declared.answers.Certainty.TheVariants as certainty
use Rattle.goal_terms.specs.declared.predicates.Clause.{Clause}
use Rattle.goal_kinds.specs.declared.rules.RuleEntry.{RuleEntry}
use Rattle.goal_kinds.specs.declared.rules.RuleEntry.TheVariants as entry
use Rattle.goal_kinds.specs.declared.faults.Fault.{Fault}
use Rattle.goal_kinds.specs.declared.faults.Fault.TheVariants as fault
use Rattle.goal_solver.specs.GoingBack.{GoesBack, restored, begun}
use Rattle.goal_solver.specs.OpenRuns.{OpenProgress, Joins, Steps}
use Rattle.goal_solver.specs.Relating.{IsFaultFor}
use Rattle.goal_solver.specs.Responses.{both_certain}
use Rattle.goal_solver.specs.RunRules.{IsRecorded, AreRecorded, AreListed}
use Rattle.goal_solver.specs.State.{State}
use Rattle.goal_solver.proofs.GoingBackLemmas.{goes_back-same}
use Rattle.goal_solver.proofs.RecordedLemmas.{entered-contains, recorded-next, stays-recorded}

-- two certainties that are sure together
pub both-yes : (a b : Certainty) → both_certain a b ≡ certainty.Yes → (a ≡ certainty.Yes) × (b ≡ certainty.Yes)
both-yes certainty.Yes b e = (refl, e)
both-yes certainty.Maybe b e = absurd (cc)

-- where a run is sure after something was done, it was so before, and what was done is sure
joins-yes : (p q : OpenProgress) (Does : Certainty → Type 0) → Joins p q Does → q.certainty ≡ certainty.Yes → (p.certainty ≡ certainty.Yes) × Does certainty.Yes
joins-yes p q Does h sure =
    let both = both-yes p.certainty h.0 (sym (ap (λ (x : OpenProgress). x.certainty) h.2) ∙ sure) in
    (both.0, subst Does both.1 h.1)

-- so it is after a step, and what the entry says to record is recorded
pub steps-recorded : (env : List Clause) (e : RuleEntry) (s : State) (p : OpenProgress) (u : State) (q : OpenProgress) → Steps env e s p u q → q.certainty ≡ certainty.Yes →
    (p.certainty ≡ certainty.Yes) × IsRecorded u e
unfolding Steps
steps-recorded env (entry.Arguments a) s p u q h sure = ((both-yes p.certainty h.1 (sym (ap (λ (x : OpenProgress). x.certainty) h.3) ∙ sure)).0, tt)
steps-recorded env (entry.Equation ts us) s p u q h sure = ((joins-yes p q _ h sure).0, tt)
steps-recorded env (entry.Clause g k) s p u q h sure = ((joins-yes p q _ h sure).0, tt)
steps-recorded env (entry.RowClauses w n) s p u q h sure = ((joins-yes p q _ h sure).0, tt)
steps-recorded env (entry.RowConditions b i n) s p u q h sure = ((joins-yes p q _ h sure).0, tt)
steps-recorded env (entry.Term v e) s p u q h sure = ((joins-yes p q _ h sure).0, tt)
steps-recorded env (entry.Access a) s p u q h sure =
    let done = joins-yes p q _ h sure in
    (done.0, ⊎_elim (λ r. entered-contains a s.accesses u.accesses r.0.0) (λ r. absurd (cc)) done.1)
steps-recorded env (entry.DelayedFault f) s p u q h sure = (sym (ap (λ (x : OpenProgress). x.certainty) h.1) ∙ sure, entered-contains f s.delayed_faults u.delayed_faults h.0.0)
steps-recorded env entry.Evaluation s p u q h sure = (sym (ap (λ (x : OpenProgress). x.certainty) h.2) ∙ sure, tt)
steps-recorded env (entry.HiddenType v k f) s p u q h sure = ((joins-yes p q _ h sure).0, tt)
steps-recorded env entry.Ambiguous s p u q h sure = ((both-yes p.certainty certainty.Maybe (sym (ap (λ (x : OpenProgress). x.certainty) h.1) ∙ sure)).0, tt)
steps-recorded env entry.Undecided s p u q h sure = ((both-yes p.certainty certainty.Maybe (sym (ap (λ (x : OpenProgress). x.certainty) h.1) ∙ sure)).0, tt)
steps-recorded env entry.Refused s p u q h sure = absurd h

-- one entry more
pub open_recorded-next : (env : List Clause) (a b : State) (es : List RuleEntry) (i : ℕ) (e : RuleEntry) (p q : OpenProgress) → GoesBack a b → i < length es → e ≡ get_or es i e →
    Steps env e a p b q → (p.certainty ≡ certainty.Yes → AreRecorded a (take i es)) → q.certainty ≡ certainty.Yes → AreRecorded b (take (i + 1) es)
open_recorded-next env a b es i e p q g l at step before sure =
    let done = steps-recorded env e a p b q step sure in
    recorded-next a b b es i e g (goes_back-same b) l at (before done.0) done.1

-- what is recorded in a trial stays so after it
pub tried-recorded : (s a z : State) (es : List RuleEntry) → z ≡ restored s a → AreRecorded a es → AreRecorded z es
tried-recorded s a z es e h =
    subst (λ (y : State). AreRecorded y es) (sym e)
    (All-weaker (IsRecorded a) (IsRecorded (restored s a)) (λ x i. stays-recorded a (restored s a) (take-length a.accesses) (take-length a.delayed_faults) x i) es h)

pub tried-listed : (s b a z : State) (es : List RuleEntry) → b ≡ begun s → z ≡ restored s a → AreListed es b a → AreListed es s z
unfolding AreListed
tried-listed s b a z es f e h = subst (AreListed es s) (sym e) (subst (λ (y : State). AreListed es y a) f h)

-- a fault in a trial is one after it
fault-tried_as : {T : Type 0} (s a : State) (r : Result T Fault) → IsFaultFor (begun s) a r → IsFaultFor s (restored s a) r
fault-tried_as s a (Ok x) h = tt
fault-tried_as s a (Err fault.NoSolution) h = tt
fault-tried_as s a (Err fault.RerunNonErased) h = h
fault-tried_as s a (Err fault.OutOfMemory) h = tt
fault-tried_as s a (Err fault.NotForThisKind) h = h

pub fault-tried : {T : Type 0} (s b a z : State) (r : Result T Fault) → b ≡ begun s → z ≡ restored s a → IsFaultFor b a r → IsFaultFor s z r
fault-tried s b a z r f e h = subst (λ (y : State). IsFaultFor s y r) (sym e) (fault-tried_as s a r (subst (λ (y : State). IsFaultFor y a r) f h))
