-- A goal that is answered at one less of the depth, in the context with its depth again.
use Rattle.std.proofs.Common.{◌≡◌, ℕ, suc, ◌-◌, Result, Ok, Err, refl, sym, ap, ap₂, subst, ◌∙◌, arith}
use Rattle.std.specs.Prelude.{IfOk}
use Rattle.goal_terms.specs.declared.answers.Response.{Response}
use Rattle.goal_terms.specs.declared.predicates.Goal.{Goal}
use Rattle.goal_terms.specs.declared.predicates.NormalizesTo.{NormalizesTo}
use Rattle.goal_terms.specs.declared.predicates.ProjectionPredicate.{ProjectionPredicate}
use Rattle.goal_terms.specs.declared.predicates.TraitPredicate.{TraitPredicate}
use Rattle.goal_interner.proofs.InternLemmas.{keeps-refl}
use Rattle.goal_infer.specs.Resolution.{IsSolved}
use Rattle.goal_kinds.specs.declared.faults.Fault.{Fault}
use Rattle.goal_solver.specs.Binding.{IsApplicable}
use Rattle.goal_solver.specs.GoingBack.{GoesBack, restored, at_depth}
use Rattle.goal_solver.specs.OpenAnswers.{MergesProjection, MergesTrait}
use Rattle.goal_solver.specs.OpenGoals.{WhenAnswered}
use Rattle.goal_solver.specs.OpenProjections.{RunsEquation}
use Rattle.goal_solver.specs.State.{State}
use Rattle.goal_solver.proofs.GoingBackLemmas.{solved-grown}
use Rattle.goal_solver.proofs.LaterLemmas.{applies-later}

each-ok : (A B : Response → Type 0) (r : Result Response Fault) → ((y : Response) → A y → B y) → IfOk r A → IfOk r B
each-ok A B (Ok y) f h = f y h
each-ok A B (Err e) f h = tt

-- the state that is left below is solved
solved-below : (x a w : State) (k : ℕ) → x ≡ a → w ≡ restored (at_depth k x) w → GoesBack (at_depth k x) w → IsSolved a.terms a.inference → IsSolved w.terms w.inference
solved-below x a w k e back goes solved =
    subst (λ i. IsSolved w.terms i) (sym (ap (λ (s : State). s.inference) back))
    (solved-grown x.terms w.terms x.inference goes.terms (subst (λ (s : State). IsSolved s.terms s.inference) (sym e) solved))

-- what can be applied below can be applied with the depth again
pub applies-below : (x a v w : State) (k d : ℕ) (r : Result Response Fault) → x ≡ a → v ≡ w → w ≡ restored (at_depth k x) w → GoesBack (at_depth k x) w → IsSolved a.terms a.inference →
    IfOk r (IsApplicable w) → IfOk r (IsApplicable (at_depth d v))
applies-below x a v w k d r e f back goes solved h =
    subst (λ (s : State). IfOk r (IsApplicable (at_depth d s))) (sym f)
    (each-ok (IsApplicable w) (IsApplicable (at_depth d w)) r
    (λ y g. applies-later w (at_depth d w) y refl refl (keeps-refl w.terms) (solved-below x a w k e back goes solved) g) h)

-- what is said of an answer at one less is said of it in the context with its depth again
pub said-below : (M : State → State → Type 0) (x a v w : State) (n : ℕ) (r : Result Response Fault) → x ≡ a → v ≡ w → w ≡ restored (at_depth (x.remaining_depth - 1) x) w →
    a.remaining_depth ≡ suc n → WhenAnswered r (M (at_depth (x.remaining_depth - 1) x) w) → WhenAnswered r (M (at_depth n a) (at_depth n v))
said-below M x a v w n r e f back depth h =
    let same : x.remaining_depth ≡ a.remaining_depth = ap (λ (s : State). s.remaining_depth) e in
    let less : x.remaining_depth - 1 ≡ n = omega (arith, same, depth) in
    let begun : at_depth (x.remaining_depth - 1) x ≡ at_depth n a = ap₂ at_depth less e in
    let own : w.remaining_depth ≡ n = ap (λ (s : State). s.remaining_depth) back ∙ less in
    let left : w ≡ at_depth n v = ap (λ (d : ℕ). at_depth d w) own ∙ ap (λ (s : State). at_depth n s) (sym f) in
    subst (λ (s : State). WhenAnswered r (M s (at_depth n v))) begun (subst (λ (s : State). WhenAnswered r (M (at_depth (x.remaining_depth - 1) x) s)) left h)

-- the goal is merged at one less
pub merges-below : (x a v w : State) (n : ℕ) (g : Goal TraitPredicate) (r : Result Response Fault) → x ≡ a → v ≡ w → w ≡ restored (at_depth (x.remaining_depth - 1) x) w →
    a.remaining_depth ≡ suc n → WhenAnswered r (MergesTrait g (at_depth (x.remaining_depth - 1) x) r w) → WhenAnswered r (MergesTrait g (at_depth n a) r (at_depth n v))
merges-below x a v w n g r e f back depth h = said-below (λ s u. MergesTrait g s r u) x a v w n r e f back depth h

-- so is that of an alias's term
pub projects-below : (x a v w : State) (n : ℕ) (g : Goal NormalizesTo) (r : Result Response Fault) → x ≡ a → v ≡ w → w ≡ restored (at_depth (x.remaining_depth - 1) x) w →
    a.remaining_depth ≡ suc n → WhenAnswered r (MergesProjection g (at_depth (x.remaining_depth - 1) x) r w) → WhenAnswered r (MergesProjection g (at_depth n a) r (at_depth n v))
projects-below x a v w n g r e f back depth h = said-below (λ s u. MergesProjection g s r u) x a v w n r e f back depth h

-- and an equation
pub equates-below : (x a v w : State) (n : ℕ) (g : Goal ProjectionPredicate) (r : Result Response Fault) → x ≡ a → v ≡ w → w ≡ restored (at_depth (x.remaining_depth - 1) x) w →
    a.remaining_depth ≡ suc n → WhenAnswered r (RunsEquation g (at_depth (x.remaining_depth - 1) x) r w) → WhenAnswered r (RunsEquation g (at_depth n a) r (at_depth n v))
equates-below x a v w n g r e f back depth h = said-below (λ s u. RunsEquation g s r u) x a v w n r e f back depth h
