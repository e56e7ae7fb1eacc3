-- What rules say of candidates, and what their refusals say.
use Rattle.std.proofs.Common.{◌≡◌, Bool, true, false, Result, Ok, Err, IfErr, IsOkUnless, refl, sym, subst}
use Rattle.goal_kinds.specs.CandidateRules.{IsRefusal}
use Rattle.goal_kinds.specs.declared.faults.Fault.{Fault}
use Rattle.goal_kinds.specs.declared.faults.Fault.TheVariants as fault
use Rattle.goal_kinds.specs.declared.rules.Rule.{Rule}

-- a refusal, by a test
pub refusal-of : (A : Type 0) (b : Bool) (r : Result Rule Fault) → (b ≡ true → r ≡ Err fault.NoSolution) → (b ≡ false → IsOkUnless r fault.OutOfMemory) →
    (b ≡ true → A) → IfErr r (IsRefusal A)
refusal-of A true r f g a = subst (λ q. IfErr q (IsRefusal A)) (sym (f refl)) (a refl)
refusal-of A false (Ok x) f g a = tt
refusal-of A false (Err e) f g a = subst (IsRefusal A) (sym (g refl)) tt
