use Rattle.std.proofs.Common.{◌≡◌, ℕ, ◌<◌, Some}
use Rattle.std.specs.Prelude.{slice_get}
use Rattle.goal_terms.specs.declared.answers.OpaqueTypeKey.{OpaqueTypeKey}
use Rattle.goal_terms.specs.declared.terms.Ty.{Ty}
use Rattle.goal_solver.specs.Stored.{IsSameKey}
use Rattle.goal_solver.proofs.context.storage.place_of_key.Given as goal

abbrev pub invariant-loop-i : goal.invariant-loop-i
invariant-loop-i l = (i : ℕ) → i < l.i → (e : OpaqueTypeKey × Ty) → slice_get l.entries i ≡ Some e → IsSameKey e.0 l.key → ⊥
