-- The terms that aliases of all kinds have at a depth.
use Rattle.std.proofs.Common.{◌≡◌, ◌⊎◌, ℕ, zero, suc, List, IfOk, Result, sym, ◌∙◌, subst, ⊎_elim}
use Rattle.goal_terms.specs.Tree.{Tree}
use Rattle.goal_terms.specs.declared.ids.ItemId.{ItemId}
use Rattle.goal_terms.specs.declared.terms.AliasTermKind.{AliasTermKind}
use Rattle.goal_terms.specs.declared.terms.AliasTermKind.TheVariants.{ProjectionTy, ProjectionConst}
use Rattle.goal_lists.specs.Aliases.{AliasGives, AliasRefuted}
use Rattle.goal_lists.specs.Levels.{level}
use Rattle.goal_lists.specs.Projections.{ProjectionGives, ProjectionRefuted}
use Rattle.goal_lists.specs.Settings.{Setting}
use Rattle.goal_eval.specs.Outcomes.{SaysWhich}
use Rattle.goal_eval.specs.declared.eval.outcomes.Found.{Found}
use Rattle.goal_eval.specs.declared.eval.outcomes.Stop.{Stop}

-- with no depth left nothing is decided
pub depth-zero : (S : Setting) (n : ℕ) (k : AliasTermKind) (args : List Tree) → n ≡ 0 →
    ((u : Tree) → (level S n).gives k args u → ⊥) × ((level S n).gives_refuted k args → ⊥)
unfolding level
depth-zero S zero k args e = (λ u h. h, λ h. h)
depth-zero S (suc n) k args e = absurd (cc)

-- an alias's term at a depth is decided one below it
above : (S : Setting) (n j : ℕ) (k : AliasTermKind) (args T : List Tree) (r : Result Found Stop) → n ≡ suc j →
    IfOk r (SaysWhich (AliasGives S (level S j) k args) (AliasRefuted S (level S j) k args) T) →
    IfOk r (SaysWhich ((level S n).gives k args) ((level S n).gives_refuted k args) T)
unfolding level
above S n j k args T r e h = subst (λ d. IfOk r (SaysWhich ((level S d).gives k args) ((level S d).gives_refuted k args) T)) (sym e) h

-- which kinds have the terms of a projection, an inherent alias or a free alias
pub projection-above : (S : Setting) (n j : ℕ) (k same : AliasTermKind) (i : ItemId) (args T : List Tree) (r : Result Found Stop) → n ≡ suc j →
    (k ≡ ProjectionTy i) ⊎ (k ≡ ProjectionConst i) → same ≡ k →
    IfOk r (SaysWhich (ProjectionGives S (level S j) same i args) (ProjectionRefuted S (level S j) same i args) T) →
    IfOk r (SaysWhich ((level S n).gives k args) ((level S n).gives_refuted k args) T)
unfolding AliasGives AliasRefuted
projection-above S n j k same i args T r e is one h =
    ⊎_elim
    (λ x.
    let there : IfOk r (SaysWhich (ProjectionGives S (level S j) (ProjectionTy i) i args) (ProjectionRefuted S (level S j) (ProjectionTy i) i args) T) =
    subst (λ y. IfOk r (SaysWhich (ProjectionGives S (level S j) y i args) (ProjectionRefuted S (level S j) y i args) T)) (one ∙ x) h in
    subst (λ y. IfOk r (SaysWhich ((level S n).gives y args) ((level S n).gives_refuted y args) T)) (sym x) (above S n j (ProjectionTy i) args T r e there))
    (λ x.
    let there : IfOk r (SaysWhich (ProjectionGives S (level S j) (ProjectionConst i) i args) (ProjectionRefuted S (level S j) (ProjectionConst i) i args) T) =
    subst (λ y. IfOk r (SaysWhich (ProjectionGives S (level S j) y i args) (ProjectionRefuted S (level S j) y i args) T)) (one ∙ x) h in
    subst (λ y. IfOk r (SaysWhich ((level S n).gives y args) ((level S n).gives_refuted y args) T)) (sym x) (above S n j (ProjectionConst i) args T r e there))
    is
