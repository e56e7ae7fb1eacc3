-- Trait goals with inference variables: what is considered, and what the classes answer.
use Rattle.std.proofs.Common.{◌≡◌, ℕ, true, Option, Some, None, refl, sym, ◌∙◌, subst}
use Rattle.std.specs.Prelude.{is_some}
use Rattle.goal_terms.specs.NodeTests.{general_variable_at}
use Rattle.goal_terms.specs.Tree.{node_of}
use Rattle.goal_terms.specs.TreeOf.{tree_of_ty}
use Rattle.goal_terms.specs.declared.terms.Term.{Term}
use Rattle.goal_terms.specs.declared.terms.Term.TheVariants as term
use Rattle.goal_terms.specs.declared.terms.Ty.{Ty}
use Rattle.goal_solver.specs.OpenGoals.{IsNoForm}

some-number : (g : Option ℕ) → is_some g ≡ true → (n : ℕ) × (g ≡ Some n)
some-number None e = absurd (cc)
some-number (Some n) e = (n, refl)

-- a general variable is no form
pub general-left : (o : Option Term) (t : Ty) (g : Option ℕ) → o ≡ Some (term.Ty t) → g ≡ general_variable_at (node_of (tree_of_ty t)) → is_some g ≡ true → IsNoForm o
general-left o t g e f s =
    let k = some-number g s in
    subst IsNoForm (sym e) (k.0, sym f ∙ k.1)
