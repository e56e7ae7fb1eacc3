-- Terms of rows under arguments that have numbers.
use Rattle.std.proofs.Common.{◌≡◌, List, [], ◌∷◌, true, refl, ap, ◌∙◌}
use Rattle.goal_terms.specs.Erased.{erased}
use Rattle.goal_terms.specs.Sorts.{IsArgument, is_argument_sort, is_term_sort, sort_of}
use Rattle.goal_terms.specs.Tree.{node_of}
use Rattle.goal_terms.specs.TreeOf.{tree_of_ty, tree_of_term}
use Rattle.goal_terms.specs.declared.terms.GenericArg.{GenericArg}
use Rattle.goal_terms.specs.declared.terms.GenericArg.TheVariants as arg
use Rattle.goal_terms.specs.declared.terms.Ty.{Ty}
use Rattle.goal_terms.specs.declared.sorts.Sort.{Sort}
use Rattle.goal_terms.specs.declared.sorts.Sort.TheVariants as sorts
use Rattle.goal_terms.specs.declared.terms.Term.{Term}
use Rattle.goal_terms.proofs.SortLemmas.{ty_sort, term_sort}
use Rattle.goal_terms.proofs.TreeLemmas.{tree_of_arg-Ty}
use Rattle.goal_eval.specs.Outcomes.{header_terms}

-- a type as the one argument of a header
pub header_of_type-is : (t u : Ty) (made : List GenericArg) → tree_of_ty u ≡ tree_of_ty t → made ≡ arg.Ty u ∷ [] → header_terms made ≡ erased (tree_of_ty t) ∷ []
header_of_type-is t u made same e = ap header_terms e ∙ ap (λ x. erased x ∷ []) (tree_of_arg-Ty u ∙ same)

-- types and terms of rows are arguments
pub type-argument : (t : Ty) → IsArgument (tree_of_ty t)
type-argument t = ap is_argument_sort (ty_sort t)

sort-argument : (s : Sort) → is_term_sort s ≡ true → is_argument_sort s ≡ true
sort-argument sorts.Ty e = refl
sort-argument sorts.Const e = refl
sort-argument sorts.Lifetime e = absurd (cc)
sort-argument sorts.Clause e = absurd (cc)

pub term-argument : (t : Term) → IsArgument (tree_of_term t)
term-argument t = sort-argument (sort_of (node_of (tree_of_term t))) (term_sort t)
