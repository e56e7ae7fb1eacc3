-- The where clauses of a row, as goals.
use Rattle.std.proofs.Common.{◌≡◌, ℕ, ◌+◌, ◌<◌, ◌≤◌, List, [], ◌∷◌, ◌++◌, length, take, get_or, ap, ◌∙◌, sym, subst}
use Rattle.std.specs.List.{AllZip}
use Rattle.std.proofs.lemmas.List.{take_all, take_more}
use Rattle.std.proofs.lemmas.Slice.Zip.{all_zipped_more}
use Rattle.goal_terms.specs.PredicateTrees.{ClauseTree, PredicateTree, tree_of_kind, tree_of_whole_clause}
use Rattle.goal_terms.specs.Tree.{Tree}
use Rattle.goal_terms.specs.contracts.predicates.ClauseClone.TheImpl.{is_clone-value}
use Rattle.goal_terms.specs.declared.answers.GoalSource.{GoalSource}
use Rattle.goal_terms.specs.declared.predicates.Clause.{Clause}
use Rattle.goal_terms.specs.declared.predicates.Goal.{Goal}
use Rattle.goal_terms.specs.declared.predicates.Predicate.{Predicate}
use Rattle.goal_solver.specs.TranslatedArgs.{IsSameEnvironment, IsGoalUnder}
use Rattle.goal_solver.proofs.BindingLemmas.{zip-map}
use Rattle.goal_solver.proofs.CloneLemmas.{clause-regions, clause-kind}

-- clones of clauses are the same
clause-cloned : (x y : Clause) → is_clone-value.it x y → tree_of_whole_clause y ≡ tree_of_whole_clause x
clause-cloned x y r =
    ap (λ (n : ℕ). tree_with n (tree_of_kind y.kind)) (clause-regions x y r) ∙ ap (tree_with x.bound_regions) (clause-kind x y r) where
      tree_with : ℕ → PredicateTree → ClauseTree
      tree_with n t = record { bound_regions = n; kind = t }

pub clauses-cloned : (xs ys : List Clause) → AllZip is_clone-value.it xs ys → IsSameEnvironment xs ys
clauses-cloned xs ys h = zip-map is_clone-value.it tree_of_whole_clause clause-cloned xs ys h

-- one more goal
pub goals-more : (env : List Clause) (s : List Tree) (cs : List Clause) (i : ℕ) (c : Clause) (g : GoalSource × Goal Predicate) (gs after : List (GoalSource × Goal Predicate)) →
    i < length cs → c ≡ get_or cs i c → IsGoalUnder env s c g → after ≡ gs ++ g ∷ [] → AllZip (IsGoalUnder env s) (take i cs) gs → AllZip (IsGoalUnder env s) (take (i + 1) cs) after
goals-more env s cs i c g gs after l at h e so_far =
    let last : take (i + 1) cs ≡ take i cs ++ c ∷ [] = take_more cs i c l ∙ ap (λ x. take i cs ++ x ∷ []) (sym at) in
    subst (λ (ds : List (GoalSource × Goal Predicate)). AllZip (IsGoalUnder env s) (take (i + 1) cs) ds) (sym e)
    (subst (λ (ds : List Clause). AllZip (IsGoalUnder env s) ds (gs ++ g ∷ [])) (sym last) (all_zipped_more (IsGoalUnder env s) (take i cs) gs c g so_far h))

pub goals-all : (env : List Clause) (s : List Tree) (cs : List Clause) (i : ℕ) (gs : List (GoalSource × Goal Predicate)) → length cs ≤ i →
    AllZip (IsGoalUnder env s) (take i cs) gs → AllZip (IsGoalUnder env s) cs gs
goals-all env s cs i gs l so_far = subst (λ (ds : List Clause). AllZip (IsGoalUnder env s) ds gs) (take_all i cs l) so_far
