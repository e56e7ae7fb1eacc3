-- The variable that an accepted goal expects its term for may be given a type without inference variables.
use Rattle.std.proofs.Common.{◌≡◌, ℕ, Bool, true, false, ◌||◌, not, List, Option, Some, None, refl, sym, ap, ◌∙◌, subst}
use Rattle.std.specs.Prelude.{IsTrue, is_some, ◌&&◌}
use Rattle.goal_terms.specs.Closed.{is_closed}
use Rattle.goal_terms.specs.Erased.{erased}
use Rattle.goal_terms.specs.NodeTests.{some_node, some_in_row, is_any_infer, is_unmade}
use Rattle.goal_terms.specs.Sorts.{sort_of}
use Rattle.goal_terms.specs.Tree.{Tree, Trees, node, alias, variable, none, more, node_of}
use Rattle.goal_terms.specs.TreeOf.{tree_of_alias, tree_of_term}
use Rattle.goal_terms.specs.declared.heads.Node.{Node}
use Rattle.goal_terms.specs.declared.heads.Node.TheVariants as nodes
use Rattle.goal_terms.specs.declared.heads.Variable.{Variable}
use Rattle.goal_terms.specs.declared.heads.Variable.TheVariants as variables
use Rattle.goal_terms.specs.declared.predicates.Clause.{Clause}
use Rattle.goal_terms.specs.declared.predicates.NormalizesTo.{NormalizesTo}
use Rattle.goal_terms.specs.declared.terms.AliasTerm.{AliasTerm}
use Rattle.goal_terms.specs.declared.terms.InferTy.TheVariants as infer
use Rattle.goal_tables.specs.Predicates.{some_in_env, some_in_equation}
use Rattle.goal_tables.specs.declared.rows.Tables.{Tables}
use Rattle.goal_infer.specs.Occurrence.{place_of, place_in_row, joined, within_alias}
use Rattle.goal_infer.specs.Replacement.{takes, is_type_sort}
use Rattle.goal_infer.specs.Resolution.{binding_of, resolution}
use Rattle.goal_infer.specs.Unification.{is_made_in}
use Rattle.goal_infer.specs.declared.occurs.Occurrence.TheVariants.{Nowhere}
use Rattle.goal_infer.proofs.DecisionLemmas.{either-false}
use Rattle.goal_solver.specs.Binding.{IsFreeFor, OfVariable, bound_term}
use Rattle.goal_solver.specs.FreeVariables.{general_variable, reaches, is_bound, stands_in_storage, is_taken, lacks_free_variable}
use Rattle.goal_solver.specs.Goals.{alias_term_words, goal_has, IsAcceptedBy}
use Rattle.goal_solver.specs.State.{State, kinds_of}
use Rattle.goal_solver.specs.declared.eval.goals.GoalFault.TheVariants.{UnknownVariable, ExpectedTermNotFree}
use Rattle.goal_solver.proofs.FoundAnswers.{sort-erased}
use Rattle.goal_solver.proofs.SettledLemmas.{closed-erased, replaced-closed}

-- a goal of an alias's term is one that the check accepts
abbrev pub IsAccepted : Tables → State → NormalizesTo → List Clause → Type 0
IsAccepted t s q env = IsAcceptedBy (goal_has alias_term_words t s q env)

-- the expected term is a variable for any type, which isn't taken
record IsWanted (s : State) (a : AliasTerm) (env : List Clause) (t : Tree) : Type 0 where
  n : ℕ
  at : t ≡ variable (variables.Ty (infer.TyVar n))
  untaken : is_taken s (variables.Ty (infer.TyVar n)) a env ≡ false

wanted : (s : State) (a : AliasTerm) (env : List Clause) (t : Tree) → is_type_sort (sort_of (node_of t)) ≡ true → lacks_free_variable s (general_variable (node_of t)) a env ≡ false → IsWanted s a env t
wanted s a env (node h ts) k e = absurd (cc)
wanted s a env (alias i ts) k e = absurd (cc)
wanted s a env (variable (variables.Ty (infer.TyVar n))) k e = record { n = n; at = refl; untaken = e }
wanted s a env (variable (variables.Ty (infer.IntVar n))) k e = absurd (cc)
wanted s a env (variable (variables.Ty (infer.FloatVar n))) k e = absurd (cc)
wanted s a env (variable (variables.Const n)) k e = absurd (cc)

-- so it is unbound
none-unless : {A : Type 0} (o : Option A) → is_some o ≡ false → o ≡ None
none-unless None e = refl
none-unless (Some x) e = absurd (cc)

untaken-unbound : (s : State) (v : Variable) (a : AliasTerm) (env : List Clause) → is_taken s v a env ≡ false → binding_of s.inference v ≡ None
untaken-unbound s v a env h =
    none-unless (binding_of s.inference v)
    (either-false (is_bound s v) (some_node (reaches s v) (tree_of_alias a))
    (either-false (is_bound s v || some_node (reaches s v) (tree_of_alias a)) (some_in_env (reaches s v) env)
    (either-false (is_bound s v || some_node (reaches s v) (tree_of_alias a) || some_in_env (reaches s v) env) (stands_in_storage s v) h).0).0).0

-- and was made
not-false : (b : Bool) → not b ≡ false → b ≡ true
not-false true e = refl
not-false false e = absurd (cc)

made-unless : (s : State) (n : ℕ) → some_node (is_unmade (kinds_of s)) (variable (variables.Ty (infer.TyVar n))) ≡ false → IsTrue (is_made_in s.inference (variables.Ty (infer.TyVar n)))
unfolding is_made_in some_node
made-unless s n e = not-false _ e

expected-made : (t : Tables) (s : State) (q : NormalizesTo) (env : List Clause) → IsAccepted t s q env → some_node (is_unmade (kinds_of s)) (tree_of_term q.term) ≡ false
expected-made t s q env ok =
    (either-false (some_node (is_unmade (kinds_of s)) (tree_of_alias q.alias)) (some_node (is_unmade (kinds_of s)) (tree_of_term q.term))
    (either-false (some_in_equation (is_unmade (kinds_of s)) q.alias q.term) (some_in_env (is_unmade (kinds_of s)) env) (ok UnknownVariable)).0).1

-- and may stand for any type
type-taken : (n : ℕ) (m : Node) → is_type_sort (sort_of m) ≡ true → IsTrue (takes (variables.Ty (infer.TyVar n)) m)
unfolding takes
type-taken n m e = e

-- no variable stands in a term without variables
mutual
  unfolding some_node place_of

  closed-nowhere : (v : Variable) (t : Tree) → some_node is_any_infer t ≡ false → place_of v t ≡ Nowhere
  closed-nowhere v (node h ts) e = closed_row-nowhere v ts e
  closed-nowhere v (alias k ts) e = ap within_alias (closed_row-nowhere v ts e)
  closed-nowhere v (variable w) e = absurd (cc)

  closed_row-nowhere : (v : Variable) (ts : Trees) → some_in_row is_any_infer ts ≡ false → place_in_row v ts ≡ Nowhere
  closed_row-nowhere v none e = refl
  closed_row-nowhere v (more t ts) e =
      let both : (some_node is_any_infer t ≡ false) × (some_in_row is_any_infer ts ≡ false) = either-false (some_node is_any_infer t) (some_in_row is_any_infer ts) e in
      let first : place_of v t ≡ Nowhere = closed-nowhere v t both.0 in
      let rest : place_in_row v ts ≡ Nowhere = closed_row-nowhere v ts both.1 in
      ap (λ o. joined o (place_in_row v ts)) first ∙ rest

not-true : (b : Bool) → not b ≡ true → b ≡ false
not-true true e = absurd (cc)
not-true false e = refl

closed-holds_none : (u : Tree) → is_closed u ≡ true → some_node is_any_infer (erased u) ≡ false
unfolding is_closed
closed-holds_none u c = closed-erased u ∙ not-true (some_node is_any_infer u) c

free-for : (t : Tables) (s : State) (q : NormalizesTo) (env : List Clause) (u : Tree) → IsAccepted t s q env → is_type_sort (sort_of (node_of (tree_of_term q.term))) ≡ true →
    is_type_sort (sort_of (node_of u)) ≡ true → is_closed u ≡ true → OfVariable q.term (IsFreeFor s u)
free-for t s q env u ok k l c =
    let asked : IsWanted s q.alias env (tree_of_term q.term) = wanted s q.alias env (tree_of_term q.term) k (ok ExpectedTermNotFree) in
    let v : Variable = variables.Ty (infer.TyVar asked.n) in
    let closed : some_node is_any_infer (erased u) ≡ false = closed-holds_none u c in
    let stays : bound_term s u ≡ erased u = replaced-closed (resolution s.terms s.inference) (erased u) closed in (
      v,
      asked.at,
      record {
        made = made-unless s asked.n (subst (λ (x : Tree). some_node (is_unmade (kinds_of s)) x ≡ false) asked.at (expected-made t s q env ok));
        unbound = untaken-unbound s v q.alias env asked.untaken;
        takes = subst (λ (x : Tree). IsTrue (takes v (node_of x))) (sym stays) (type-taken asked.n (node_of (erased u)) (ap is_type_sort (sort-erased u) ∙ l));
        absent = subst (λ (x : Tree). place_of v x ≡ Nowhere) (sym stays) (closed-nowhere v (erased u) closed);
      },
    )

-- as a call finds
both-true : (a b : Bool) → a && b ≡ true → (a ≡ true) × (b ≡ true)
both-true true b e = (refl, e)
both-true false b e = absurd (cc)

pub free-as_found : (t : Tables) (s : State) (q : NormalizesTo) (env : List Clause) (x u : Tree) (b : Bool) → IsAccepted t s q env → x ≡ tree_of_term q.term →
    b ≡ (is_type_sort (sort_of (node_of x)) && is_type_sort (sort_of (node_of u)) && is_closed u) → b ≡ true → OfVariable q.term (IsFreeFor s u)
free-as_found t s q env x u b ok e f g =
    let all : (is_type_sort (sort_of (node_of x)) && is_type_sort (sort_of (node_of u)) ≡ true) × (is_closed u ≡ true) =
    both-true (is_type_sort (sort_of (node_of x)) && is_type_sort (sort_of (node_of u))) (is_closed u) (sym f ∙ g) in
    let types : (is_type_sort (sort_of (node_of x)) ≡ true) × (is_type_sort (sort_of (node_of u)) ≡ true) = both-true (is_type_sort (sort_of (node_of x))) (is_type_sort (sort_of (node_of u))) all.0 in
    free-for t s q env u ok (subst (λ (y : Tree). is_type_sort (sort_of (node_of y)) ≡ true) e types.0) types.1 all.1
