-- Where variables stand once bindings are followed.
use Rattle.std.proofs.Common.{◌≡◌, Bool, true, false, ◌||◌, ℕ, ◌+◌, List, length, Some, None, refl, sym, ap, ◌∙◌}
use Rattle.std.specs.Prelude.{slice_get}
use Rattle.goal_terms.specs.NodeTests.{some_node, some_in_row, is_infer}
use Rattle.goal_terms.specs.SameTree.{same_node}
use Rattle.goal_terms.specs.Tree.{Tree, Trees, node, alias, variable, none, more, node_of, parts_of}
use Rattle.goal_terms.specs.declared.heads.Node.{Node}
use Rattle.goal_terms.specs.declared.heads.Node.TheVariants as nodes
use Rattle.goal_terms.specs.declared.node_tests.Within.TheVariants.{Everything}
use Rattle.goal_terms.proofs.NodeTestLemmas.{some_from, some_from-found, some_from-more, some_from-end, some_node-walk}
use Rattle.goal_terms.specs.declared.heads.Variable.{Variable}
use Rattle.goal_interner.specs.declared.term_nodes.TermId.{TermId}
use Rattle.goal_infer.specs.Occurrence.{place_of, place_in_row, place_at, joined, within_alias}
use Rattle.goal_infer.specs.Replacement.{same_variable}
use Rattle.goal_infer.specs.Resolution.{binding_of, resolved, Agrees, IsSolved}
use Rattle.goal_infer.specs.declared.occurs.Occurrence.{Occurrence}
use Rattle.goal_infer.specs.declared.occurs.Occurrence.TheVariants.{Nowhere, InAliasesAlone, Outside}
use Rattle.goal_solver.specs.FreeVariables.{is_somewhere, reaches}
use Rattle.goal_solver.specs.State.{State}

somewhere-joined : (a b : Occurrence) → is_somewhere (joined a b) ≡ is_somewhere a || is_somewhere b
somewhere-joined Nowhere b = refl
somewhere-joined InAliasesAlone Nowhere = refl
somewhere-joined InAliasesAlone InAliasesAlone = refl
somewhere-joined InAliasesAlone Outside = refl
somewhere-joined Outside b = refl

somewhere-within : (a : Occurrence) → is_somewhere (within_alias a) ≡ is_somewhere a
somewhere-within Nowhere = refl
somewhere-within InAliasesAlone = refl
somewhere-within Outside = refl

somewhere-at : (q : Bool) → is_somewhere (place_at q) ≡ q
somewhere-at true = refl
somewhere-at false = refl

mutual
  unfolding some_node place_of same_node

  -- a variable stands somewhere in a term where one of its nodes is that variable
  pub somewhere-node : (v : Variable) (t : Tree) → is_somewhere (place_of v t) ≡ some_node (is_infer v) t
  somewhere-node v (node h ts) = somewhere-row v ts
  somewhere-node v (alias k ts) = somewhere-within (place_in_row v ts) ∙ somewhere-row v ts
  somewhere-node v (variable w) = somewhere-at (same_variable w v)

  somewhere-row : (v : Variable) (ts : Trees) → is_somewhere (place_in_row v ts) ≡ some_in_row (is_infer v) ts
  somewhere-row v none = refl
  somewhere-row v (more t ts) =
      somewhere-joined (place_of v t) (place_in_row v ts)
      ∙ ap (λ b. b || is_somewhere (place_in_row v ts)) (somewhere-node v t)
      ∙ ap (λ b. some_node (is_infer v) t || b) (somewhere-row v ts)

-- what a bound variable reaches stands in what it is bound to
pub reaches-bound : (s : State) (v w : Variable) (id : TermId) →
    IsSolved s.terms s.inference → binding_of s.inference w ≡ Some id
    → reaches s v (nodes.Variable w) ≡ is_somewhere (place_of v (resolved s.terms s.inference id))
unfolding reaches resolved Agrees
reaches-bound s v w id solved e =
    ap (some_node (is_infer v)) (solved.agrees w id e) ∙ sym (somewhere-node v (resolved s.terms s.inference id))

-- a variable that isn't bound reaches itself alone
pub reaches-unbound : (s : State) (v w : Variable) →
    IsSolved s.terms s.inference → binding_of s.inference w ≡ None
    → reaches s v (nodes.Variable w) ≡ is_infer v (nodes.Variable w)
unfolding reaches some_node
reaches-unbound s v w solved e = ap (some_node (is_infer v)) (solved.free w e)

-- a walk over a term: its top passes
pub walk-top : (p : Node → Bool) (t : Tree) (n : Node) (b : Bool) → n ≡ node_of t → b ≡ p n → b ≡ true → true ≡ some_node p t
walk-top p t n b e f g =
    let top : p (node_of t) ≡ true = ap p (sym e) ∙ sym f ∙ g in
    sym (some_node-walk Everything p t ∙ ap (λ x. x || some_from Everything p (parts_of t) 0) top)

or-true : (a b : Bool) → b ≡ true → a || b ≡ true
or-true true b e = refl
or-true false b e = e

-- or one of its parts does
pub walk-part : (p : Node → Bool) (t u : Tree) (us : List Tree) (i : ℕ) (b : Bool) → us ≡ parts_of t → slice_get us i ≡ Some u → some_from Everything p us i ≡ some_from Everything p us 0 →
    b ≡ some_node p u → b ≡ true → true ≡ some_node p t
walk-part p t u us i b e at before f g =
    let found : some_from Everything p us 0 ≡ true = some_from-found Everything p us i u (some_from Everything p us 0) at (sym f ∙ g) before in
    sym (some_node-walk Everything p t ∙ or-true (p (node_of t)) (some_from Everything p (parts_of t) 0) (ap (λ ts. some_from Everything p ts 0) (sym e) ∙ found))

-- a part doesn't
pub walk-more : (p : Node → Bool) (u : Tree) (us : List Tree) (i : ℕ) (b : Bool) → slice_get us i ≡ Some u → some_from Everything p us i ≡ some_from Everything p us 0 →
    b ≡ some_node p u → b ≡ false → some_from Everything p us (i + 1) ≡ some_from Everything p us 0
walk-more p u us i b at before f g = some_from-more Everything p us i u (some_from Everything p us 0) at (sym f ∙ g) before

-- neither the top nor a part does
pub walk-end : (p : Node → Bool) (t : Tree) (us : List Tree) (n : Node) (i : ℕ) (b : Bool) → n ≡ node_of t → b ≡ p n → b ≡ false → us ≡ parts_of t → length us ≡ i →
    some_from Everything p us i ≡ some_from Everything p us 0 → false ≡ some_node p t
walk-end p t us n i b e f g h l before =
    let top : p (node_of t) ≡ false = ap p (sym e) ∙ sym f ∙ g in
    let below : some_from Everything p (parts_of t) 0 ≡ false = ap (λ ts. some_from Everything p ts 0) (sym h) ∙ sym before ∙ some_from-end Everything p us i l in
    sym (some_node-walk Everything p t ∙ ap (λ x. x || some_from Everything p (parts_of t) 0) top ∙ below)
