-- Aliases that terms stand for, bindings followed.
use Rattle.std.proofs.Common.{◌≡◌, false, Option, Some, None, Result, Ok, Err, refl, sym, ap, ◌∙◌}
use Rattle.std.specs.Prelude.{IfOk, IfSome, is_some}
use Rattle.std.proofs.lemmas.Bool.{false≢true}
use Rattle.goal_terms.specs.Erased.{erased}
use Rattle.goal_interner.specs.TableMeaning.{tree_at}
use Rattle.goal_terms.specs.Tree.{Tree, node, alias, variable, node_of}
use Rattle.goal_terms.specs.TreeOf.{tree_of_alias}
use Rattle.goal_terms.specs.declared.heads.Head.{Head}
use Rattle.goal_terms.specs.declared.heads.Node.TheVariants as nodes
use Rattle.goal_terms.specs.declared.heads.Variable.{Variable}
use Rattle.goal_interner.specs.declared.term_nodes.TermId.{TermId}
use Rattle.goal_terms.specs.declared.terms.AliasTerm.{AliasTerm}
use Rattle.goal_infer.specs.Replacement.{replaced}
use Rattle.goal_infer.specs.Resolution.{Agrees, IsSolved, binding_at, binding_of, resolved, term_at}
use Rattle.goal_kinds.specs.declared.faults.Fault.{Fault}
use Rattle.goal_eval.specs.Pending.{is_alias}
use Rattle.goal_solver.specs.Binding.{StandsForAlias, StandsForNoAlias, bound_term}
use Rattle.goal_solver.specs.State.{State}

-- a constructor stands for no alias
pub head-stands : (s : State) (t : Tree) (h : Head) → node_of t ≡ nodes.Head h → StandsForNoAlias s t
unfolding erased replaced
head-stands s (node g ts) h e = refl
head-stands s (alias k ts) h e = absurd (cc)
head-stands s (variable v) h e = absurd (cc)

-- an unbound variable doesn't either
pub unbound-stands : (s : State) (v : Variable) → IsSolved s.terms s.inference → binding_of s.inference v ≡ None → StandsForNoAlias s (variable v)
unfolding erased replaced
unbound-stands s v solved e = ap (λ t. is_alias (node_of t)) (solved.free v e)

-- a bound variable stands for what its chain of bindings leads to
pub bound-stands : (s : State) (v : Variable) (id top : TermId) → IsSolved s.terms s.inference → binding_of s.inference v ≡ Some id →
    resolved s.terms s.inference top ≡ resolved s.terms s.inference id → bound_term s (tree_at s.terms top) ≡ bound_term s (variable v)
unfolding erased replaced resolved term_at Agrees
bound-stands s v id top solved e same = same ∙ sym (solved.agrees v id e)

-- which is no alias if it isn't one there
ended-stands : (s : State) (t : Tree) → IsSolved s.terms s.inference → binding_at s.inference (node_of t) ≡ None → is_alias (node_of t) ≡ false → StandsForNoAlias s t
unfolding erased replaced
ended-stands s (node h ts) solved e f = refl
ended-stands s (alias k ts) solved e f = absurd (false≢true (sym f))
ended-stands s (variable v) solved e f = unbound-stands s v solved e

pub bound-none : (s : State) (v : Variable) (id top : TermId) → IsSolved s.terms s.inference → binding_of s.inference v ≡ Some id →
    resolved s.terms s.inference top ≡ resolved s.terms s.inference id → binding_at s.inference (node_of (tree_at s.terms top)) ≡ None →
    is_alias (node_of (tree_at s.terms top)) ≡ false → StandsForNoAlias s (variable v)
bound-none s v id top solved e same ended f =
    ap (λ t. is_alias (node_of t)) (sym (bound-stands s v id top solved e same)) ∙ ended-stands s (tree_at s.terms top) solved ended f

-- what a variable's chain of bindings leads to, by what is said of the alias there
module _ (s : State) (v : Variable) (id top : TermId) (solved : IsSolved s.terms s.inference) (bound : binding_of s.inference v ≡ Some id)
    (same : resolved s.terms s.inference top ≡ resolved s.terms s.inference id) where
  pub behind-alias : (r : Result (Option AliasTerm) Fault) → IfOk r (λ o. IfSome o (λ a. tree_of_alias a ≡ tree_at s.terms top)) →
      IfOk r (λ o. is_some o ≡ is_alias (node_of (tree_at s.terms top))) → IfOk r (λ o. IfSome o (λ a. StandsForAlias s (variable v) (tree_of_alias a)))
  behind-alias (Err f) h k = h
  behind-alias (Ok None) h k = h
  behind-alias (Ok (Some a)) h k = (ap (λ t. is_alias (node_of t)) h ∙ sym k, ap (bound_term s) h ∙ bound-stands s v id top solved bound same)

  pub behind-none : binding_at s.inference (node_of (tree_at s.terms top)) ≡ None → (r : Result (Option AliasTerm) Fault) →
      IfOk r (λ o. is_some o ≡ is_alias (node_of (tree_at s.terms top))) → IfOk r (λ o. o ≡ None → StandsForNoAlias s (variable v))
  behind-none ended (Err f) k = k
  behind-none ended (Ok None) k = λ e. bound-none s v id top solved bound same ended (sym k)
  behind-none ended (Ok (Some a)) k = λ e. absurd (cc)
