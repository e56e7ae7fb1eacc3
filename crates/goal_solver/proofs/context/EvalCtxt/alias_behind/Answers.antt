use Rattle.std.proofs.Common.{◌≡◌, Some, None, sym, ◌∙◌, subst}
use Rattle.goal_interner.specs.TableMeaning.{tree_at}
use Rattle.goal_terms.specs.Tree.{node_of}
use Rattle.goal_infer.specs.Resolution.{binding_at, binding_of, resolved}
use Rattle.goal_solver.specs.State.{State}
use Rattle.goal_solver.proofs.BoundAliasLemmas.{behind-alias, behind-none, unbound-stands}
use Rattle.goal_solver.proofs.context.EvalCtxt.alias_behind.Goals as goal

pub returns-in-None-clause-none : goal.returns-in-None-clause-none
returns-in-None-clause-none c =
    λ e. unbound-stands c.args.self.now c.args.variable c.holds_together.ensures.solved
    (subst (λ (s : State). binding_of s.inference c.args.variable ≡ None) c.self.view_is (sym c.binding.ensures ∙ c.in-None.is))

pub returns-in-Some-clause-alias : goal.returns-in-Some-clause-alias
returns-in-Some-clause-alias c =
    behind-alias c.args.self.now c.args.variable c.in-Some.id c.resolve.result c.holds_together.ensures.solved
    (subst (λ (s : State). binding_of s.inference c.args.variable ≡ Some c.in-Some.id) c.self.view_is (sym c.binding.ensures ∙ c.in-Some.is))
    (subst (λ (s : State). resolved s.terms s.inference c.resolve.result ≡ resolved s.terms s.inference c.in-Some.id) c.self.view_is c.resolve.ensures.same)
    c.alias_at.result c.alias_at.ensures.alias c.alias_at.ensures.none

pub returns-in-Some-clause-none : goal.returns-in-Some-clause-none
returns-in-Some-clause-none c =
    behind-none c.args.self.now c.args.variable c.in-Some.id c.resolve.result c.holds_together.ensures.solved
    (subst (λ (s : State). binding_of s.inference c.args.variable ≡ Some c.in-Some.id) c.self.view_is (sym c.binding.ensures ∙ c.in-Some.is))
    (subst (λ (s : State). resolved s.terms s.inference c.resolve.result ≡ resolved s.terms s.inference c.in-Some.id) c.self.view_is c.resolve.ensures.same)
    (subst (λ (s : State). binding_at s.inference (node_of (tree_at s.terms c.resolve.result)) ≡ None) c.self.view_is c.resolve.ensures.unbound)
    c.alias_at.result c.alias_at.ensures.none
