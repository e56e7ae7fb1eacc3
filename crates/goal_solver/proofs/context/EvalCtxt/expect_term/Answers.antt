use Rattle.std.proofs.Common.{◌≡◌, Some, None, sym, ap, ◌∙◌, subst}
use Rattle.goal_interner.specs.TableMeaning.{tree_at}
use Rattle.goal_terms.specs.Tree.{node_of}
use Rattle.goal_infer.specs.Resolution.{binding_at}
use Rattle.goal_solver.specs.FreeVariables.{general_variable}
use Rattle.goal_solver.specs.State.{State}
use Rattle.goal_solver.proofs.GoalOutcomeLemmas.{grown-goes_back}
use Rattle.goal_solver.proofs.NormalizingLemmas.{expects-found, expects-general}
use Rattle.goal_solver.proofs.context.EvalCtxt.expect_term.Goals as goal

pub returns-in_err-expected-clause-goes_back : goal.returns-in_err-expected-clause-goes_back
returns-in_err-expected-clause-goes_back c = grown-goes_back c.args.self.now c.interned_term.new.self
    c.interned_term.ensures.unchanged c.interned_term.ensures.kept

pub returns-in-Some-clause-gives : goal.returns-in-Some-clause-gives
returns-in-Some-clause-gives c =
    expects-found c.args.self.now c.interned_term.new.self c.args.expected.now c.in_ok-expected.expected c.resolve-top.result c.interned_term.ensures.unchanged c.interned_term.ensures.kept c.in_ok-expected.ensures.tree
    (subst (λ (s : State). binding_at s.inference (node_of (tree_at s.terms c.in_ok-expected.expected)) ≡ None → c.resolve-top.result ≡ c.in_ok-expected.expected) c.self.view_is c.resolve-top.ensures.itself)
    c.args.found c.in-Some.variable c.bind_found.new.self c.requires
    (subst (λ (s : State). general_variable (node_of (tree_at s.terms c.resolve-top.result)) ≡ Some c.in-Some.variable) c.self.view_is
    (sym (c.general_variable.ensures ∙ ap general_variable c.node.ensures.top) ∙ c.in-Some.is))
    c.bind_found.result c.bind_found.ensures.gives c.bind_found.ensures.bound

pub returns-clause-gives : goal.returns-clause-gives
returns-clause-gives c =
    expects-general c.args.self.now c.interned_term.new.self c.args.expected.now c.in_ok-expected.expected c.resolve-top.result c.interned_term.ensures.unchanged c.interned_term.ensures.kept c.in_ok-expected.ensures.tree
    (subst (λ (s : State). binding_at s.inference (node_of (tree_at s.terms c.in_ok-expected.expected)) ≡ None → c.resolve-top.result ≡ c.in_ok-expected.expected) c.self.view_is c.resolve-top.ensures.itself)
    _ c.relate_all.result c.relate_all.new.self
    (subst (λ (s : State). general_variable (node_of (tree_at s.terms c.resolve-top.result)) ≡ None) c.self.view_is
    (sym (c.general_variable.ensures ∙ ap general_variable c.node.ensures.top) ∙ c.in_default.is))
