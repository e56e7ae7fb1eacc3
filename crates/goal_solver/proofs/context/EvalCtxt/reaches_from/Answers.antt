use Rattle.std.proofs.Common.{◌≡◌, Some, None, sym, ap, ◌∙◌, subst}
use Rattle.goal_infer.specs.Occurrence.{place_of}
use Rattle.goal_infer.specs.Resolution.{binding_of, resolved}
use Rattle.goal_solver.specs.FreeVariables.{is_somewhere}
use Rattle.goal_solver.specs.State.{State}
use Rattle.goal_solver.proofs.FreeVariableLemmas.{reaches-bound, reaches-unbound}
use Rattle.goal_solver.proofs.context.EvalCtxt.reaches_from.Goals as goal

pub returns-in-None : goal.returns-in-None
returns-in-None c =
    c.passes.ensures
    ∙ sym (reaches-unbound c.args.self.now c.args.variable c.args.found c.holds_together.ensures.solved
    (subst (λ (s : State). binding_of s.inference c.args.found ≡ None) c.self.view_is (sym c.binding.ensures ∙ c.in-None.is)))

pub returns-in-Some : goal.returns-in-Some
returns-in-Some c =
    c.is_somewhere.ensures ∙ ap is_somewhere c.occurs.ensures
    ∙ ap (λ (s : State). is_somewhere (place_of c.args.variable (resolved s.terms s.inference c.in-Some.id))) c.self.view_is
    ∙ sym (reaches-bound c.args.self.now c.args.variable c.args.found c.in-Some.id c.holds_together.ensures.solved
    (subst (λ (s : State). binding_of s.inference c.args.found ≡ Some c.in-Some.id) c.self.view_is (sym c.binding.ensures ∙ c.in-Some.is)))
