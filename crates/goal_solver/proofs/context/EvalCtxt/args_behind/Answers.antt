use Rattle.std.proofs.Common.{◌++◌, ap, ◌∙◌, refl}
use Rattle.goal_terms.specs.TreeOf.{trees_of}
use Rattle.goal_solver.proofs.OpenStepLemmas.{follows-named, number-named}
use Rattle.goal_solver.proofs.context.EvalCtxt.args_behind.Goals as goal

pub returns-clause-names : goal.returns-clause-names
returns-clause-names c =
    follows-named (trees_of c.in-Some.args.now.items) _ (trees_of c.args.own.now) c.args.self.now _ _ (number-named c.args.named.now c.args.number c.in-Some.args.now c.in-Some.ensures)
    (c.in-Ok.ensures ∙ ap (λ xs. trees_of xs ++ trees_of c.args.own.now) c.deref.ensures.value) refl
