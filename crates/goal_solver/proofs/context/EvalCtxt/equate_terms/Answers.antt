use Rattle.std.proofs.Common.{[], ◌∷◌}
use Rattle.goal_terms.specs.TreeOf.{tree_of_term}
use Rattle.goal_solver.proofs.RefusalLemmas.{equal-refused}
use Rattle.goal_solver.proofs.context.EvalCtxt.equate_terms.Goals as goal

pub returns-clause-refused : goal.returns-clause-refused
returns-clause-refused c =
    equal-refused c.args.self.now c.eq.new.self c.args.environment.now (tree_of_term c.args.left.now ∷ []) (tree_of_term c.args.right.now ∷ []) c.eq.result
    c.eq.ensures.equated
    c.eq.ensures.unchanged c.eq.ensures.goes_back
