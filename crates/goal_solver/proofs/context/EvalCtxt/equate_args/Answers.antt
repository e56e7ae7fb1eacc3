use Rattle.goal_terms.specs.TreeOf.{trees_of}
use Rattle.goal_solver.proofs.RefusalLemmas.{equal-refused}
use Rattle.goal_solver.proofs.context.EvalCtxt.equate_args.Goals as goal

pub returns-clause-refused : goal.returns-clause-refused
returns-clause-refused c =
    equal-refused c.args.self.now c.eq_args.new.self c.args.environment.now (trees_of c.args.left.now) (trees_of c.args.right.now) c.eq_args.result
    c.eq_args.ensures.equated
    c.eq_args.ensures.unchanged c.eq_args.ensures.goes_back
