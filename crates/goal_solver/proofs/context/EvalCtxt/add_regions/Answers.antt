use Rattle.goal_solver.proofs.GoingBackLemmas.{goes_back-through}
use Rattle.std.proofs.Common.{◌∙◌}
use Rattle.goal_solver.proofs.context.EvalCtxt.add_regions.Goals as goal

pub returns-clause-goes_back : goal.returns-clause-goes_back
returns-clause-goes_back c = goes_back-through c.args.self.now c.make_variables.new.self c.add_equations.new.self c.make_variables.ensures.goes_back c.add_equations.ensures.goes_back

pub returns-clause-faults : goal.returns-clause-faults
returns-clause-faults c =
    c.add_equations.ensures.faults ∙ c.make_variables.ensures.faults
