use Rattle.goal_solver.proofs.context.EvalCtxt.trait_outcome_at.Goals as goal

pub returns-clause-says : goal.returns-clause-says
returns-clause-says c = c.evaluate.ensures.says
