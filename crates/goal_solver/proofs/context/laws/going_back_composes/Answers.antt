use Rattle.goal_solver.proofs.GoingBackLemmas.{goes_back-same, goes_back-through}
use Rattle.goal_solver.proofs.context.laws.going_back_composes.Goals as goal

pub returns-clause-itself : goal.returns-clause-itself
returns-clause-itself c = goes_back-same

pub returns-clause-through : goal.returns-clause-through
returns-clause-through c = goes_back-through
