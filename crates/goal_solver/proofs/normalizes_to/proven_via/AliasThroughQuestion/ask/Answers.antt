use Rattle.goal_solver.proofs.normalizes_to.proven_via.AliasThroughQuestion.ask.Goals as goal

pub returns-clause-memory : goal.returns-clause-memory
returns-clause-memory c = λ never. absurd never
