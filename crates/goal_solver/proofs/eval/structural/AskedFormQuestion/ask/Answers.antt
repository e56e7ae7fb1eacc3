use Rattle.goal_solver.proofs.eval.structural.AskedFormQuestion.ask.Goals as goal

pub returns-clause-memory : goal.returns-clause-memory
returns-clause-memory c = λ never. absurd never
