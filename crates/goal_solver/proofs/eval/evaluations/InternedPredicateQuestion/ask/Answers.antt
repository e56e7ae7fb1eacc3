use Rattle.goal_solver.proofs.eval.evaluations.InternedPredicateQuestion.ask.Goals as goal

pub returns-clause-memory : goal.returns-clause-memory
returns-clause-memory c = λ never. absurd never
