use Rattle.goal_infer.proofs.SolvedLemmas.{solved-first, solved-more, solved-equation, solved-kept}
use Rattle.goal_infer.proofs.laws.solved_states.Goals as goal

pub returns-clause-first : goal.returns-clause-first
returns-clause-first c = solved-first

pub returns-clause-variable : goal.returns-clause-variable
returns-clause-variable c = solved-more

pub returns-clause-equation : goal.returns-clause-equation
returns-clause-equation c = solved-equation

pub returns-clause-table : goal.returns-clause-table
returns-clause-table c = solved-kept
