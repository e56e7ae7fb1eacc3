use Rattle.std.proofs.Common.{take}
use Rattle.std.specs.List.{AllZip}
use Rattle.goal_terms.specs.TreeOf.{trees_of}
use Rattle.goal_solver.specs.TranslatedArgs.{IsGoalUnder}
use Rattle.goal_solver.proofs.eval.where_goals.goals_under.Given as goal

abbrev pub invariant-loop-clause : goal.invariant-loop-clause
invariant-loop-clause l = AllZip (IsGoalUnder l.environment (trees_of l.args)) (take l.clause-index l.clauses) l.goals.items
