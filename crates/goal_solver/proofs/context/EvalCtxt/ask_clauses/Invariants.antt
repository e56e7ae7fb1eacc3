use Rattle.std.proofs.Common.{take}
use Rattle.goal_terms.specs.TreeOf.{trees_of}
use Rattle.goal_solver.specs.OpenRuns.{AddsGoals, clauses_with}
use Rattle.goal_solver.proofs.context.EvalCtxt.ask_clauses.Given as goal

abbrev pub invariant-loop-clause : goal.invariant-loop-clause
invariant-loop-clause l = AddsGoals l.source l.environment (clauses_with (trees_of l.args) (take l.clause-index l.clauses)) l.fn.self l.self
