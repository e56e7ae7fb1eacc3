use Rattle.std.proofs.Common.{take}
use Rattle.goal_terms.specs.TreeOf.{trees_of}
use Rattle.goal_terms.specs.declared.answers.GoalSource.TheVariants as source
use Rattle.goal_solver.specs.OpenRuns.{AddsGoals, conditions_with}
use Rattle.goal_solver.proofs.context.EvalCtxt.ask_conditions.Given as goal

abbrev pub invariant-loop-condition : goal.invariant-loop-condition
invariant-loop-condition l = AddsGoals source.ImplWhereBound l.environment (conditions_with l.constness (trees_of l.args) (take l.condition-index l.conditions)) l.fn.self l.self
