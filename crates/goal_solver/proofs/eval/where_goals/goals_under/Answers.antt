use Rattle.std.proofs.Common.{refl, arith}
use Rattle.goal_terms.specs.TreeOf.{trees_of}
use Rattle.goal_terms.specs.declared.answers.GoalSource.TheVariants as source
use Rattle.goal_solver.proofs.WhereGoalLemmas.{goals-more, goals-all}
use Rattle.goal_solver.proofs.eval.where_goals.goals_under.Goals as goal

pub loop-clause-preserved : goal.loop-clause-preserved
loop-clause-preserved c =
    goals-more c.args.environment.now (trees_of c.args.args.now) c.args.clauses.now c.loop-clause.clause-index c.clause-item.result (source.Misc, c.in_ok-goal.goal)
    c.loop-clause.goals.items c.push.new.self.items c.loop-clause-test.true c.clause-item.is (refl, c.in_ok-goal.ensures) c.in_ok-push.ensures.items c.loop-clause.invariant

pub returns : goal.returns
returns c = goals-all c.args.environment.now (trees_of c.args.args.now) c.args.clauses.now c.loop-clause.clause-index c.loop-clause.goals.items (omega arith) c.loop-clause.invariant
