use Rattle.std.proofs.Common.{subst}
use Rattle.goal_lists.specs.Answers.{setting_of}
use Rattle.goal_lists.specs.Interned.{predicate_at}
use Rattle.goal_lists.specs.Levels.{level}
use Rattle.goal_solver.specs.Evaluations.{SaysAt}
use Rattle.goal_solver.proofs.context.EvalCtxt.evaluate_predicate.Goals as goal

pub returns-clause-says : goal.returns-clause-says
returns-clause-says c = λ m owed.
    subst (λ n. SaysAt (level (setting_of c.args.self.now.tables m c.args.environment.now) n) (predicate_at c.args.self.now.terms c.args.predicate.now) c.evaluate.result) c.remaining_depth-depth.ensures (c.evaluate.ensures.says m owed)
