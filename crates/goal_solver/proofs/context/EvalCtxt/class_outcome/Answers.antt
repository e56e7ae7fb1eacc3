use Rattle.std.proofs.Common.{subst}
use Rattle.goal_lists.specs.Answers.{setting_of}
use Rattle.goal_lists.specs.Levels.{level}
use Rattle.goal_solver.specs.ThroughClasses.{SaysTermThrough}
use Rattle.goal_solver.proofs.context.EvalCtxt.class_outcome.Goals as goal

pub returns-clause-says : goal.returns-clause-says
returns-clause-says c = λ m owed.
    subst (λ n. SaysTermThrough (setting_of c.args.self.now.tables m c.args.environment.now) (level (setting_of c.args.self.now.tables m c.args.environment.now) n) c.args.class c.args.alias.now c.evaluate.new.self.terms c.evaluate.result) c.remaining_depth-depth.ensures (c.evaluate.ensures.says m owed)
