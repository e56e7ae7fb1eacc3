use Rattle.std.proofs.Common.{subst}
use Rattle.goal_lists.specs.Answers.{setting_of}
use Rattle.goal_lists.specs.Interned.{erased_all}
use Rattle.goal_lists.specs.Levels.{level}
use Rattle.goal_solver.specs.Evaluations.{SaysTermAt}
use Rattle.goal_solver.proofs.context.EvalCtxt.evaluate_alias.Goals as goal

pub returns-clause-says : goal.returns-clause-says
returns-clause-says c = λ m owed.
    subst (λ n. SaysTermAt (level (setting_of c.args.self.now.tables m c.args.environment.now) n) c.args.kind (erased_all c.args.self.now.terms c.args.args.now) c.evaluate.new.self.terms c.evaluate.result) c.remaining_depth-depth.ensures (c.evaluate.ensures.says m owed)
