use Rattle.std.proofs.Common.{subst}
use Rattle.goal_lists.specs.Answers.{setting_of}
use Rattle.goal_lists.specs.Interned.{erased_at}
use Rattle.goal_lists.specs.Levels.{level}
use Rattle.goal_solver.specs.HeadForms.{SaysForm}
use Rattle.goal_solver.proofs.context.EvalCtxt.form_of_alias.Goals as goal

pub returns-clause-says : goal.returns-clause-says
returns-clause-says c = λ m owed.
    subst (λ n. SaysForm (level (setting_of c.args.self.now.tables m c.args.environment.now) n) (erased_at c.args.self.now.terms c.args.id) c.evaluate.new.self.terms c.evaluate.result) c.remaining_depth-depth.ensures (c.evaluate.ensures.says m owed)
