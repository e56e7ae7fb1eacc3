use Rattle.std.proofs.Common.{Result, Ok, Err, suc, subst}
use Rattle.std.specs.Prelude.{IfOk}
use Rattle.goal_lists.specs.Answers.{setting_of}
use Rattle.goal_lists.specs.Levels.{level}
use Rattle.goal_solver.specs.HostGoals.{HoldsThroughClass, SaysHostAt, through_at}
use Rattle.goal_solver.proofs.context.EvalCtxt.host_effect_outcome_through.Goals as goal

-- what is said of an answer where something holds
of_answer : {A E : Type 0} (r : Result A E) (H : Type 0) (P : A → Type 0) → IfOk r (λ o. H → P o) → H → IfOk r P
of_answer (Ok x) H P h = h
of_answer (Err e) H P h = λ holds. tt

pub returns-clause-says : goal.returns-clause-says
returns-clause-says c = λ m owed.
    subst (λ n. HoldsThroughClass (level (setting_of c.args.self.now.tables m c.args.environment.now) n) (through_at c.args.goal.now) → IfOk c.evaluate.result (SaysHostAt (setting_of c.args.self.now.tables m c.args.environment.now) (suc n) (through_at c.args.goal.now)))
    c.remaining_depth-depth.ensures (of_answer c.evaluate.result _ _ (c.evaluate.ensures.says m owed))
