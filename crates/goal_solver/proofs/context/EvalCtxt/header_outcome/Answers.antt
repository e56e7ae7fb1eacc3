use Rattle.std.proofs.Common.{Result, Ok, Err, inl, refl, subst}
use Rattle.std.specs.Prelude.{IfOk}
use Rattle.goal_lists.specs.Answers.{setting_of}
use Rattle.goal_lists.specs.Interned.{erased_all}
use Rattle.goal_lists.specs.Levels.{level}
use Rattle.goal_solver.specs.TranslatedArgs.{SaysHeader}
use Rattle.goal_solver.proofs.context.EvalCtxt.header_outcome.Goals as goal

-- what is said of a result is said in parts
first_part : {A E : Type 0} (r : Result A E) (P Q : A → Type 0) → IfOk r (λ x. P x × Q x) → IfOk r P
first_part (Ok x) P Q h = h.0
first_part (Err e) P Q h = tt

second_part : {A E : Type 0} (r : Result A E) (P Q : A → Type 0) → IfOk r (λ x. P x × Q x) → IfOk r Q
second_part (Ok x) P Q h = h.1
second_part (Err e) P Q h = tt

pub returns-clause-count : goal.returns-clause-count
returns-clause-count c = first_part c.evaluate.result _ _ (c.evaluate.ensures.says c.evaluate.new.self.typing_mode (inl refl))

pub returns-clause-says : goal.returns-clause-says
returns-clause-says c = λ m owed.
    subst (λ n. SaysHeader (level (setting_of c.args.self.now.tables m c.args.environment.now) n) c.args.other.now (erased_all c.args.self.now.terms c.args.given.now) c.evaluate.new.self.terms c.evaluate.result) c.remaining_depth-depth.ensures
    (second_part c.evaluate.result _ _ (c.evaluate.ensures.says m owed))
