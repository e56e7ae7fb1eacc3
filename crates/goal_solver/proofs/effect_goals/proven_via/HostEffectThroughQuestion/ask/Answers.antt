use Rattle.std.proofs.Common.{Result, Ok, Err}
use Rattle.std.specs.Prelude.{IfOk}
use Rattle.goal_solver.proofs.effect_goals.proven_via.HostEffectThroughQuestion.ask.Goals as goal

-- what is said of an answer where something holds
for_answer : {A E : Type 0} (r : Result A E) (H : Type 0) (P : A → Type 0) → (H → IfOk r P) → IfOk r (λ o. H → P o)
for_answer (Ok x) H P h = h
for_answer (Err e) H P h = tt

pub returns-clause-says : goal.returns-clause-says
returns-clause-says c = λ m runs. for_answer c.outcome_proven_via.result _ _ (c.outcome_proven_via.ensures.says m runs)

pub returns-clause-memory : goal.returns-clause-memory
returns-clause-memory c = λ never. absurd never
