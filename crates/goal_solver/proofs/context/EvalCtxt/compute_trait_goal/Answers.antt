use Rattle.goal_solver.specs.Promises.{trait_asked, trait_question}
use Rattle.goal_solver.proofs.PromiseLemmas.{answers-trait, no-two-disagree}
use Rattle.goal_solver.proofs.context.EvalCtxt.compute_trait_goal.Goals as goal

pub returns-clause-closed : goal.returns-clause-closed
returns-clause-closed c = λ closed.
    answers-trait c.args.self.now c.trait_goal_response.new.self c.args.goal.now.param_env.items (trait_asked c.args.goal.now.predicate) c.trait_goal_response.result
    (λ m stands. c.trait_goal_response.ensures.sound m stands closed) (λ m owed undecided. c.trait_goal_response.ensures.decided m owed closed undecided)
    (c.trait_goal_response.ensures.quiet closed) (c.trait_goal_response.ensures.lists closed) (c.trait_goal_response.ensures.class closed)

pub returns-clause-merged : goal.returns-clause-merged
returns-clause-merged c = λ variables n above. c.trait_goal_response.ensures.merged n variables above

pub returns-clause-agrees : goal.returns-clause-agrees
returns-clause-agrees c = no-two-disagree c.args.self.now.tables c.args.goal.now.param_env.items (trait_question (trait_asked c.args.goal.now.predicate))

pub returns-clause-caused : goal.returns-clause-caused
returns-clause-caused c = λ closed. c.trait_goal_response.ensures.caused closed

pub returns-clause-faults : goal.returns-clause-faults
returns-clause-faults c = λ closed. c.trait_goal_response.ensures.faults closed
