use Rattle.goal_solver.proofs.GoalOutcomeLemmas.{grown-goes_back}
use Rattle.goal_solver.proofs.context.EvalCtxt.asked_outcome.Goals as goal

pub returns-in_err-predicate-clause-goes_back : goal.returns-in_err-predicate-clause-goes_back
returns-in_err-predicate-clause-goes_back c = grown-goes_back c.args.self.now c.interned_predicate.new.self c.interned_predicate.ensures.unchanged c.interned_predicate.ensures.kept
