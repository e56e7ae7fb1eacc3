use Rattle.goal_solver.proofs.ApplicableLemmas.{nothing-applies}
use Rattle.goal_solver.proofs.GoingBackLemmas.{goes_back-same}
use Rattle.goal_solver.proofs.PromiseLemmas.{leaves-undecided}
use Rattle.goal_solver.proofs.context.EvalCtxt.const_goal_response.Goals as goal

pub returns-then-remaining_depth-eq0-clause-goes_back : goal.returns-then-remaining_depth-eq0-clause-goes_back
returns-then-remaining_depth-eq0-clause-goes_back c = goes_back-same c.args.self.now

pub returns-then-remaining_depth-eq0-clause-applies : goal.returns-then-remaining_depth-eq0-clause-applies
returns-then-remaining_depth-eq0-clause-applies c = nothing-applies c.args.self.now c.respond.result c.is_well_formed.ensures.storage c.respond.ensures.quiet c.respond.ensures.values

pub returns-then-remaining_depth-eq0-clause-at_once : goal.returns-then-remaining_depth-eq0-clause-at_once
returns-then-remaining_depth-eq0-clause-at_once c = λ z.
    leaves-undecided c.args.self.now c.respond.result c.respond.ensures.certainty c.respond.ensures.proven_via c.respond.ensures.values c.respond.ensures.quiet
