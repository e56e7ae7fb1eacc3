use Rattle.goal_solver.proofs.ApplicableLemmas.{nothing-applies}
use Rattle.goal_solver.proofs.context.EvalCtxt.undecided.Goals as goal

pub returns-clause-applies : goal.returns-clause-applies
returns-clause-applies c = nothing-applies c.args.self.now c.respond.result c.is_well_formed.ensures.storage c.respond.ensures.quiet c.respond.ensures.values
