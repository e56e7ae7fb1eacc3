use Rattle.goal_solver.proofs.RefusalLemmas.{stopped-never}
use Rattle.goal_solver.proofs.context.EvalCtxt.read_open.Goals as goal

pub returns-in-Err-clause-never : goal.returns-in-Err-clause-never
returns-in-Err-clause-never c = stopped-never _ c.undecided_by.result c.undecided_by.ensures.undecided
