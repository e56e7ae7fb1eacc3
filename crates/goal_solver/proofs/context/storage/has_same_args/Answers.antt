use Rattle.goal_solver.proofs.StoredLemmas.{args-decided}
use Rattle.goal_solver.proofs.context.storage.has_same_args.Goals as goal

pub returns : goal.returns
returns c = args-decided c.args.a.now.items c.args.b.now.items c.eq.result c.eq.ensures
