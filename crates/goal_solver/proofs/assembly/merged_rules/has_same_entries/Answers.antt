use Rattle.goal_solver.proofs.EqualResponses.{entries-decided}
use Rattle.goal_solver.proofs.assembly.merged_rules.has_same_entries.Goals as goal

pub returns : goal.returns
returns c = entries-decided c.args.a.now.items c.args.b.now.items c.eq.result c.eq.ensures
