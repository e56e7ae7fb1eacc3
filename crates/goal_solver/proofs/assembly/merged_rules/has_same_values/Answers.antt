use Rattle.goal_solver.proofs.EqualResponses.{values-decided}
use Rattle.goal_solver.proofs.assembly.merged_rules.has_same_values.Goals as goal

pub returns : goal.returns
returns c = values-decided c.args.a.now.items c.args.b.now.items c.eq.result c.eq.ensures
