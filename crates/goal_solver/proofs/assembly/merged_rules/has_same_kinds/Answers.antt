use Rattle.goal_solver.proofs.EqualResponses.{kinds-decided}
use Rattle.goal_solver.proofs.assembly.merged_rules.has_same_kinds.Goals as goal

pub returns : goal.returns
returns c = kinds-decided c.args.a.now.items c.args.b.now.items c.eq.result c.eq.ensures
