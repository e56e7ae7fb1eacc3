use Rattle.goal_solver.proofs.EqualResponses.{equations-decided}
use Rattle.goal_solver.proofs.assembly.merged_rules.has_same_equations.Goals as goal

pub returns : goal.returns
returns c = equations-decided c.args.a.now.items c.args.b.now.items c.eq.result c.eq.ensures
