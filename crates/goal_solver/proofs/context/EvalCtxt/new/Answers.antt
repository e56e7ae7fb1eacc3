use Rattle.std.proofs.Common.{rules, []}
use Rattle.goal_infer.proofs.SolvedLemmas.{solved-first}
use Rattle.goal_solver.proofs.GoingBackLemmas.{taken-none}
use Rattle.goal_solver.proofs.context.EvalCtxt.new.Goals as goal

pub invariant_of-result : goal.invariant_of-result
invariant_of-result c = (search rules, search rules, search rules, search rules, search rules, search (rules, solved-first []), search (rules, taken-none))
