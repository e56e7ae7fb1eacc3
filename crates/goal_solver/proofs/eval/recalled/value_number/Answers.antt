use Rattle.goal_infer.proofs.SolvedLemmas.{solved-kept}
use Rattle.goal_solver.proofs.eval.recalled.value_number.Goals as goal

pub follow-requires-clause-solved : goal.follow-requires-clause-solved
follow-requires-clause-solved c = solved-kept c.args.terms.now c.intern_node.new.self c.args.inference.now c.in_ok-id.ensures.kept c.requires.solved
