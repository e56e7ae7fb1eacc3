use Rattle.std.proofs.Common.{Some, sym, ap, ◌∙◌}
use Rattle.goal_solver.proofs.RoundLemmas.{read-at}
use Rattle.goal_solver.proofs.eval.added_evaluation.goal_at.Goals as goal

pub returns : goal.returns
returns c = read-at c.args.goals.now c.args.place c.index-goals-place.result c.requires ∙ ap Some (sym c.index-goals-place.is)
