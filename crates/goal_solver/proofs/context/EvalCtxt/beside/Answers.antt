use Rattle.std.proofs.Common.{refl}
use Rattle.goal_solver.proofs.SinceMarkLemmas.{lists-kept}
use Rattle.goal_solver.proofs.context.EvalCtxt.beside.Goals as goal

pub returns-clause-lists : goal.returns-clause-lists
returns-clause-lists c = (
  c.in_ok-listed.listed,
  lists-kept c.apply_response.new.self c.response_since_mark.new.self c.args.answer.certainty c.in_ok-listed.listed c.response_since_mark.ensures.unchanged (c.response_since_mark.ensures.goes_back).terms c.holds_together.ensures.solved c.in_ok-listed.ensures.listed,
  refl,
)
