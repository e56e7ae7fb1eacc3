use Rattle.std.proofs.Common.{sym, ap}
use Rattle.goal_solver.specs.OpenProjections.{class_if}
use Rattle.goal_solver.proofs.normalizes_to.open.proven_class.Goals as goal

pub returns-in-Yes : goal.returns-in-Yes
returns-in-Yes c = sym (ap (λ x. class_if x c.args.response.now.proven_via) c.in-Yes.is)
