use Rattle.goal_infer.specs.Resolution.{resolution}
use Rattle.goal_infer.proofs.laws.solved_states_can_be_met.Goals as goal

pub returns : goal.returns
returns c T s solved = (resolution T s, solved.kinds, solved.agrees)
