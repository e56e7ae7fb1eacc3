use Rattle.goal_solver.specs.HostGoals.{through_at}
use Rattle.goal_solver.proofs.ApplicableLemmas.{unvalued-applies-later}
use Rattle.goal_solver.proofs.HostGoalLemmas.{host-sound, host-decided}
use Rattle.goal_solver.proofs.context.EvalCtxt.answer_host_effect_through.Goals as goal

pub returns-clause-sound : goal.returns-clause-sound
returns-clause-sound c =
    host-sound c.args.self.now c.host_effect_outcome_through-outcome.new.self c.conclude.new.self c.args.environment.now (through_at c.args.goal.now)
    c.host_effect_outcome_through-outcome.result c.conclude.result c.conclude.ensures.goes_back c.host_effect_outcome_through-outcome.ensures.says c.conclude.ensures.yes c.conclude.ensures.no

pub returns-clause-decided : goal.returns-clause-decided
returns-clause-decided c =
    host-decided c.args.self.now c.host_effect_outcome_through-outcome.new.self c.conclude.new.self c.args.environment.now (through_at c.args.goal.now)
    c.host_effect_outcome_through-outcome.result c.conclude.result c.conclude.ensures.goes_back c.host_effect_outcome_through-outcome.ensures.says
    c.conclude.ensures.owed

pub returns-clause-applies : goal.returns-clause-applies
returns-clause-applies c =
    unvalued-applies-later c.args.self.now c.host_effect_outcome_through-outcome.new.self c.conclude.new.self c.conclude.result c.host_effect_outcome_through-outcome.ensures.unchanged c.conclude.ensures.unchanged
    c.is_well_formed.ensures.storage c.conclude.ensures.quiet c.conclude.ensures.lists
