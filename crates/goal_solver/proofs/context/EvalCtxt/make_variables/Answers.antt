use Rattle.goal_solver.proofs.GoingBackLemmas.{goes_back-through}
use Rattle.goal_solver.proofs.VariableLemmas.{goes_back-when_made}
use Rattle.std.proofs.Common.{ap, ◌∙◌}
use Rattle.goal_solver.specs.State.{State}
use Rattle.goal_solver.proofs.context.EvalCtxt.make_variables.Goals as goal

pub returns-in_err-next_variable-clause-goes_back : goal.returns-in_err-next_variable-clause-goes_back
returns-in_err-next_variable-clause-goes_back c =
    goes_back-through c.args.self.now c.loop-kind.self c.next_variable.new.self (goes_back-when_made c.args.self.now c.loop-kind.self _ c.loop-kind.invariant) c.next_variable.ensures.goes_back

pub returns-clause-goes_back : goal.returns-clause-goes_back
returns-clause-goes_back c = goes_back-when_made c.args.self.now c.loop-kind.self _ c.loop-kind.invariant

pub returns-in_err-next_variable-clause-faults : goal.returns-in_err-next_variable-clause-faults
returns-in_err-next_variable-clause-faults c =
    ap (λ (s : State). s.delayed_faults) c.in_err-next_variable.ensures.unchanged ∙ ap (λ (s : State). s.delayed_faults) c.loop-kind.invariant

pub returns-clause-faults : goal.returns-clause-faults
returns-clause-faults c =
    ap (λ (s : State). s.delayed_faults) c.loop-kind.invariant
