use Rattle.std.specs.Prelude.{Result, Ok}
use Rattle.goal_kinds.specs.declared.faults.Fault.{Fault}
use Rattle.goal_kinds.specs.declared.rules.Candidate.{Candidate}
use Rattle.goal_solver.specs.RunAnswers.{RunsClosed, RunsInTrial}
use Rattle.goal_solver.specs.RunRules.{response_of}
use Rattle.goal_solver.proofs.ListedLemmas.{quiet-applies-after}
use Rattle.goal_solver.proofs.RoundLemmas.{handed-on}
use Rattle.goal_solver.proofs.context.EvalCtxt.run_rule.Goals as goal

pub returns-in_err-result-clause-closed : goal.returns-in_err-result-clause-closed
returns-in_err-result-clause-closed c = λ closed.
    handed-on c.from_residual.result c.in_err-result.field-0.0
    (λ (r : Result Candidate Fault). RunsClosed c.args.environment.now c.args.rule.now c.args.self.now c.rule_response.new.self (response_of r)) c.from_residual.ensures.1
    (record {
      sound = λ m owed. c.in_err-result.ensures.sound m owed closed;
      decided = λ m owed. c.in_err-result.ensures.decided m owed closed;
      quiet = c.in_err-result.ensures.quiet closed;
      applies = tt;
    })

pub returns-in_err-result-clause-open : goal.returns-in_err-result-clause-open
returns-in_err-result-clause-open c = λ opened.
    handed-on c.from_residual.result c.in_err-result.field-0.0
    (λ (r : Result Candidate Fault). RunsInTrial c.args.environment.now c.args.rule.now c.args.self.now c.rule_response.new.self (response_of r)) c.from_residual.ensures.1
    (record { chain = tt; refused = c.in_err-result.ensures.refused opened; applies = tt })

pub returns-clause-closed : goal.returns-clause-closed
returns-clause-closed c = λ closed. record {
  sound = λ m owed. c.in_ok-result.ensures.sound m owed closed;
  decided = λ m owed. c.in_ok-result.ensures.decided m owed closed;
  quiet = c.in_ok-result.ensures.quiet closed;
  applies =
      quiet-applies-after c.args.self.now c.rule_response.new.self (Ok c.in_ok-result.result) c.rule_response.ensures.unchanged c.is_well_formed.ensures.storage
      (c.in_ok-result.ensures.quiet closed);
}

pub returns-clause-open : goal.returns-clause-open
returns-clause-open c = λ opened. record {
  chain = c.in_ok-result.ensures.chain opened;
  refused = c.in_ok-result.ensures.refused opened;
  applies = c.in_ok-result.ensures.applies opened;
}
