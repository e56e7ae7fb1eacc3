use Rattle.std.proofs.Common.{ap, ◌∙◌, inl, inr, ⊎_elim}
use Rattle.goal_solver.specs.declared.eval.run_rule.recorded.ToRecord.TheVariants as recorded
use Rattle.goal_solver.proofs.GoingBackLemmas.{goes_back-same}
use Rattle.goal_solver.proofs.RuleAnswerLemmas.{recorded-accesses, recorded-faults}
use Rattle.goal_solver.proofs.context.EvalCtxt.record_at_most.Goals as goal

pub returns-in-Access-clause-unchanged : goal.returns-in-Access-clause-unchanged
returns-in-Access-clause-unchanged c = recorded-accesses c.args.self.now c.read_mode.new.self c.read_mode.ensures.unchanged

pub returns-in-DelayedFault-clause-unchanged : goal.returns-in-DelayedFault-clause-unchanged
returns-in-DelayedFault-clause-unchanged c = recorded-faults c.args.self.now c.meet_fault.new.self c.meet_fault.ensures.unchanged

pub returns-in-DelayedFault-clause-listed : goal.returns-in-DelayedFault-clause-listed
returns-in-DelayedFault-clause-listed c = λ f p. ⊎_elim inl (λ q. inr (c.in-DelayedFault.is ∙ ap recorded.DelayedFault q)) (c.meet_fault.ensures.listed f p)

pub returns-in-Nothing-clause-goes_back : goal.returns-in-Nothing-clause-goes_back
returns-in-Nothing-clause-goes_back c = goes_back-same c.args.self.now
