use Rattle.goal_solver.proofs.EvaluationLemmas.{says-interned, interned-unchanged, interned-caused, interned-ends, interned-stops}
use Rattle.goal_solver.proofs.GoalOutcomeLemmas.{grown-goes_back, grown-then_back}
use Rattle.goal_interner.proofs.InternLemmas.{keeps-chain}
use Rattle.goal_solver.proofs.AccessLemmas.{none-recorded}
use Rattle.goal_solver.specs.State.{State}
use Rattle.std.proofs.Common.{ap}
use Rattle.goal_solver.proofs.context.EvalCtxt.predicate_goal_outcome.Goals as goal

pub returns-in_err-predicate-clause-goes_back : goal.returns-in_err-predicate-clause-goes_back
returns-in_err-predicate-clause-goes_back c = grown-goes_back c.args.self.now c.interned_predicate.new.self c.interned_predicate.ensures.unchanged c.interned_predicate.ensures.kept

pub returns-in_err-predicate-clause-caused : goal.returns-in_err-predicate-clause-caused
returns-in_err-predicate-clause-caused c = none-recorded c.args.self.now c.interned_predicate.new.self (ap (λ (s : State). s.accesses) c.interned_predicate.ensures.unchanged)

pub returns-clause-kept : goal.returns-clause-kept
returns-clause-kept c = keeps-chain c.args.self.now.terms c.interned_predicate.new.self.terms c.evaluate_predicate.new.self.terms c.interned_predicate.ensures.kept c.evaluate_predicate.ensures.kept

pub returns-clause-unchanged : goal.returns-clause-unchanged
returns-clause-unchanged c = interned-unchanged c.args.self.now c.interned_predicate.new.self c.evaluate_predicate.new.self c.interned_predicate.ensures.unchanged c.evaluate_predicate.ensures.unchanged

pub returns-clause-goes_back : goal.returns-clause-goes_back
returns-clause-goes_back c = grown-then_back c.args.self.now c.interned_predicate.new.self c.evaluate_predicate.new.self c.interned_predicate.ensures.unchanged c.interned_predicate.ensures.kept c.evaluate_predicate.ensures.goes_back

pub returns-clause-caused : goal.returns-clause-caused
returns-clause-caused c = interned-caused c.args.self.now c.interned_predicate.new.self c.evaluate_predicate.new.self c.interned_predicate.ensures.unchanged c.evaluate_predicate.ensures.caused

pub returns-clause-ends : goal.returns-clause-ends
returns-clause-ends c = interned-ends c.args.self.now c.interned_predicate.new.self c.evaluate_predicate.result c.interned_predicate.ensures.unchanged c.interned_predicate.ensures.kept c.evaluate_predicate.ensures.ends

pub returns-clause-stops : goal.returns-clause-stops
returns-clause-stops c = interned-stops c.args.self.now c.interned_predicate.new.self c.evaluate_predicate.result c.interned_predicate.ensures.unchanged c.evaluate_predicate.ensures.stops

pub returns-clause-says : goal.returns-clause-says
returns-clause-says c =
    says-interned c.args.self.now c.interned_predicate.new.self c.evaluate_predicate.new.self c.args.environment.now _ _ c.evaluate_predicate.result c.interned_predicate.ensures.unchanged c.in_ok-predicate.ensures.trees c.evaluate_predicate.ensures.says
