use Rattle.goal_solver.proofs.EvaluationLemmas.{term-interned, interned-unchanged, interned-caused, interned-ends, interned-stops}
use Rattle.goal_solver.proofs.GoalOutcomeLemmas.{grown-goes_back, grown-then_back}
use Rattle.goal_interner.proofs.InternLemmas.{keeps-chain}
use Rattle.goal_solver.proofs.AccessLemmas.{none-recorded}
use Rattle.goal_solver.specs.State.{State}
use Rattle.std.proofs.Common.{ap, ◌∙◌}
use Rattle.goal_lists.specs.Interned.{erased_all}
use Rattle.goal_eval.specs.ErasedArgs.{erased_args}
use Rattle.goal_solver.proofs.context.EvalCtxt.alias_outcome.Goals as goal

pub returns-in_err-args-clause-goes_back : goal.returns-in_err-args-clause-goes_back
returns-in_err-args-clause-goes_back c = grown-goes_back c.args.self.now c.interned_args.new.self c.interned_args.ensures.unchanged c.interned_args.ensures.kept

pub returns-in_err-args-clause-caused : goal.returns-in_err-args-clause-caused
returns-in_err-args-clause-caused c = none-recorded c.args.self.now c.interned_args.new.self (ap (λ (s : State). s.accesses) c.interned_args.ensures.unchanged)

pub returns-clause-kept : goal.returns-clause-kept
returns-clause-kept c = keeps-chain c.args.self.now.terms c.interned_args.new.self.terms c.evaluate_alias.new.self.terms c.interned_args.ensures.kept c.evaluate_alias.ensures.kept

pub returns-clause-unchanged : goal.returns-clause-unchanged
returns-clause-unchanged c = interned-unchanged c.args.self.now c.interned_args.new.self c.evaluate_alias.new.self c.interned_args.ensures.unchanged c.evaluate_alias.ensures.unchanged

pub returns-clause-goes_back : goal.returns-clause-goes_back
returns-clause-goes_back c = grown-then_back c.args.self.now c.interned_args.new.self c.evaluate_alias.new.self c.interned_args.ensures.unchanged c.interned_args.ensures.kept c.evaluate_alias.ensures.goes_back

pub returns-clause-caused : goal.returns-clause-caused
returns-clause-caused c = interned-caused c.args.self.now c.interned_args.new.self c.evaluate_alias.new.self c.interned_args.ensures.unchanged c.evaluate_alias.ensures.caused

pub returns-clause-ends : goal.returns-clause-ends
returns-clause-ends c = interned-ends c.args.self.now c.interned_args.new.self c.evaluate_alias.result c.interned_args.ensures.unchanged c.interned_args.ensures.kept c.evaluate_alias.ensures.ends

pub returns-clause-stops : goal.returns-clause-stops
returns-clause-stops c = interned-stops c.args.self.now c.interned_args.new.self c.evaluate_alias.result c.interned_args.ensures.unchanged c.evaluate_alias.ensures.stops

pub returns-clause-says : goal.returns-clause-says
returns-clause-says c =
    term-interned c.args.self.now c.interned_args.new.self c.evaluate_alias.new.self c.args.environment.now c.args.alias.now.kind _ _ c.evaluate_alias.result c.interned_args.ensures.unchanged (ap (erased_all c.interned_args.new.self.terms) c.deref-2.ensures.value ∙ c.in_ok-args.ensures.trees ∙ ap erased_args c.deref.ensures.value) c.evaluate_alias.ensures.says
