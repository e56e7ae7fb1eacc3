use Rattle.std.proofs.Common.{arith, ap, ◌∙◌}
use Rattle.goal_solver.proofs.GoingBackLemmas.{goes_back-same, goes_back-through}
use Rattle.goal_solver.proofs.ResponseLemmas.{equations-none, equations-more}
use Rattle.goal_solver.specs.State.{State}
use Rattle.goal_solver.proofs.context.EvalCtxt.add_equations.Goals as goal

pub loop-equation-init : goal.loop-equation-init
loop-equation-init c = record { added = equations-none c.args.self.now; back = goes_back-same c.args.self.now }

pub returns-in_err-add_equation-clause-goes_back : goal.returns-in_err-add_equation-clause-goes_back
returns-in_err-add_equation-clause-goes_back c =
    goes_back-through c.args.self.now c.loop-equation.self c.add_equation.new.self c.loop-equation.invariant.back c.add_equation.ensures.goes_back

pub loop-equation-preserved : goal.loop-equation-preserved
loop-equation-preserved c = record {
  added = equations-more c.args.self.now c.loop-equation.self c.add_equation.new.self c.args.equations.now c.loop-equation.equation-index _ (omega arith)
      c.loop-equation.invariant.added c.in_ok-add_equation.ensures.added;
  back = goes_back-through c.args.self.now c.loop-equation.self c.add_equation.new.self c.loop-equation.invariant.back c.add_equation.ensures.goes_back;
}

pub returns-in_err-add_equation-clause-faults : goal.returns-in_err-add_equation-clause-faults
returns-in_err-add_equation-clause-faults c =
    c.add_equation.ensures.faults ∙ ap (λ (s : State). s.delayed_faults) c.loop-equation.invariant.added

pub returns-clause-faults : goal.returns-clause-faults
returns-clause-faults c =
    ap (λ (s : State). s.delayed_faults) c.loop-equation.invariant.added
