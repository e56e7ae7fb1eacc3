use Rattle.std.proofs.Common.{arith}
use Rattle.goal_solver.proofs.GoingBackLemmas.{goes_back-same, goes_back-through}
use Rattle.goal_solver.proofs.ResponseLemmas.{listed-here, listed-first, listed-rest, listed-free, listed-bound, given-here, given-first, given-none}
use Rattle.goal_solver.proofs.context.EvalCtxt.give_values.Goals as goal

pub loop-value-init : goal.loop-value-init
loop-value-init c = record { listed = c.requires; given = λ z g. g; back = goes_back-same c.args.self.now }

pub variable_at-variable-requires : goal.variable_at-variable-requires
variable_at-variable-requires c =
    let here = listed-here c.loop-value.self c.args.values.now c.loop-value.value-index c.value-item.result (omega arith) c.value-item.is c.loop-value.invariant.listed in
    let first = listed-first c.loop-value.self c.value-item.result _ here in
    record { made = (first.0, first.1, first.2.made) }

pub bind_to-requires : goal.bind_to-requires
bind_to-requires c =
    let here = listed-here c.loop-value.self c.args.values.now c.loop-value.value-index c.value-item.result (omega arith) c.value-item.is c.loop-value.invariant.listed in
    let first = listed-first c.loop-value.self c.value-item.result _ here in
    record { free = listed-free c.loop-value.self c.value-item.result _ here _ _ c.view.ensures (c.variable_at-variable.ensures first.0 first.1 first.2.made) }

pub returns-in_err-bind_to-clause-goes_back : goal.returns-in_err-bind_to-clause-goes_back
returns-in_err-bind_to-clause-goes_back c = goes_back-through c.args.self.now c.loop-value.self c.bind_to.new.self c.loop-value.invariant.back c.bind_to.ensures.goes_back

pub loop-value-preserved : goal.loop-value-preserved
loop-value-preserved c =
    let here = listed-here c.loop-value.self c.args.values.now c.loop-value.value-index c.value-item.result (omega arith) c.value-item.is c.loop-value.invariant.listed in
    let first = listed-first c.loop-value.self c.value-item.result _ here in
    let bound = listed-bound c.loop-value.self c.bind_to.new.self c.value-item.result _ here _ _ c.view.ensures (c.variable_at-variable.ensures first.0 first.1 first.2.made) c.in_ok-bind_to.ensures.bound in
    record {
      listed = listed-rest c.loop-value.self c.value-item.result _ here c.bind_to.new.self bound;
      given = λ z g. c.loop-value.invariant.given z
          (given-here c.loop-value.self z c.args.values.now c.loop-value.value-index c.value-item.result (omega arith) c.value-item.is
          (given-first c.loop-value.self c.bind_to.new.self z c.value-item.result _ first.0 first.1 bound g));
      back = goes_back-through c.args.self.now c.loop-value.self c.bind_to.new.self c.loop-value.invariant.back c.bind_to.ensures.goes_back;
    }

pub returns-clause-given : goal.returns-clause-given
returns-clause-given c = c.loop-value.invariant.given c.loop-value.self (given-none c.loop-value.self c.args.values.now c.loop-value.value-index (omega arith))
