use Rattle.std.proofs.Common.{◌∙◌, inr, sym}
use Rattle.goal_solver.proofs.assembly.formed_rules.considered_for.Goals as goal

pub returns-then-has_kind_fault-clause-passes : goal.returns-then-has_kind_fault-clause-passes
returns-then-has_kind_fault-clause-passes g c = λ none.
    inr (
      c.in_ok-replaced.replaced,
      record { form = c.in-Some.form; found = c.in-Some.ensures.0; general = c.in-Some.ensures.1; replaced = c.in_ok-replaced.ensures.replaced; environment = c.in_ok-replaced.ensures.environment },
      sym c.has_kind_fault.ensures ∙ c.if-has_kind_fault.true,
    )
