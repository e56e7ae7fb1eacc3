use Rattle.std.proofs.Common.{Some, ap, sym, ◌∙◌}
use Rattle.goal_terms.specs.NodeTests.{general_variable_at}
use Rattle.goal_solver.proofs.OpenGoalLemmas.{general-left}
use Rattle.goal_solver.proofs.assembly.formed_rules.form_to_consider.Goals as goal

pub returns-then-is_some : goal.returns-then-is_some
returns-then-is_some c =
    general-left c.args.found c.in-Some-Ty.form c.general_variable.result (c.in-Some-Ty.is ∙ ap Some c.in-Some-Ty.field-0-is) (c.general_variable.ensures ∙ ap general_variable_at c.node.ensures)
    (sym c.is_some.ensures ∙ c.if-is_some.true)
