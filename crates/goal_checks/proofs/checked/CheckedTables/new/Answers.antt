use Rattle.std.specs.Prelude.{find}
use Rattle.std.proofs.Common.{◌∙◌, ap, sym}
use Rattle.goal_tables.specs.Faults.{applies, all_faults}
use Rattle.goal_checks.proofs.FaultLemmas.{smallest}
use Rattle.goal_checks.proofs.checked.CheckedTables.new.Goals as goal

pub returns-in-Some-clause-refused : goal.returns-in-Some-clause-refused
returns-in-Some-clause-refused c =
    smallest c.args.indexed c.in-Some.fault
    (sym (ap (λ t. find (λ f. applies t f) all_faults) c.of.ensures) ∙ sym c.first_fault.ensures ∙ c.in-Some.is)
