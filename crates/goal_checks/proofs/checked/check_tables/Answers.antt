use Rattle.std.proofs.Common.{◌≢◌, subst}
use Rattle.std.proofs.lemmas.Result.{IfErr-weaker}
use Rattle.goal_tables.specs.Faults.{IsSmallestFault}
use Rattle.goal_tables.specs.declared.faults.TableFault.{TableFault}
use Rattle.goal_tables.specs.declared.faults.TableFault.TheVariants as fault
use Rattle.goal_tables.specs.declared.rows.Tables.{Tables}
use Rattle.goal_checks.proofs.checked.check_tables.Goals as goal

pub returns-in-Ok-clause-refused : goal.returns-in-Ok-clause-refused
returns-in-Ok-clause-refused c =
    let Q : TableFault → Type 0 = λ f. f ≢ fault.OutOfMemory → IsSmallestFault c.args.tables f in
    let moved : (f : TableFault) → IsSmallestFault c.in-Ok.indexed f → Q f =
    λ f small _. subst (λ (t : Tables). IsSmallestFault t f) c.in-Ok.ensures small in
    IfErr-weaker c.new-in-Ok.result (IsSmallestFault c.in-Ok.indexed) Q moved c.new-in-Ok.ensures.refused
