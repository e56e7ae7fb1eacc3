-- What an opaque type that is being defined comes to.
use Rattle.std.specs.Prelude.{List}
use Rattle.goal_terms.specs.Tree.{Tree}
use Rattle.goal_tables.specs.declared.rows.OpaqueRow.{OpaqueRow}
use Rattle.goal_lists.specs.Aliases.{CheckedGives, CheckedRefuted}
use Rattle.goal_lists.specs.Level.{Level}
use Rattle.goal_lists.specs.declared.outcomes.Outcome.{Outcome}
use Rattle.goal_lists.specs.declared.outcomes.Outcome.TheVariants as outcome
use Rattle.goal_eval.specs.Outcomes.{SaysWhich}
use Rattle.goal_eval.specs.declared.eval.outcomes.Found.{Found}
use Rattle.goal_eval.specs.declared.eval.outcomes.Found.TheVariants as found

-- what was found, where something else holds; it is refuted where either is
abbrev pub found_where : Outcome → Found → Found
found_where outcome.Holds f = f
found_where outcome.Refuted f = found.Refuted
found_where outcome.Undecided found.Refuted = found.Refuted
found_where outcome.Undecided found.Undecided = found.Undecided
found_where outcome.Undecided (found.Is id) = found.Undecided

-- what is found of the type that type checking found
abbrev pub SaysChecked : Level → List Tree → OpaqueRow → List Tree → Found → Type 0
SaysChecked L args r T f = SaysWhich (λ u. CheckedGives L args u r) (CheckedRefuted L args r) T f
