use Rattle.std.proofs.Common.{◌≡◌}
use Rattle.std.specs.Prelude.{fold}
use Rattle.goal_interner.specs.TableMeaning.{tree_at}
use Rattle.goal_infer.specs.RegionEquations.{own_numbers, with_number}
use Rattle.goal_infer.proofs.RegionEquationLemmas.{numbers_from}
use Rattle.goal_infer.proofs.region_equations.own_numbers.Given as goal

abbrev pub invariant-loop-part : goal.invariant-loop-part
invariant-loop-part l =
    fold with_number l.numbers.items (numbers_from l.table 0 l.part-items l.part-index) ≡ own_numbers (tree_at l.table l.fn.id)
