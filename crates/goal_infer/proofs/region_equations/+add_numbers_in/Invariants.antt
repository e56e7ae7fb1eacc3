use Rattle.std.proofs.Common.{◌≡◌}
use Rattle.std.specs.Prelude.{fold}
use Rattle.goal_interner.specs.TableMeaning.{tree_at}
use Rattle.goal_infer.specs.RegionEquations.{numbers_in, with_number}
use Rattle.goal_infer.proofs.RegionEquationLemmas.{numbers_from}
use Rattle.goal_infer.proofs.region_equations.+add_numbers_in.Given as goal

abbrev pub decreases-add_numbers_in : goal.decreases-add_numbers_in
decreases-add_numbers_in l = l.id.0

abbrev pub invariant-loop-part : goal.invariant-loop-part
invariant-loop-part l =
    fold with_number l.numbers.items (numbers_from l.table l.below l.part-items l.part-index)
    ≡ fold with_number l.fn.numbers.items (numbers_in l.fn.depth (tree_at l.table l.fn.id))
