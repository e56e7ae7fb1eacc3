use Rattle.std.proofs.Common.{◌≡◌}
use Rattle.goal_interner.specs.TableMeaning.{tree_at}
use Rattle.goal_infer.specs.RegionEquations.{AddsRegions, equated_in}
use Rattle.goal_infer.proofs.RegionEquationLemmas.{equated_from}
use Rattle.goal_infer.proofs.region_equations.+equate.Given as goal

abbrev pub decreases-equate : goal.decreases-equate
decreases-equate l = l.left.0

abbrev pub invariant-loop-i : goal.invariant-loop-i
invariant-loop-i l = record {
  scopes : l.scopes ≡ l.initial.scopes;
  equated : equated_from l.table l.initial.scopes l.parts l.others l.i l.state
      ≡ equated_in l.fn.scopes (tree_at l.table l.fn.left) (tree_at l.table l.fn.right) l.fn.state;
  adds : AddsRegions l.fn.state l.state;
}
