use Rattle.std.proofs.Common.{◌≡◌, ◌++◌, [], length, take}
use Rattle.goal_infer.specs.RegionEquations.{numbered, with_regions}
use Rattle.goal_infer.proofs.region_equations.enter.Given as goal

abbrev pub invariant-loop-number : goal.invariant-loop-number
invariant-loop-number l = record {
  entered : l.entered.items ≡ l.fn.entered.items ++ numbered l.binder (length l.fn.state.variables) (take l.number-index l.number-items);
  made : l.state ≡ with_regions l.number-index [] l.fn.state;
}
