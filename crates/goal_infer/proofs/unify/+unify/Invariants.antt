use Rattle.std.proofs.Common.{◌≢◌}
use Rattle.goal_infer.specs.Unification.{sides, IsUnified, IsDecidedWherePlain, IsIdentified, IsUntouched, Advances}
use Rattle.goal_infer.specs.declared.unify.Unified.TheVariants.{No}
use Rattle.goal_infer.proofs.PairLemmas.{SameBelow}
use Rattle.goal_infer.proofs.unify.+unify.Given as goal
use Rattle.goal_infer.proofs.WorkLemmas.{work}

abbrev pub decreases-unify : goal.decreases-unify
decreases-unify l = work l.table.now l.state.now l.left

abbrev pub invariant-loop-i : goal.invariant-loop-i
invariant-loop-i l = record {
  advances : Advances l.table l.fn.state l.state;
  said : IsUnified l.table l.fn.state l.state (SameBelow l.table l.parts l.others l.i) l.answer;
  going : l.answer ≢ No;
  plain : IsDecidedWherePlain l.table l.fn.state l.state (sides l.fn.left l.fn.right) l.answer;
  identified : IsIdentified l.table l.fn.state l.state (sides l.fn.left l.fn.right) l.answer;
  closed : IsUntouched l.table l.fn.state l.state l.fn.left l.fn.right;
}
