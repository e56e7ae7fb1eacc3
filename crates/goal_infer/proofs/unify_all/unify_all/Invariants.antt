use Rattle.std.proofs.Common.{◌≢◌}
use Rattle.goal_infer.specs.ListUnification.{AreIdentified, AreUntouched}
use Rattle.goal_infer.specs.Unification.{sides, IsUnified, Advances}
use Rattle.goal_infer.specs.declared.unify.Unified.TheVariants.{No}
use Rattle.goal_infer.proofs.ListLemmas.{AreKeptPlain}
use Rattle.goal_infer.proofs.PairLemmas.{SameBelow}
use Rattle.goal_infer.proofs.unify_all.unify_all.Given as goal

abbrev pub invariant-loop-i : goal.invariant-loop-i
invariant-loop-i l = record {
  advances : Advances l.table l.fn.state l.state;
  said : IsUnified l.table l.fn.state l.state (SameBelow l.table l.left l.right l.i) l.answer;
  going : l.answer ≢ No;
  plain : AreKeptPlain l.table l.fn.state l.state l.left l.right l.answer;
  identified : AreIdentified l.table l.fn.state l.state (sides l.left l.right) l.answer;
  closed : AreUntouched l.table l.fn.state l.state l.left l.right;
}
