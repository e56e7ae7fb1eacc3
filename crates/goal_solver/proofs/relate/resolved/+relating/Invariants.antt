use Rattle.std.proofs.Common.{◌≡◌, ◌+◌, ◌*◌, take}
use Rattle.goal_interner.specs.TableMeaning.{Keeps}
use Rattle.goal_lists.specs.Interned.{erased_all}
use Rattle.goal_eval.specs.Effects.{AreSound}
use Rattle.goal_solver.specs.Settled.{AreSettled}
use Rattle.goal_lists.specs.declared.outcomes.Outcome.TheVariants as outcome
use Rattle.goal_eval.proofs.PendingLemmas.{ceiling}
use Rattle.goal_solver.proofs.relate.resolved.+relating.Given as goal

abbrev pub decreases-relate_resolved : goal.decreases-relate_resolved
decreases-relate_resolved l = 2 * l.left.0 + 1

abbrev pub decreases-relate_resolved_lists : goal.decreases-relate_resolved_lists
decreases-relate_resolved_lists l = 2 * ceiling l.left.now

abbrev pub invariant-relate_resolved_lists-loop-i : goal.invariant-relate_resolved_lists-loop-i
invariant-relate_resolved_lists-loop-i l = record {
  effects : AreSound l.under.setting.now l.terms l.effects;
  kept : Keeps l.fn.terms l.terms;
  settled : AreSettled l.under.setting.now l.under.opens l.under.depth (take l.i (erased_all l.fn.terms l.left)) (take l.i (erased_all l.fn.terms l.right)) l.outcome;
  same : erased_all l.fn.terms l.left ≡ erased_all l.fn.terms l.right → l.outcome ≡ outcome.Holds;
}
