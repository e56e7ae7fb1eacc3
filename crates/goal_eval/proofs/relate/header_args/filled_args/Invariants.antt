use Rattle.std.proofs.Common.{take}
use Rattle.goal_interner.specs.TableMeaning.{Keeps}
use Rattle.goal_lists.specs.Interned.{AreIn}
use Rattle.goal_eval.specs.Effects.{KeepsButRegions}
use Rattle.goal_eval.specs.HeaderWords.{AreFilled}
use Rattle.goal_eval.proofs.relate.header_args.filled_args.Given as goal

abbrev pub invariant-loop-one : goal.invariant-loop-one
invariant-loop-one l = record {
  kept : Keeps l.initial.terms l.terms;
  within : AreIn l.terms l.args.items;
  filled : AreFilled l.terms (take l.one-index l.known) l.args.items;
  aside : KeepsButRegions l.initial.effects l.effects;
}
