use Rattle.std.proofs.Common.{◌≡◌, map, take}
use Rattle.goal_interner.specs.TableMeaning.{Keeps}
use Rattle.goal_lists.specs.Headers.{under}
use Rattle.goal_lists.specs.Interned.{AreIn, erased_all}
use Rattle.goal_eval.specs.Outcomes.{header_terms}
use Rattle.goal_eval.proofs.relate.header_args.instances.Given as goal

abbrev pub invariant-loop-argument : goal.invariant-loop-argument
invariant-loop-argument l = record {
  kept : Keeps l.initial.terms l.terms;
  within : AreIn l.terms l.ids.items;
  trees : erased_all l.terms l.ids.items ≡ map (under (erased_all l.initial.terms l.args)) (header_terms (take l.argument-index l.header));
}
