use Rattle.std.proofs.Common.{◌≡◌, map, take}
use Rattle.goal_interner.specs.TableMeaning.{Keeps}
use Rattle.goal_terms.specs.TreeOf.{tree_of_arg}
use Rattle.goal_lists.specs.Headers.{under}
use Rattle.goal_lists.specs.Interned.{AreIn, erased_all}
use Rattle.goal_lists.proofs.candidates.premises.args_under.Given as goal

abbrev pub invariant-loop-i : goal.invariant-loop-i
invariant-loop-i l = record {
  kept : Keeps l.initial.terms l.terms;
  within : AreIn l.terms l.ids.items;
  trees : erased_all l.terms l.ids.items ≡ map (λ a. under (erased_all l.initial.terms l.args) (tree_of_arg a)) (take l.i l.given);
}
