use Rattle.std.proofs.Common.{length, map, take}
use Rattle.std.specs.List.{AllZip}
use Rattle.goal_interner.specs.TableMeaning.{tree_at, AreBelow, Keeps}
use Rattle.goal_infer.proofs.FollowLemmas.{IsFollowed}
use Rattle.goal_infer.proofs.followed.follow_all.Given as goal

abbrev pub invariant-loop-id : goal.invariant-loop-id
invariant-loop-id l = record {
  kept : Keeps l.fn.table l.table;
  within : AreBelow (length l.table) l.numbers.items;
  followed : AllZip (IsFollowed l.fn.table l.state) (take l.id-index (map (tree_at l.fn.table) l.ids)) (map (tree_at l.table) l.numbers.items);
}
