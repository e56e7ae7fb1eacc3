use Rattle.std.proofs.Common.{◌≡◌, length, map, take}
use Rattle.std.specs.Prelude.{IsTrue}
use Rattle.std.specs.List.{AllZip}
use Rattle.goal_interner.specs.TableMeaning.{tree_at, AreBelow, Keeps}
use Rattle.goal_terms.specs.Tree.{parts_of}
use Rattle.goal_infer.specs.Resolution.{resolved}
use Rattle.goal_infer.proofs.FollowLemmas.{IsFollowed}
use Rattle.goal_infer.proofs.ReplacementLemmas.{height}
use Rattle.goal_infer.proofs.followed.+follow.Given as goal

abbrev pub decreases-follow : goal.decreases-follow
decreases-follow l = height (resolved l.table.now l.state.now l.id)

abbrev pub invariant-loop-place : goal.invariant-loop-place
invariant-loop-place l = record {
  kept : Keeps l.fn.table l.table;
  within : AreBelow (length l.table) l.numbers.items;
  followed : AllZip (IsFollowed l.fn.table l.state) (take l.place (parts_of (tree_at l.fn.table l.top))) (map (tree_at l.table) l.numbers.items);
  unchanged : IsTrue l.unchanged → map (tree_at l.table) l.numbers.items ≡ take l.place (parts_of (tree_at l.fn.table l.top));
}
