use Rattle.std.proofs.Common.{length, map, take}
use Rattle.std.specs.List.{AllZip}
use Rattle.goal_interner.specs.TableMeaning.{tree_at, AreBelow, Keeps}
use Rattle.goal_terms.specs.Tree.{parts_of}
use Rattle.goal_infer.specs.FreshLifetimes.{IsFreshened}
use Rattle.goal_infer.proofs.fresh_lifetimes.+with_fresh_lifetimes.Given as goal

abbrev pub decreases-with_fresh_lifetimes : goal.decreases-with_fresh_lifetimes
decreases-with_fresh_lifetimes l = l.id.0

abbrev pub invariant-loop-place : goal.invariant-loop-place
invariant-loop-place l = record {
  kept : Keeps l.fn.table l.table;
  within : AreBelow (length l.table) l.made.items;
  fresh : AllZip IsFreshened (take l.place (parts_of (tree_at l.fn.table l.fn.id))) (map (tree_at l.table) l.made.items);
}
