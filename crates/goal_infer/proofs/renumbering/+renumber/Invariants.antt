use Rattle.std.proofs.Common.{◌≡◌, length, map, take}
use Rattle.goal_interner.specs.TableMeaning.{tree_at, AreBelow, Keeps}
use Rattle.goal_terms.specs.Tree.{parts_of}
use Rattle.goal_infer.specs.Renumbering.{renumbered}
use Rattle.goal_infer.proofs.renumbering.+renumber.Given as goal

abbrev pub decreases-renumber : goal.decreases-renumber
decreases-renumber l = l.id.0

abbrev pub invariant-loop-place : goal.invariant-loop-place
invariant-loop-place l = record {
  kept : Keeps l.fn.table l.table;
  within : AreBelow (length l.table) l.made.items;
  trees : map (tree_at l.table) l.made.items ≡ take l.place (map (renumbered l.numbers) (parts_of (tree_at l.fn.table l.fn.id)));
}
