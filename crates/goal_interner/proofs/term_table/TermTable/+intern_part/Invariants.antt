use Rattle.std.proofs.Common.{◌≡◌, ◌≤◌, ◌+◌, length, map, take}
use Rattle.goal_terms.specs.Tree.{tree_size}
use Rattle.goal_interner.specs.TableMeaning.{tree_at, AreBelow, Keeps}
use Rattle.goal_terms.specs.View.{tree_of_ref, trees_seen}
use Rattle.goal_terms.proofs.SizeLemmas.{sizes}
use Rattle.goal_interner.proofs.term_table.TermTable.+intern_part.Given as goal

abbrev pub decreases-intern_part : goal.decreases-intern_part
decreases-intern_part l = tree_size (tree_of_ref l.term)

abbrev pub invariant-loop-i : goal.invariant-loop-i
invariant-loop-i l = record {
  kept : Keeps l.initial.self l.self;
  within : AreBelow (length l.self) l.numbers.items;
  grown : length l.self ≤ length l.initial.self + sizes (take l.i (trees_seen l.parts));
  trees : map (tree_at l.self) l.numbers.items ≡ take l.i (trees_seen l.parts);
}
