use Rattle.std.proofs.Common.{◌≡◌, ◌≤◌, ◌+◌, length, map, take}
use Rattle.goal_terms.specs.Folding.{folded, shifting}
use Rattle.goal_interner.specs.TableMeaning.{tree_at, AreBelow, Keeps}
use Rattle.goal_terms.specs.Tree.{parts_of}
use Rattle.goal_terms.proofs.SizeLemmas.{sizes}
use Rattle.goal_interner.proofs.term_table.TermTable.+shift_number.Given as goal

abbrev pub decreases-shift_number : goal.decreases-shift_number
decreases-shift_number l = l.id.0

abbrev pub invariant-loop-place : goal.invariant-loop-place
invariant-loop-place l = record {
  kept : Keeps l.initial.self l.self;
  within : AreBelow (length l.self) l.numbers.items;
  grown : length l.self ≤ length l.initial.self + sizes (take l.place (map (folded (shifting l.by) l.below) (parts_of (tree_at l.initial.self l.id))));
  trees : map (tree_at l.self) l.numbers.items ≡ take l.place (map (folded (shifting l.by) l.below) (parts_of (tree_at l.initial.self l.id)));
}
