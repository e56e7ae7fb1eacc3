use Rattle.std.proofs.Common.{◌≡◌, List, map, take}
use Rattle.std.specs.List.{All}
use Rattle.goal_terms.specs.PredicateTrees.{holds_const}
use Rattle.goal_terms.specs.Tree.{Tree}
use Rattle.goal_lists.specs.Entries.{clause}
use Rattle.goal_lists.specs.Interned.{TraitIn, erased_all}
use Rattle.goal_lists.specs.InternedEntries.{EntriesIn, entries_at}
use Rattle.goal_lists.proofs.lists.parts.condition_entries.Given as goal

abbrev pub invariant-loop-i : goal.invariant-loop-i
invariant-loop-i l = record {
  within : (T : List Tree) → All (TraitIn T) l.conditions → EntriesIn T l.entries.items;
  so_far :
      (T : List Tree) →
      entries_at T l.entries.items
      ≡ map (λ r. clause l.fn.source (holds_const l.fn.constness r.def_id (erased_all T r.args.items))) (take l.i l.conditions);
}
