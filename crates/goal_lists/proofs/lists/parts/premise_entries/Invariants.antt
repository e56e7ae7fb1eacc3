use Rattle.std.proofs.Common.{◌≡◌, ◌++◌, List, map}
use Rattle.std.specs.List.{All}
use Rattle.goal_terms.specs.Tree.{Tree}
use Rattle.goal_lists.specs.Entries.{premise_entries}
use Rattle.goal_lists.specs.Interned.{PremiseIn, premise_at}
use Rattle.goal_lists.specs.InternedEntries.{EntriesIn, entries_at}
use Rattle.goal_lists.proofs.lists.parts.premise_entries.Given as goal

abbrev pub invariant-loop-premise : goal.invariant-loop-premise
invariant-loop-premise l = record {
  within : (T : List Tree) → All (PremiseIn T) l.fn.premises.items → EntriesIn T l.entries.items × All (PremiseIn T) l.premise-iterator.rest.items;
  so_far :
      (T : List Tree) →
      entries_at T l.entries.items ++ premise_entries l.fn.source (map (premise_at T) l.premise-iterator.rest.items)
      ≡ premise_entries l.fn.source (map (premise_at T) l.fn.premises.items);
}
