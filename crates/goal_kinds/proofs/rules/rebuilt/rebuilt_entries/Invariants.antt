use Rattle.std.proofs.Common.{◌≡◌, map, take, Some}
use Rattle.std.specs.Prelude.{option_copied}
use Rattle.std.specs.List.{All, AllZip}
use Rattle.goal_tables.specs.declared.rows.Tables.{Tables}
use Rattle.goal_lists.specs.InternedEntries.{entries_at}
use Rattle.goal_lists.specs.NamedRows.{NamesItsRows, IsExpected}
use Rattle.goal_kinds.specs.RebuiltKeys.{KeepsKey}
use Rattle.goal_kinds.specs.RuleLists.{entry_of}
use Rattle.goal_kinds.specs.RuleWords.{TermsAreFor}
use Rattle.goal_kinds.proofs.rules.rebuilt.rebuilt_entries.Given as goal

abbrev pub invariant-loop-i : goal.invariant-loop-i
invariant-loop-i l =
    ((t : Tables) → All (NamesItsRows t) l.entries → map (entry_of t) l.made.items ≡ map Some (entries_at l.terms (take l.i l.entries)))
    × TermsAreFor (IsExpected (option_copied l.expected)) l.made.items
    × AllZip (KeepsKey l.terms) (take l.i l.entries) l.made.items
