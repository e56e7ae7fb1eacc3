use Rattle.std.proofs.Common.{◌∙◌, ap, map, Some, sym, subst}
use Rattle.std.specs.Prelude.{option_copied}
use Rattle.std.specs.List.{All}
use Rattle.goal_lists.specs.InternedEntries.{entries_at, list_at}
use Rattle.goal_lists.specs.NamedRows.{IsExpected, NamesItsRows, ListNamesItsRows}
use Rattle.goal_kinds.specs.RuleLists.{IsListed, list_then}
use Rattle.goal_kinds.proofs.ExpectedLemmas.{after-for}
use Rattle.goal_kinds.proofs.ListedRules.{listed-then}
use Rattle.goal_kinds.proofs.rules.rebuilt.rule_of_list.Goals as goal

pub returns-clause-listed : goal.returns-clause-listed
returns-clause-listed c = λ t named.
    subst (λ o. IsListed t (record { source = c.args.source; entries = c.in_ok-entries.entries }) (list_then c.args.then (list_at c.args.terms.now o))) (sym c.in-Some.is)
    (listed-then t c.in_ok-made.made.items c.in_ok-entries.entries.items (entries_at c.args.terms.now c.in-Some.entries.items) c.args.then
    (c.in_ok-made.ensures.entries t (subst (All (NamesItsRows t)) (sym c.deref.ensures.value) (subst (ListNamesItsRows t) c.in-Some.is named))
    ∙ ap (λ es. map Some (entries_at c.args.terms.now es)) c.deref.ensures.value) c.in_ok-entries.ensures)

pub returns-clause-expected : goal.returns-clause-expected
returns-clause-expected c =
    after-for (IsExpected (option_copied c.args.expected)) c.in_ok-entries.entries.items c.in_ok-made.made.items c.args.then c.in_ok-entries.ensures
    c.in_ok-made.ensures.expected
