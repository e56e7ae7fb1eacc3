use Rattle.std.proofs.Common.{◌∙◌, [], ap, arith, map, Some, sym, subst}
use Rattle.std.specs.List.{AllZip}
use Rattle.std.specs.Prelude.{option_copied}
use Rattle.goal_lists.specs.Entries.{ExpectsNone}
use Rattle.goal_lists.specs.InternedEntries.{entry_at}
use Rattle.goal_lists.specs.NamedRows.{IsExpected, IsSorted, NamesItsRows}
use Rattle.goal_kinds.specs.RebuiltKeys.{KeepsKey}
use Rattle.goal_kinds.specs.RuleLists.{entry_of}
use Rattle.goal_kinds.specs.RuleWords.{TermsAreFor}
use Rattle.goal_kinds.proofs.RebuiltLemmas.{sorted-at, asks-at, entries-more, entries-all, for-more, keys-more, keys-all}
use Rattle.goal_kinds.proofs.rules.rebuilt.rebuilt_entries.Goals as goal

pub loop-i-init : goal.loop-i-init
unfolding TermsAreFor
loop-i-init c = (
  λ t named. ap (map (entry_of t)) c.in_ok-made.ensures.items,
  subst (TermsAreFor (IsExpected (option_copied c.args.expected))) (sym c.in_ok-made.ensures.items) tt,
  subst (AllZip (KeepsKey c.args.terms.now) []) (sym c.in_ok-made.ensures.items) tt,
)

pub rebuilt_entry-requires-clause-sorted : goal.rebuilt_entry-requires-clause-sorted
rebuilt_entry-requires-clause-sorted c =
    subst (λ e. IsSorted (entry_at c.args.terms.now e)) (sym c.index-entries-i.is)
    (sorted-at c.args.terms.now c.args.entries.now c.loop-i.i c.index-entries-i.result c.loop-i-test.true c.requires.sorted)

pub rebuilt_entry-requires-clause-asked : goal.rebuilt_entry-requires-clause-asked
rebuilt_entry-requires-clause-asked c = λ none.
    subst (λ e. ExpectsNone (entry_at c.args.terms.now e)) (sym c.index-entries-i.is)
    (asks-at c.args.terms.now c.args.entries.now c.loop-i.i c.index-entries-i.result c.loop-i-test.true (c.requires.asked none))

pub loop-i-preserved : goal.loop-i-preserved
loop-i-preserved c = (
  λ t named.
      entries-more t c.args.terms.now c.args.entries.now c.loop-i.i c.index-entries-i.result c.loop-i.made.items c.push.new.self.items c.in_ok-entry.entry
      c.loop-i-test.true (c.loop-i.invariant.0 t named)
      (c.in_ok-entry.ensures.entry t (subst (NamesItsRows t) (sym c.index-entries-i.is) (named c.loop-i.i c.index-entries-i.result c.loop-i-test.true))
      ∙ ap (λ e. Some (entry_at c.args.terms.now e)) c.index-entries-i.is) c.in_ok-push.ensures.items,
  subst (TermsAreFor (IsExpected (option_copied c.args.expected))) (sym c.in_ok-push.ensures.items)
      (for-more (IsExpected (option_copied c.args.expected)) c.loop-i.made.items c.in_ok-entry.entry c.loop-i.invariant.1 c.in_ok-entry.ensures.expected),
  keys-more c.args.terms.now c.args.entries.now c.loop-i.i c.index-entries-i.result c.loop-i.made.items c.push.new.self.items c.in_ok-entry.entry c.loop-i-test.true
      c.loop-i.invariant.2 (subst (λ e. KeepsKey c.args.terms.now e c.in_ok-entry.entry) c.index-entries-i.is c.in_ok-entry.ensures.key) c.in_ok-push.ensures.items,
)

pub returns-clause-expected : goal.returns-clause-expected
returns-clause-expected c = c.loop-i.invariant.1

pub returns-clause-entries : goal.returns-clause-entries
returns-clause-entries c = λ t named. entries-all t c.args.terms.now c.args.entries.now c.loop-i.i c.loop-i.made.items (omega arith) (c.loop-i.invariant.0 t named)

pub returns-clause-keys : goal.returns-clause-keys
returns-clause-keys c = keys-all c.args.terms.now c.args.entries.now c.loop-i.i c.loop-i.made.items (omega arith) c.loop-i.invariant.2
