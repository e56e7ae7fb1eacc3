use Rattle.std.proofs.Common.{[], Some, sym, ap, ◌∙◌}
use Rattle.std.specs.Option.{option_map}
use Rattle.std.proofs.lemmas.Result.{IfOk-weaker}
use Rattle.goal_lists.specs.Entries.{row_conditions}
use Rattle.goal_lists.specs.Interned.{erased_all}
use Rattle.goal_lists.specs.InternedEntries.{entries_at}
use Rattle.goal_lists.specs.TraitLists.{impl_match}
use Rattle.goal_lists.proofs.ListPartLemmas.{pushed-at, pushed-in, const_impl-list}
use Rattle.goal_lists.proofs.NamedRowLemmas.{pushed-named}
use Rattle.goal_lists.proofs.lists.effects.impl_list.Goals as goal

pub returns-then-row-clause-within : goal.returns-then-row-clause-within
returns-then-row-clause-within c T here =
    c.list_by_polarity.ensures.within T
    (pushed-in T c.push.new.self.items c.in_ok-entries.entries.items _ c.in_ok-push.ensures.items (c.in_ok-entries.ensures.within T here) tt)

pub returns-then-row-clause-list : goal.returns-then-row-clause-list
returns-then-row-clause-list c T =
    IfOk-weaker c.list_by_polarity.result _ _
    (λ o by. const_impl-list c.args.mode.now c.args.constness (erased_all T c.args.args.now) c.args.row.now _ (entries_at T c.push.new.self.items) c.if-row.true
    (pushed-at T c.push.new.self.items c.in_ok-entries.entries.items _ (impl_match c.args.row.now (erased_all T c.args.args.now) [])
    (row_conditions c.args.constness c.args.row.now.const_conditions.items 0) c.in_ok-push.ensures.items (c.in_ok-entries.ensures.entries T)
    (ap (λ rs. row_conditions c.args.constness rs 0) c.as_slice-conditions.ensures.value)) by)
    (c.list_by_polarity.ensures.list T)

pub returns-then-row-clause-named : goal.returns-then-row-clause-named
returns-then-row-clause-named c t found =
    c.list_by_polarity.ensures.named t
    (pushed-named t c.push.new.self.items c.in_ok-entries.entries.items _ c.in_ok-push.ensures.items (c.in_ok-entries.ensures.named t found)
    (ap (option_map (λ r. r.const_conditions.items)) found ∙ ap Some (sym c.as_slice-conditions.ensures.value)))
